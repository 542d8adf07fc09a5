-- A packed crossing has its column and its inclusion, and whatever number is read as one has an inclusion of at most 2.
use mathlib.Core.Path.{◌≡◌, refl, sym, ap, ◌∙◌, subst}
use mathlib.Core.Bool.{Bool, true, false, cond}
use Prim.Native.Nat.{ℕ, zero, suc, ◌+◌, ◌*◌, ◌%◌, ◌≤◌}
use native.Mathlib.Omega.{arith}
use lib.Dec.{eqb, T}
use lib.IntN.{ℤ, pos, negsuc, nat_abs}
use mir.Syntax.{w32}
use mir.Val.{SFits, of_z, to_z}
use mir.Facts.{to_z-of_z}
use Rattle.list_words.specs.Lists.{nonzero}
use Rattle.layouts.specs.Words.{code, packed, column, inclusion}

code_small : (n : ℤ) → code n ≤ 3
code_small (negsuc (suc n)) = omega arith
code_small (negsuc zero) = omega arith
code_small (pos zero) = omega arith
code_small (pos (suc zero)) = omega arith
code_small (pos (suc (suc n))) = omega arith

pub column_packed : (c : ℕ) (n : ℤ) → column (packed (c, n)) ≡ c
unfolding column packed
column_packed c n = omega (arith, code_small n)

-- what the four tests say of an inclusion
abbrev pub read : ℕ → ℤ
read k = cond (eqb k 3) (pos 2) (cond (eqb k 2) (pos 1) (cond (eqb k 1) (negsuc 0) (negsuc 1)))

read_code : (n : ℤ) → nat_abs n ≤ 2 → nonzero n ≡ true → read (code n) ≡ n
read_code (negsuc (suc zero)) h e = refl
read_code (negsuc (suc (suc n))) h e = absurd (omega arith)
read_code (negsuc zero) h e = refl
read_code (pos zero) h e = absurd (subst T (sym e) tt)
read_code (pos (suc zero)) h e = refl
read_code (pos (suc (suc zero))) h e = refl
read_code (pos (suc (suc (suc n)))) h e = absurd (omega arith)

pub inclusion_packed : (c : ℕ) (n : ℤ) → nat_abs n ≤ 2 → nonzero n ≡ true → inclusion (packed (c, n)) ≡ n
unfolding inclusion packed
inclusion_packed c n h e = let r : (4 * c + code n) % 4 ≡ code n = omega (arith, code_small n) in ap read r ∙ read_code n h e

pub inclusion_small : (x : ℕ) → nat_abs (inclusion x) ≤ 2
unfolding inclusion
inclusion_small x = go (eqb (x % 4) 3) (eqb (x % 4) 2) (eqb (x % 4) 1)
  where
    go : (p q r : Bool) → nat_abs (cond p (pos 2) (cond q (pos 1) (cond r (negsuc 0) (negsuc 1)))) ≤ 2
    go true q r = omega arith
    go false true r = omega arith
    go false false true = omega arith
    go false false false = omega arith

pub inclusion_counts : (x : ℕ) → nonzero (inclusion x) ≡ true
unfolding inclusion
inclusion_counts x = go (eqb (x % 4) 3) (eqb (x % 4) 2) (eqb (x % 4) 1)
  where
    go : (p q r : Bool) → nonzero (cond p (pos 2) (cond q (pos 1) (cond r (negsuc 0) (negsuc 1)))) ≡ true
    go true q r = refl
    go false true r = refl
    go false false true = refl
    go false false false = refl

-- ---- the tests of an i32

pub is : {z : ℤ} (k : ℕ) → SFits w32 z → of_z w32 z ≡ k → z ≡ to_z w32 k
is k f e = sym (to_z-of_z f) ∙ ap (to_z w32) e

pub left_over : (z : ℤ) → nat_abs z ≤ 2 → nonzero z ≡ true → (of_z w32 z ≡ 2 → ⊥) → (of_z w32 z ≡ 1 → ⊥) → (of_z w32 z ≡ of_z w32 (negsuc 0) → ⊥) → code z ≡ 0
left_over (negsuc (suc n)) h e two one minus = refl
left_over (negsuc zero) h e two one minus = absurd (minus refl)
left_over (pos zero) h e two one minus = refl
left_over (pos (suc zero)) h e two one minus = absurd (one refl)
left_over (pos (suc (suc zero))) h e two one minus = absurd (two refl)
left_over (pos (suc (suc (suc n)))) h e two one minus = absurd (omega arith)
