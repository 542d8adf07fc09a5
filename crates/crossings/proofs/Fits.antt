-- Counts as i32 numbers: what is smaller than 2 ^ 31 fits, and what the test for 0 says.
use mathlib.Core.Path.{◌≡◌, refl, sym, ap, ◌∙◌}
use mathlib.Core.Bool.{true, false}
use Prim.Native.Nat.{zero, suc, ◌+◌, ◌≤◌, ◌<◌, ◌^◌}
use native.Mathlib.Nat.{le_refl}
use native.Mathlib.Omega.{arith}
use lib.IntN.{ℤ, pos, negsuc, neg_ℤ, nat_abs, ◌+ℤ◌, ◌-ℤ◌, +ℤ_idl}
use lib.Signed.{mag}
use mir.Syntax.{w32}
use mir.Val.{to_z, of_z, SFits}
use mir.Facts.{to_z-of_z}
use Rattle.list_words.specs.Lists.{nonzero}
use Rattle.list_words.proofs.Integers.{bnd_add, bnd_neg}

mag_le : (z : ℤ) → mag z ≤ nat_abs z
mag_le (pos n) = le_refl n
mag_le (negsuc n) = omega arith

pub fits : (z : ℤ) → nat_abs z < 2 ^ 31 → SFits w32 z
fits z h = record { sfits = let l = mag_le z in omega arith }

pub fits_sum : (a b : ℤ) → nat_abs a + nat_abs b < 2 ^ 31 → SFits w32 (a +ℤ b)
fits_sum a b h = fits (a +ℤ b) (omega (arith, bnd_add (nat_abs a) (nat_abs b) a b (le_refl _) (le_refl _)))

pub fits_neg : (n : ℤ) → nat_abs n < 2 ^ 31 → SFits w32 (pos 0 -ℤ n)
fits_neg n h = fits (pos 0 -ℤ n) (rw (+ℤ_idl (neg_ℤ n)) (omega (arith, bnd_neg (nat_abs n) n (le_refl _))))

pub zero_not : (z : ℤ) → SFits w32 z → of_z w32 z ≡ 0 → nonzero z ≡ false
zero_not z f h = ap nonzero (sym (to_z-of_z f) ∙ ap (to_z w32) h)

pub not_zero : (z : ℤ) → (of_z w32 z ≡ 0 → ⊥) → nonzero z ≡ true
not_zero (pos zero) h = absurd (h refl)
not_zero (pos (suc n)) h = refl
not_zero (negsuc n) h = refl
