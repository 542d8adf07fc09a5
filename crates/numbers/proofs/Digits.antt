-- Decimal digits: one digit of a small number, one digit more of any other, and how many there are.
use mathlib.Core.Path.{◌≡◌, refl, sym, ap, ◌∙◌}
use mathlib.Core.Bool.{Bool, true, false}
use mathlib.Core.List.{[], ◌∷◌, ◌++◌}
use Prim.Native.Nat.{ℕ, zero, suc, ◌+◌, ◌/◌, ◌%◌, ◌^◌, ◌≤◌, ◌<◌}
use native.Mathlib.Omega.{arith}
use lib.ListN.{length, length-append}
use lib.Dec.{ltb}
use borrow.Author.Tests.{lt-ltb, le-ltb, ltb-true, ltb-false}
use Rattle.numbers.specs.Digits.{decimal, digits}

-- ---- with a digit to spare
module _ (k n : ℕ) where
  decimal_small : ltb n 10 ≡ true → decimal (suc k) n ≡ (0x30 + n) ∷ []
  unfolding decimal
  decimal_small e = rw (decimal, e)

  decimal_large : ltb n 10 ≡ false → decimal (suc k) n ≡ decimal k (n / 10) ++ ((0x30 + n % 10) ∷ [])
  unfolding decimal
  decimal_large e = rw (decimal, e)

-- ---- the bound is no matter
any_bound : (k m n : ℕ) → n < k → n < m → decimal k n ≡ decimal m n
any_bound zero m n h g = absurd (omega arith)
any_bound (suc k) zero n h g = absurd (omega arith)
any_bound (suc k) (suc m) n h g = go (ltb n 10) refl (λ l. any_bound k m (n / 10) (omega arith) (omega arith))
  where
    go : (b : Bool) → ltb n 10 ≡ b → (10 ≤ n → decimal k (n / 10) ≡ decimal m (n / 10)) → decimal (suc k) n ≡ decimal (suc m) n
    go true e r = decimal_small k n e ∙ sym (decimal_small m n e)
    go false e r = decimal_large k n e ∙ ap (λ t. t ++ ((0x30 + n % 10) ∷ [])) (r (ltb-false n 10 e)) ∙ sym (decimal_large m n e)

-- ---- the digits
pub one_digit : (n : ℕ) → n < 10 → digits n ≡ (0x30 + n) ∷ []
one_digit n h = decimal_small n n (lt-ltb n 10 h)

pub more_digits : (n : ℕ) → 10 ≤ n → digits n ≡ digits (n / 10) ++ ((0x30 + n % 10) ∷ [])
more_digits n h =
    decimal_large n n (le-ltb n 10 h)
    ∙ ap (λ t. t ++ ((0x30 + n % 10) ∷ [])) (any_bound n (suc (n / 10)) (n / 10) (omega arith) (omega arith))

pub length_more : (n : ℕ) → 10 ≤ n → length (digits n) ≡ length (digits (n / 10)) + 1
length_more n h = ap length (more_digits n h) ∙ length-append (digits (n / 10)) ((0x30 + n % 10) ∷ [])

-- ---- how many there are
pub few_digits : (k n : ℕ) → n < 10 ^ suc k → length (digits n) ≤ suc k
few_digits zero n h = rw (ap length (one_digit n (omega arith))) (omega arith)
few_digits (suc k) n h = go (ltb n 10) refl (few_digits k (n / 10) (omega arith))
  where
    go : (b : Bool) → ltb n 10 ≡ b → length (digits (n / 10)) ≤ suc k → length (digits n) ≤ suc (suc k)
    go true e r = rw (ap length (one_digit n (ltb-true n 10 e))) (omega arith)
    go false e r = rw (length_more n (ltb-false n 10 e)) (omega arith)
