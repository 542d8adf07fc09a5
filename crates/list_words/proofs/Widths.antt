-- Small integers in 16 and 32 bits: they fit, they are read back as they are, and what the test for 0 says of them.
use mathlib.Core.Path.{◌≡◌, refl, sym, ap, ◌∙◌}
use mathlib.Core.Bool.{Bool, true, false, not}
use Prim.Native.Nat.{zero, suc, ◌≤◌}
use native.Mathlib.Omega.{arith}
use borrow.Author.Tests.{eqb-true, eqb-false}
use lib.Dec.{eqb}
use lib.IntN.{ℤ, pos, negsuc, neg_ℤ, nat_abs}
use mir.Syntax.{Width, w16, w32}
use mir.Val.{SFits, of_z, to_z}
use mir.Facts.{to_z-of_z}
use Rattle.list_words.specs.Lists.{nonzero}

pub neg_size : (a : ℤ) → nat_abs (neg_ℤ a) ≡ nat_abs a
neg_size (pos zero) = refl
neg_size (pos (suc n)) = refl
neg_size (negsuc n) = refl

pub fits_16 : (z : ℤ) → nat_abs z ≤ 257 → SFits w16 z
fits_16 (pos n) h = record { sfits = omega arith }
fits_16 (negsuc n) h = record { sfits = omega arith }

fits_32 : (z : ℤ) → nat_abs z ≤ 257 → SFits w32 z
fits_32 (pos n) h = record { sfits = omega arith }
fits_32 (negsuc n) h = record { sfits = omega arith }

pub back_16 : (z : ℤ) → nat_abs z ≤ 257 → to_z w16 (of_z w16 z) ≡ z
back_16 z h = to_z-of_z (fits_16 z h)

pub back_32 : (z : ℤ) → nat_abs z ≤ 257 → to_z w32 (of_z w32 z) ≡ z
back_32 z h = to_z-of_z (fits_32 z h)

-- `none` is refl at each width
pub nonzero_test : (w : Width) (none : to_z w 0 ≡ pos 0) (z : ℤ) → SFits w z → not (eqb (of_z w z) 0) ≡ nonzero z
nonzero_test w none z f = go (eqb (of_z w z) 0) refl
  where
    some : (z : ℤ) → (of_z w z ≡ 0 → ⊥) → true ≡ nonzero z
    some (pos zero) h = absurd (h refl)
    some (pos (suc n)) h = refl
    some (negsuc n) h = refl

    go : (b : Bool) → eqb (of_z w z) 0 ≡ b → not b ≡ nonzero z
    go true e = sym (ap nonzero (sym (to_z-of_z f) ∙ ap (to_z w) (eqb-true _ _ e) ∙ none))
    go false e = some z (eqb-false _ _ e)
