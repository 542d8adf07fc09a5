-- A blank, and nothing else, differs from itself.
use mathlib.Core.Path.{◌≡◌, refl}
use mathlib.Core.Bool.{true, false}
use Prim.Native.Nat.{◌*◌}
use borrow.Author.Tests.{eq-eqb}
use lib.Ieee.{Float, nan, inf, fin, ne, is_nan, up, down}

pub blank_test : (x : Float) → ne x x ≡ is_nan x
unfolding ne is_nan
blank_test nan = refl
blank_test (inf true) = refl
blank_test (inf false) = refl
blank_test (fin true m e) = rw (eq-eqb (m * up e * down e) (m * up e * down e) refl)
blank_test (fin false m e) = rw (eq-eqb (m * up e * down e) (m * up e * down e) refl)
