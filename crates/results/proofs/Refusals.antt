-- "An operation checks 7, then A by 1 to 6, then B by 1 to 6, then 8": what `operation` gives, refusal by refusal, whatever else is wrong.
use mathlib.Core.Path.{◌≡◌, refl}
use Prim.Native.Nat.{ℕ, suc}
use mathlib.Core.Bool.{true, false}
use Rattle.solids.specs.declared.Answer.{Answer}
use Rattle.solids.specs.Refusals.{accepted, in_order, answer_of, of_A, of_B}
use Rattle.std.specs.Prelude.{Err, Some}
use Rattle.solids.specs.Solids.{Solid}
use Rattle.solids.specs.Admission.{admission}
use Rattle.results.specs.declared.Operation.{Operation}
use Rattle.results.specs.Inclusion.{chosen}
use Rattle.results.specs.Triangles.{result}
use Rattle.results.specs.Operation.{Lent, too_short, refusal, success, operate, operation}

module _ (a b : Solid) (l : Lent) where
  pub first_7 : (n : ℕ) → operation (suc (suc (suc n))) a b l ≡ refusal (answer_of 7) l
  unfolding operation
  first_7 n = refl

  module _ (op : Operation) where
    pub by_code : (code : ℕ) → chosen code ≡ Some op → operation code a b l ≡ operate op a b l
    unfolding operation
    by_code code known = rw known

    pub then_A : (n : Answer) → of_A (admission a) ≡ Err n → operate op a b l ≡ refusal n l
    unfolding operate in_order
    then_A n e = rw e

    pub then_B : (n : Answer) → admission a ≡ accepted → of_B (admission b) ≡ Err n → operate op a b l ≡ refusal n l
    unfolding operate in_order
    then_B n d e = rw (d, e)

    pub last_8 : admission a ≡ accepted → admission b ≡ accepted → too_short l (result op a b) ≡ true → operate op a b l ≡ refusal (answer_of 8) l
    unfolding operate in_order
    last_8 d e h = rw (d, e, h)

    pub else_done : admission a ≡ accepted → admission b ≡ accepted → too_short l (result op a b) ≡ false → operate op a b l ≡ success (result op a b) l
    unfolding operate in_order
    else_done d e h = rw (d, e, h)
