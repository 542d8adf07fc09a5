-- The front of an input is enough: a short input is all in it, and a long one is seen to be too long. An unknown letter is told before that.
use mathlib.Core.Path.{◌≡◌, refl, sym, ap, ◌∙◌}
use mathlib.Core.Bool.{Bool, true, false}
use mathlib.Core.List.{List, [], ◌∷◌}
use Prim.Native.Nat.{ℕ, zero, suc, ◌≤◌, ◌<◌}
use native.Mathlib.Omega.{arith}
use lib.ListN.{length, take}
use lib.Seq.{length-take-le, take_all}
use lib.Dec.{ltb}
use borrow.Author.Tests.{lt-ltb, ltb-true, ltb-false}
use Rattle.results.specs.declared.Operation.{Operation}
use Rattle.std.specs.Prelude.{Option, Some, None}
use Rattle.results.specs.Operation.{refusal}
use Rattle.solid_line.specs.Line.{letter, room, by_letter, program, line, printed}
use Rattle.solid_line.specs.Enough.{bytes_read, Enough}
use Rattle.solids.specs.Refusals.{answer_of}

-- bs are the bytes behind the letter
pub too_long : (op : Operation) (bs : List ℕ) → 32767 < length bs → by_letter (Some op) bs ≡ refusal (answer_of 9) room
too_long op bs h = let l : 32768 < suc (length bs) = omega arith in rw (by_letter, lt-ltb)

by_front : (n : ℕ) → 32768 ≤ n → (l : Option Operation) (bs : List ℕ) → by_letter l (take n bs) ≡ by_letter l bs
by_front n h None bs = refl
by_front n h (Some op) bs = by_length (ltb n (length bs)) refl
  where
    by_length : (b : Bool) → ltb n (length bs) ≡ b → by_letter (Some op) (take n bs) ≡ by_letter (Some op) bs
    by_length true e =
        let m = ltb-true n (length bs) e in
        too_long op (take n bs) (omega (arith, length-take-le n bs (omega arith))) ∙ sym (too_long op bs (omega arith))
    by_length false e = ap (by_letter (Some op)) (take_all n bs (ltb-false n (length bs) e))

front : (n : ℕ) → 32769 ≤ n → (input : List ℕ) → printed (take n input) ≡ printed input
unfolding program printed
front zero h input = absurd (omega arith)
front (suc n) h [] = refl
front (suc n) h (c ∷ bs) = ap line (by_front n (omega arith) (letter c) bs)

pub enough : Enough
enough = front bytes_read (omega arith)
