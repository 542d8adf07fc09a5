use mathlib.Core.Path.{◌≡◌}
use Prim.Native.Nat.{ℕ, ◌<◌}
use Rattle.list_words.specs.Lists.{up_to}
use Rattle.edges.specs.Readers.{solid_of}
use Rattle.bounds.specs.Words.{box_of, box_at, Narrowed}
use Rattle.box_lists.proofs.gather.Given as goal

abbrev pub invariant-loop-i : goal.invariant-loop-i
invariant-loop-i l =
    record {
      narrowed : Narrowed l.columns l.far l.b (box_of l.thing (solid_of l.s)) (up_to l.i) l.k;
      boxed : (c : ℕ) → c < l.i → box_at l.boxes c ≡ box_of l.thing (solid_of l.s) c;
    }
