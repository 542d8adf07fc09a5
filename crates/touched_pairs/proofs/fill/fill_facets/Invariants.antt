use mathlib.Core.Path.{◌≡◌}
use Prim.Native.Nat.{◌*◌}
use lib.ListN.{length}
use Rattle.kept_lists.specs.Words.{More}
use Rattle.kept_lists.proofs.Marking.{HalvesSoFar}
use Rattle.touched_pairs.proofs.fill.fill_facets.Given as goal

abbrev pub invariant-loop-x : goal.invariant-loop-x
invariant-loop-x l = HalvesSoFar l.z l.halves l.initial.marks l.marks (3 * l.x) × More l.initial.marks l.marks × (length l.marks ≡ length l.initial.marks)

abbrev pub invariant-loop-h : goal.invariant-loop-h
invariant-loop-h l = HalvesSoFar l.z l.halves l.fn.marks l.marks l.h × More l.fn.marks l.marks × (length l.marks ≡ length l.fn.marks)
