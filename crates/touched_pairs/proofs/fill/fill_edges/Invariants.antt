use mathlib.Core.Path.{◌≡◌}
use lib.ListN.{length}
use Rattle.kept_lists.proofs.Marking.{RowsSoFar}
use Rattle.touched_pairs.proofs.fill.fill_edges.Given as goal

abbrev pub invariant-loop-r : goal.invariant-loop-r
invariant-loop-r l = RowsSoFar l.z l.first l.crossed l.marks l.r × (length l.marks ≡ length l.initial.marks)
