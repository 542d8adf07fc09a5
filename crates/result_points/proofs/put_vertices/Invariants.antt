use mathlib.Core.List.{[]}
use Rattle.solids.specs.Solids.{solid}
use Rattle.result_points.proofs.Kept.{Kept}
use Rattle.result_points.proofs.put_vertices.Given as goal

abbrev pub invariant-loop-i : goal.invariant-loop-i
invariant-loop-i l = Kept (solid l.vs []) l.inc l.from l.initial.list l.list l.at l.next l.i
