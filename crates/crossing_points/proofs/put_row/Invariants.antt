use Rattle.edges.specs.Readers.{solid_of}
use Rattle.crossing_points.specs.Words.{point_on}
use Rattle.crossing_points.proofs.Stretches.{Stretched}
use Rattle.crossing_points.proofs.put_row.Given as goal

abbrev pub invariant-loop-k : goal.invariant-loop-k
invariant-loop-k l = Stretched (point_on l.row (solid_of l.b)) l.crossed l.from l.to l.initial.list l.list l.at l.next l.k
