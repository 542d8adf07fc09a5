use Rattle.edges.specs.Readers.{solid_of}
use Rattle.crossing_points.proofs.Rowwise.{Rowed}
use Rattle.crossing_points.proofs.put_rows.Given as goal

abbrev pub invariant-loop-r : goal.invariant-loop-r
invariant-loop-r l = Rowed (solid_of l.a) (solid_of l.b) l.first l.crossed l.initial.list l.list l.at l.next l.r
