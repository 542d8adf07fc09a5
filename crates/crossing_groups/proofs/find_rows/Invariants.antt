use Rattle.edges.specs.Readers.{solid_of}
use Rattle.layouts.specs.Words.{Listing}
use Rattle.crossing_rows.specs.Words.{row}
use Rattle.crossing_groups.proofs.find_rows.Given as goal

abbrev pub invariant-loop-r : goal.invariant-loop-r
invariant-loop-r l = Listing (row l.search.sign (solid_of l.a) (solid_of l.near.solid)) l.r l.first l.crossed
