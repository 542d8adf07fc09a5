use lib.ListN.{take}
use Rattle.edges.specs.Readers.{solid_of}
use Rattle.crossing_rows.specs.Words.{count_of, crossing, Behind}
use Rattle.crossing_groups.proofs.find_row.Given as goal

abbrev pub invariant-loop-c : goal.invariant-loop-c
invariant-loop-c l =
    Behind l.initial.crossed l.from (crossing l.search.sign (count_of l.row (solid_of l.near.solid)) (take l.c-index l.near.columns.now)) l.crossed l.k
