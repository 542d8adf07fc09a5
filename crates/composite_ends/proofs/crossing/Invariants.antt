use mathlib.Core.Path.{◌≡◌}
use Rattle.kept_lists.specs.Words.{rows, look, crossing}
use Rattle.kept_lists.proofs.Rows.{left}
use Rattle.composite_ends.proofs.crossing.Given as goal

abbrev pub invariant-loop-k : goal.invariant-loop-k
invariant-loop-k l = crossing (rows l.first l.crossed l.base) l.r l.c ≡ look l.c (left (rows l.first l.crossed l.base) l.k l.k-end)
