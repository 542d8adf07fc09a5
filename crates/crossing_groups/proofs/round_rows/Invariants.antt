use mathlib.Core.Path.{◌≡◌}
use Prim.Native.Nat.{◌-◌}
use Rattle.edges.specs.Readers.{solid_of}
use Rattle.bounds.specs.Words.{span}
use Rattle.crossing_rows.specs.Words.{round, row_of}
use Rattle.crossing_groups.proofs.round_rows.Given as goal

abbrev pub invariant-loop-r : goal.invariant-loop-r
invariant-loop-r l = l.all ≡ span (λ i. round (row_of (solid_of l.a) i)) l.search.begin (l.r - l.search.begin)
