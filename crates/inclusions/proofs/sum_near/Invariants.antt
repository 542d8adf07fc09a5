use mathlib.Core.Path.{◌≡◌}
use mathlib.Core.Bool.{Bool}
use Prim.Native.Nat.{ℕ, ◌≤◌}
use lib.ListN.{take}
use lib.IntN.{ℤ, nat_abs}
use Rattle.list_words.specs.Lists.{sum_of}
use Rattle.points.specs.declared.Point.{Point}
use Rattle.solids.specs.Solids.{Solid, facet}
use Rattle.solids.specs.Words.{facet_S}
use Rattle.edges.specs.Readers.{solid_of}
use Rattle.inclusions.proofs.sum_near.Given as goal

abbrev pub part : Bool → Point → Solid → ℕ → ℤ
part as_b v s f = facet_S as_b v (facet s f)

abbrev pub invariant-loop-c : goal.invariant-loop-c
invariant-loop-c l = (l.sum ≡ sum_of (part l.as_b l.v (solid_of l.near.solid)) (take l.c-index l.near.columns.now)) × (nat_abs l.sum ≤ l.c-index)
