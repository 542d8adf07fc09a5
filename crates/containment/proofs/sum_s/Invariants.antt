use mathlib.Core.Path.{◌≡◌}
use mathlib.Core.Bool.{Bool}
use mathlib.Core.List.{List}
use Prim.Native.Nat.{ℕ, ◌≤◌}
use lib.IntN.{ℤ, nat_abs}
use lib.Ieee.{Float}
use Rattle.list_words.specs.Lists.{sum_of, up_to}
use Rattle.points.specs.declared.Point.{Point}
use Rattle.solids.specs.Solids.{solid, facet}
use Rattle.solids.specs.Words.{facet_S}
use Rattle.containment.proofs.sum_s.Given as goal

abbrev pub part : Bool → Point → List Float → List ℕ → ℕ → ℤ
part as_b v points corners f = facet_S as_b v (facet (solid points corners) f)

abbrev pub invariant-loop-f : goal.invariant-loop-f
invariant-loop-f l = (l.sum ≡ sum_of (part l.as_b l.v l.points l.corners) (up_to l.f)) × (nat_abs l.sum ≤ l.f)
