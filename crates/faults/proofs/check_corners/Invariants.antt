use mathlib.Core.Path.{◌≡◌}
use mathlib.Core.List.{List}
use Prim.Native.Nat.{ℕ}
use lib.Ieee.{Float}
use Rattle.solids.specs.Refusals.{Verdict, accepted, at_each}
use Rattle.solids.specs.Solids.{solid}
use Rattle.solids.specs.Admission.{check_facet}
use Rattle.faults.proofs.check_corners.Given as goal

abbrev pub check : List Float → List ℕ → ℕ → Verdict
check points corners = check_facet (solid points corners)

abbrev pub invariant-loop-f : goal.invariant-loop-f
invariant-loop-f l = at_each l.f (check l.points l.corners) ≡ accepted
