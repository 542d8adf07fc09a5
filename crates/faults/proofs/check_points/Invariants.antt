use mathlib.Core.Path.{◌≡◌}
use mathlib.Core.Bool.{Bool}
use mathlib.Core.List.{List, []}
use Prim.Native.Nat.{ℕ}
use lib.Ieee.{Float}
use Rattle.solids.specs.Refusals.{Verdict, accepted, at_each}
use Rattle.solids.specs.Solids.{solid}
use Rattle.solids.specs.Words.{check_vertex}
use Rattle.faults.proofs.check_points.Given as goal

abbrev pub check : Bool → List Float → ℕ → Verdict
check blanks points = check_vertex blanks (solid points [])

abbrev pub invariant-loop-i : goal.invariant-loop-i
invariant-loop-i l = at_each l.i (check l.blanks l.points) ≡ accepted
