use mathlib.Core.Path.{◌≡◌}
use mathlib.Core.List.{List, []}
use Prim.Native.Nat.{ℕ}
use Rattle.solids.specs.Refusals.{Verdict, accepted, at_each}
use Rattle.solids.specs.Solids.{solid}
use Rattle.solids.specs.Admission.{check_half_edges}
use Rattle.tally.proofs.check_half_edges.Given as goal

abbrev pub check : List ℕ → ℕ → Verdict
check corners = check_half_edges (solid [] corners)

abbrev pub invariant-loop-f : goal.invariant-loop-f
invariant-loop-f l = at_each l.f (check l.corners) ≡ accepted
