use Prim.Native.Nat.{◌-◌, ◌≤◌}
use Rattle.inclusions.specs.Words.{Weighed}
use Rattle.inclusions.proofs.weigh_groups.Given as goal

abbrev pub invariant-loop-begin : goal.invariant-loop-begin
invariant-loop-begin l = (l.begin ≤ l.many) × Weighed l.side l.initial.inc l.inc l.begin

abbrev pub decreases-loop-begin : goal.decreases-loop-begin
decreases-loop-begin l = l.many - l.begin
