-- `read_full` is safe and ends: each read but the last takes room of the list.
use Rattle.std.proofs.Common.{◌-◌, ◌≤◌, length}
use Rattle.solid.proofs.read_full.Given as goal

abbrev pub invariant-loop-done : goal.invariant-loop-done
invariant-loop-done l = l.done ≤ length l.list

abbrev pub decreases-loop-done : goal.decreases-loop-done
decreases-loop-done l = length l.list - l.done
