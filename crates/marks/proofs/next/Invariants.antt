use Prim.Native.Nat.{◌-◌, ◌≤◌}
use Rattle.marks.proofs.Words.{Clear}
use Rattle.marks.proofs.next.Given as goal

abbrev pub invariant-loop-at : goal.invariant-loop-at
invariant-loop-at l = (l.from ≤ l.at) × Clear l.list l.from l.end l.at

abbrev pub decreases-loop-at : goal.decreases-loop-at
decreases-loop-at l = l.end - l.at
