use Prim.Native.Nat.{◌-◌}
use lib.ListN.{length}
use Rattle.housefile_reader.proofs.Walks.{left, Walked}
use Rattle.housefile_reader.proofs.scan.Given as goal

abbrev pub invariant-loop-found : goal.invariant-loop-found
invariant-loop-found l = Walked l.bytes l.w (left l.w l.bytes) l.points l.corners

abbrev pub decreases-loop-found : goal.decreases-loop-found
decreases-loop-found l = length l.bytes - l.w.used
