use Prim.Native.Nat.{◌+◌, ◌≤◌}
use Rattle.joined_ends.specs.Words.{firsts}
use Rattle.fans.specs.Words.{fan_at, Laid}
use Rattle.fans.proofs.fan.put_fan.Given as goal

abbrev pub invariant-loop-i : goal.invariant-loop-i
invariant-loop-i l = (l.k ≤ l.at + l.i) × Laid (fan_at l.origin l.a (firsts l.list l.i)) l.initial.corners l.initial.origins l.at l.corners l.origins l.k
