use mathlib.Core.Path.{◌≡◌}
use Prim.Native.Nat.{◌*◌}
use lib.ListN.{take}
use Rattle.fan_counts.specs.Words.{tell, Near}
use Rattle.triangle_count.proofs.tell_side.Given as goal

abbrev pub invariant-loop-end : goal.invariant-loop-end
invariant-loop-end l = (l.r ≡ tell l.initial.r (take l.end-index l.end-items)) × Near l.initial.r l.r (2 * l.end-index)
