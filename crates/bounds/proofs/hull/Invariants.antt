use mathlib.Core.Path.{◌≡◌}
use Prim.Native.Nat.{◌-◌}
use Rattle.bounds.specs.Words.{hull}
use Rattle.bounds.proofs.hull.Given as goal

abbrev pub invariant-loop-i : goal.invariant-loop-i
invariant-loop-i l = l.all ≡ hull l.points l.begin (l.i - l.begin)
