use mathlib.Core.List.{List}
use lib.IntN.{ℤ}
use Rattle.inclusions.specs.Words.{Weighed}
use Rattle.inclusions.proofs.weigh.Given as goal

abbrev pub invariant-loop-i : goal.invariant-loop-i
invariant-loop-i l = (old : List ℤ) → Weighed l.side old l.initial.inc l.begin → Weighed l.side old l.inc l.i
