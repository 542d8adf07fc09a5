use mathlib.Core.Path.{◌≡◌}
use lib.ListN.{length}
use Rattle.fans.proofs.Numbering.{Numbering}
use Rattle.fans.proofs.numbers.number.Given as goal

abbrev pub invariant-loop-i : goal.invariant-loop-i
invariant-loop-i l = (length l.num ≡ length l.initial.num) × Numbering l.inc l.initial.num l.num l.from l.many l.start l.k l.i
