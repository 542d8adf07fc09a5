use Rattle.solids.specs.Words.{Tallied, counted}
use Rattle.tally.proofs.tally.Given as goal

abbrev pub invariant-loop-f : goal.invariant-loop-f
invariant-loop-f l = Tallied l.table (counted l.corners l.f)
