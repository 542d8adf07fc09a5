use Rattle.gathering.proofs.Gathering.{Gathers}
use Rattle.gathering.proofs.paired.Given as goal

abbrev pub invariant-loop-c : goal.invariant-loop-c
invariant-loop-c l = Gathers l.fn.by l.lower l.c-iterator.iter.rest.now l.gather
