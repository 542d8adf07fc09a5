use Rattle.list_stores.proofs.Stores.{Copied}
use Rattle.list_stores.proofs.copy_front.Given as goal

abbrev pub invariant-loop-i : goal.invariant-loop-i
invariant-loop-i g l = Copied l.from l.initial.to l.to l.i
