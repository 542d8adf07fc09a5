use lib.ListN.{take}
use Rattle.bounds.specs.Words.{box_at, Narrowed}
use Rattle.box_lists.proofs.narrow.Given as goal

abbrev pub invariant-loop-c : goal.invariant-loop-c
invariant-loop-c l = Narrowed l.few l.far l.b (box_at l.boxes) (take l.c-index l.columns) l.k
