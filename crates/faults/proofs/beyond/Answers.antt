-- `beyond` meets its contract: the two numbers in the code are the limit and its negative.
use lib.Ieee.{of_bits, neg}
use Rattle.solids.specs.Admission.{beyond}
use Rattle.faults.proofs.beyond.Goals as goal

pub returns-then-x : goal.returns-then-x
unfolding beyond of_bits
returns-then-x c = rw c.if-x.true

pub returns-else-x : goal.returns-else-x
unfolding beyond of_bits neg
returns-else-x c = rw c.if-x.false
