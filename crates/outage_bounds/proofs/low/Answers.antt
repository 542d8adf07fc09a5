-- `low` meets its contract.
use lib.Ieee.{neg, of_bits}
use Rattle.outage_rows.specs.Bounds.{low_bound}
use Rattle.outage_bounds.proofs.low.Goals as goal

pub returns-then-b : goal.returns-then-b
unfolding low_bound neg of_bits
returns-then-b c = rw c.if-b.true

pub returns-else-b : goal.returns-else-b
unfolding low_bound
returns-else-b c = rw c.if-b.false
