-- `high` meets its contract.
use lib.Ieee.{of_bits}
use Rattle.outage_rows.specs.Bounds.{high_bound}
use Rattle.outage_bounds.proofs.high.Goals as goal

pub returns-then-b : goal.returns-then-b
unfolding high_bound of_bits
returns-then-b c = rw c.if-b.true

pub returns-else-b : goal.returns-else-b
unfolding high_bound
returns-else-b c = rw c.if-b.false
