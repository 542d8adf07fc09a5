-- `operated` meets its contract: three lists of zeros are the program's room, and the code stands for the operation.
use mathlib.Core.Path.{ap, ◌∙◌}
use lib.Ieee.{of_bits}
use Rattle.solids.specs.Solids.{lent}
use Rattle.results.proofs.Refusals.{by_code}
use Rattle.solid_line.specs.Line.{room}
use Rattle.solid_line.specs.Answers.{made}
use Rattle.solid_outcome.proofs.operated.Goals as goal

pub returns : goal.returns
unfolding of_bits
returns c =
    let a = c.args in
    ap made (c.operate.ensures ∙ by_code (lent a.ap a.ac) (lent a.bp a.bc) room a.operation c.code.result c.code.ensures)
