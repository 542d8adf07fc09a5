-- `blank` meets its contract.
use Rattle.solids.proofs.Blank.{blank_test}
use Rattle.faults.proofs.blank.Goals as goal

pub returns : goal.returns
returns c = blank_test c.args.x
