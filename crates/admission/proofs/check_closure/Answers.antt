-- `check_closure` meets its contract: the table is filled, then read.
use Rattle.solids.proofs.Tally.{tallied_none}
use Rattle.admission.proofs.check_closure.Goals as goal

pub tally-requires : goal.tally-requires
tally-requires c = let s = c in (s.requires.0, s.requires.1, tallied_none)
