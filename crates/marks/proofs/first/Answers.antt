-- `first` meets its contract.
use Rattle.marks.proofs.Words.{four_clear}
use Rattle.marks.proofs.first.Goals as goal

pub returns-then-all-eq0 : goal.returns-then-all-eq0
returns-then-all-eq0 c = let s = c in four_clear s.args.list.now s.args.from s.args.end s.requires.0 s.requires.1 s.requires.2 c.if-all-eq0.true
