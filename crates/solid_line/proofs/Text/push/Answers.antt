-- `push` meets its contract: one byte more.
use Rattle.solid_line.proofs.Texts.{one_more}
use Rattle.solid_line.proofs.Text.push.Goals as goal

pub returns : goal.returns
returns c = one_more c.args.self.now c.args.byte c.requires
