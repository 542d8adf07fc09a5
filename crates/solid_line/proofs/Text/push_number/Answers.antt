-- `push_number` meets its contract: the digits are stored behind the text.
use Rattle.solid_line.proofs.Texts.{and_stored}
use Rattle.solid_line.proofs.Text.push_number.Goals as goal

pub returns : goal.returns
returns c = rw (c.put_digits-self.ensures.stored, c.put_digits-self.ensures.next) (and_stored c.args.self.now _ c.requires)
