-- `copy_front` meets its contract: the elements below i are copied.
use Rattle.list_stores.proofs.Stores.{copied_all}
use Rattle.list_stores.proofs.copy_front.Goals as goal

pub returns : goal.returns
returns g c = copied_all c.loop-i.invariant c.loop-i-test.false c.requires
