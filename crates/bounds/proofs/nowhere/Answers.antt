-- `nowhere` meets its contract.
use mathlib.Core.Path.{refl}
use lib.Ieee.{of_bits, neg}
use Rattle.bounds.proofs.nowhere.Goals as goal

pub returns : goal.returns
unfolding of_bits neg
returns c = refl
