-- `blank_bits` meets its contract: the pattern without its sign lies above infinity's.
use mathlib.Core.Path.{sym}
use lib.Ieee.{binary64}
use lib.Ieee.Bits.{nan_bits_above}
use Rattle.numbers.proofs.patterns.blank_bits.Goals as goal

pub returns : goal.returns
returns c = sym (nan_bits_above binary64 c.args.pattern)
