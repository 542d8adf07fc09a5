-- `float` meets its contract: a NaN's pattern gives the NaN, every other its number.
use mathlib.Core.Path.{sym, ◌∙◌}
use lib.Ieee.{binary64, of_bits}
use lib.Ieee.Bits.{nan_bits_is}
use Rattle.numbers.proofs.Numbers.{the_nan, zero_by_zero}
use Rattle.numbers.proofs.patterns.float.Goals as goal

pub returns-then-blank_bits : goal.returns-then-blank_bits
returns-then-blank_bits c =
    let n = c.args.pattern in
    zero_by_zero ∙ sym (the_nan (of_bits binary64 n) (sym (nan_bits_is binary64 n) ∙ sym c.blank_bits.ensures ∙ c.if-blank_bits.true))
