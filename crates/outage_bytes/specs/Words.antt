-- Words of contracts; no public statement needs them. The flags of a row, and the two bounds on an axis.
use Rattle.std.specs.Prelude.{ℕ, ◌+◌, ◌*◌, Bool, List}
use Rattle.numbers.specs.Numbers.{bit}
use Rattle.outage_rows.specs.declared.Range.{Range}
use Rattle.outage_rows.specs.Row.{flags, bound}

abbrev pub flag : List ℕ → ℕ → Bool
flag bs i = bit i (flags bs)

abbrev pub range : List ℕ → ℕ → Range
range bs k = record { low = bound bs (2 * k); high = bound bs (2 * k + 1) }
