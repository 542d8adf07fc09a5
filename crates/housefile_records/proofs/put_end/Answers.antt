-- `put_end` meets its contract: the mark, as the two bytes of its number.
use Rattle.numbers.specs.Numbers.{bytes}
use Rattle.housefile.specs.Records.{encoded}
use Rattle.housefile_records.proofs.put_end.Goals as goal

pub returns : goal.returns
unfolding bytes encoded
returns c = c.put_number.ensures
