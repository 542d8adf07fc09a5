use Rattle.numbers.proofs.Numbers.{Read}
use Rattle.numbers.proofs.in_bytes.number_at.Given as goal

abbrev pub invariant-loop-byte : goal.invariant-loop-byte
invariant-loop-byte l = Read l.at l.n l.bytes l.byte-iterator.iter.rest.now l.number
