-- `spell` meets its contract: each letter costs one of the bytes that are left.
use Rattle.std.proofs.Common.{◌+◌, ◌≤◌}
use Rattle.case_words.proofs.input.Words.spell.Given as goal

abbrev pub invariant-loop-byte : goal.invariant-loop-byte
invariant-loop-byte l = l.length + l.self.left ≤ l.fn.self.left

abbrev pub decreases-loop-byte : goal.decreases-loop-byte
decreases-loop-byte l = l.self.left
