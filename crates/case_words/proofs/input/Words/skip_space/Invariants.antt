-- `skip_space` ends: each byte of white space costs one of the bytes that are left.
use Rattle.std.proofs.Common.{◌≤◌}
use Rattle.case_words.proofs.input.Words.skip_space.Given as goal

abbrev pub invariant-loop-byte : goal.invariant-loop-byte
invariant-loop-byte l = l.self.left ≤ l.fn.self.left

abbrev pub decreases-loop-byte : goal.decreases-loop-byte
decreases-loop-byte l = l.self.left
