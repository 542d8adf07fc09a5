-- `resume` meets its contract: the word that is looked at is at hand. It ends: each word passed leaves fewer bytes.
use Rattle.std.proofs.Common.{◌≡◌, ◌+◌, Some}
use Rattle.case_requests.proofs.requests.resume.Given as goal

abbrev pub invariant-loop-word : goal.invariant-loop-word
invariant-loop-word l = l.words.word ≡ Some l.word

abbrev pub decreases-loop-word : goal.decreases-loop-word
decreases-loop-word l = l.word.length + l.words.left
