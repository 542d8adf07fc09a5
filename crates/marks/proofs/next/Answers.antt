-- `next` meets its contract: nothing is marked from `from` up to `at`.
use native.Mathlib.Omega.{arith}
use borrow.Author.Rules.{rules}
use Rattle.marks.proofs.Words.{clear_word, next_at}
use Rattle.marks.proofs.next.Goals as goal

pub returns-then-rest-ne0 : goal.returns-then-rest-ne0
returns-then-rest-ne0 c = rw c.min.ensures (next_at c.args.list.now c.loop-at.at c.loop-at.invariant.1 c.if-rest-ne0.true (search rules) c.loop-at.invariant.0 c.requires.0)

pub loop-at-preserved : goal.loop-at-preserved
loop-at-preserved c = (omega arith, clear_word c.args.list.now c.loop-at.at c.loop-at.invariant.1 c.if-rest-ne0.false)
