-- `check` meets its contract: 3, 4, 12, 13.
use Rattle.solids.specs.Refusals.{in_order}
use Rattle.outage_rows.specs.Bounds.{missing, too_far, present}
use Rattle.outage_bounds.specs.Words.{check_bounds}
use Rattle.outage_bounds.proofs.check.Goals as goal

pub returns-then-some : goal.returns-then-some
unfolding check_bounds in_order
returns-then-some c = rw (← c.some.ensures missing (λ b s e. e.1), c.if-some.true, c.on_nobody.ensures)

pub returns-then-some-2 : goal.returns-then-some-2
unfolding check_bounds in_order
returns-then-some-2 c =
    rw (← c.some.ensures missing (λ b s e. e.1), c.if-some.false, ← c.some-2.ensures too_far (λ b s e. e.1), c.if-some-2.true, c.on_nobody-then-some-2.ensures)

pub returns-then-some-3 : goal.returns-then-some-3
unfolding check_bounds in_order
returns-then-some-3 c =
    rw (← c.some.ensures missing (λ b s e. e.1), c.if-some.false, ← c.some-2.ensures too_far (λ b s e. e.1), c.if-some-2.false, ← c.some-3.ensures present (λ b s e. e.1), c.if-some-3.true, c.on_nobody-then-some-3.ensures)

pub returns-then-not_below : goal.returns-then-not_below
unfolding check_bounds in_order
returns-then-not_below c =
    rw (← c.some.ensures missing (λ b s e. e.1), c.if-some.false, ← c.some-2.ensures too_far (λ b s e. e.1), c.if-some-2.false, ← c.some-3.ensures present (λ b s e. e.1), c.if-some-3.false, ← c.bounds.ensures, ← c.not_below.ensures, c.if-not_below.true, c.on_nobody-then-not_below.ensures)

pub returns : goal.returns
unfolding check_bounds in_order
returns c =
    rw (← c.some.ensures missing (λ b s e. e.1), c.if-some.false, ← c.some-2.ensures too_far (λ b s e. e.1), c.if-some-2.false, ← c.some-3.ensures present (λ b s e. e.1), c.if-some-3.false, ← c.bounds.ensures, ← c.not_below.ensures, c.if-not_below.false)
