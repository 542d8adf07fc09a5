-- `checked` meets its contract: 9, and past it what is made of the row.
use mathlib.Core.Path.{sym, ap, ◌∙◌}
use Rattle.outage_rows.proofs.Rows.{whole}
use Rattle.solids.specs.Refusals.{in_order}
use Rattle.outage_rows.specs.Boxed.{check_row, boxed}
use Rattle.outage_bounds.specs.Words.{check_bounds}
use Rattle.outage_boxes.specs.Words.{made}
use Rattle.outage_boxes.proofs.checked.Goals as goal

pub returns-then-no_row : goal.returns-then-no_row
unfolding boxed check_row in_order
returns-then-no_row c = rw (c.on_nobody.ensures, ← c.no_row.ensures, c.if-no_row.true)

pub decode-requires : goal.decode-requires
decode-requires c = whole _ (sym c.no_row.ensures ∙ c.if-no_row.false)

pub returns : goal.returns
unfolding boxed check_row check_bounds in_order
returns c =
    let a = c.args in
    rw (← c.no_row.ensures, c.if-no_row.false) (c.make.ensures ∙ ap (λ r. made r a.points.now a.corners.now) c.decode.ensures)
