-- `admit_point` meets its contract: 3 before 4.
use mathlib.Core.Path.{sym, ap, ◌∙◌}
use Rattle.std.specs.Prelude.{Err}
use Rattle.solids.proofs.Orders.{point_first_3, point_then_4, point_else_accepted}
use Rattle.admission.proofs.admit_point.Goals as goal

pub returns-then-bad_point : goal.returns-then-bad_point
returns-then-bad_point c =
    ap Err c.on_point.ensures ∙ sym (point_first_3 c.args.v (sym c.bad_point.ensures ∙ c.if-bad_point.true))

pub returns-then-bad_point-2 : goal.returns-then-bad_point-2
returns-then-bad_point-2 c =
    ap Err c.on_point-then-bad_point-2.ensures
    ∙ sym (point_then_4 c.args.v (sym c.bad_point.ensures ∙ c.if-bad_point.false) (sym c.bad_point-2.ensures ∙ c.if-bad_point-2.true))

pub returns : goal.returns
returns c =
    sym (point_else_accepted c.args.v (sym c.bad_point.ensures ∙ c.if-bad_point.false) (sym c.bad_point-2.ensures ∙ c.if-bad_point-2.false))
