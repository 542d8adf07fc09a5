-- `operate` meets its contract: 7 comes first.
use mathlib.Core.Path.{sym, ◌∙◌}
use Rattle.solids.specs.Solids.{solid}
use Rattle.results.specs.Operation.{lists, operation}
use Rattle.results.proofs.Refusals.{by_code}
use Rattle.operations.proofs.operate.Goals as goal

pub returns-in_default : goal.returns-in_default
unfolding operation
returns-in_default c = rw (c.from.ensures, c.on_nobody.ensures, sym c.in_default.ensures)

pub returns-in-Ok : goal.returns-in-Ok
returns-in-Ok c =
    let a = solid c.args.ap.now c.args.ac.now in
    let b = solid c.args.bp.now c.args.bc.now in
    let l = lists c.args.points.now c.args.corners.now c.args.origins.now in
    c.in-Ok.ensures ∙ sym (by_code a b l _ c.args.code (sym c.in-Some.ensures))

pub returns-in-Err : goal.returns-in-Err
returns-in-Err c =
    let a = solid c.args.ap.now c.args.ac.now in
    let b = solid c.args.bp.now c.args.bc.now in
    let l = lists c.args.points.now c.args.corners.now c.args.origins.now in
    rw c.from-in-Err.ensures (c.in-Err.ensures ∙ sym (by_code a b l _ c.args.code (sym c.in-Some.ensures)))
