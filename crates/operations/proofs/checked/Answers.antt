-- `checked` meets its contract: A, then B, then the rest.
use mathlib.Core.Path.{sym, ap, ◌∙◌}
use Rattle.list_words.proofs.Handed.{handed_on}
use Rattle.solids.specs.Refusals.{solid_A, of_A, of_B}
use Rattle.solids.specs.Solids.{solid}
use Rattle.solids.proofs.Checks.{told_accepted}
use Rattle.results.specs.Operation.{lists, called}
use Rattle.results.proofs.Refusals.{then_A, then_B}
use Rattle.result_lists.specs.Words.{told}
use Rattle.operations.proofs.checked.Goals as goal

pub returns-in_err-told_of : goal.returns-in_err-told_of
returns-in_err-told_of c =
    let a = solid c.args.ap.now c.args.ac.now in
    let b = solid c.args.bp.now c.args.bc.now in
    let l = lists c.args.points.now c.args.corners.now c.args.origins.now in
    ap (λ r. called (told r) l) (handed_on _ _ c.from_residual.ensures.1)
    ∙ sym (then_A a b l c.args.op _ (sym (c.in_err-told_of.ensures ∙ ap of_A c.admit.ensures)))

pub returns-in_err-told_of-2 : goal.returns-in_err-told_of-2
returns-in_err-told_of-2 c =
    let a = solid c.args.ap.now c.args.ac.now in
    let b = solid c.args.bp.now c.args.bc.now in
    let l = lists c.args.points.now c.args.corners.now c.args.origins.now in
    let fine_a = told_accepted solid_A _ (sym (c.in_ok-told_of.ensures ∙ ap of_A c.admit.ensures)) in
    ap (λ r. called (told r) l) (handed_on _ _ c.from_residual-in_err-told_of-2.ensures.1)
    ∙ sym (then_B a b l c.args.op _ fine_a (sym (c.in_err-told_of-2.ensures ∙ ap of_B c.admit-2.ensures)))
