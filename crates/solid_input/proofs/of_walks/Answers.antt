-- `of_walks` meets its contract: A's refusal, B's, or both walks.
use mathlib.Core.Path.{◌≡◌, sym, ap, ◌∙◌}
use Rattle.solids.specs.Refusals.{accepted, solid_A, solid_B, of_A, of_B}
use Rattle.list_words.proofs.Handed.{handed_on}
use Rattle.solids.proofs.Checks.{told_accepted}
use Rattle.solid_input.specs.Words.{kept_admission}
use Rattle.solid_input.proofs.Fronts.{then_A_kept, then_B_kept, then_both}
use Rattle.solid_input.proofs.of_walks.Goals.{In_ok-told_of}
use Rattle.solid_input.proofs.of_walks.Goals as goal

-- A was accepted
fine_A : (c : In_ok-told_of) → kept_admission c.args.first c.args.ap.now c.args.ac.now ≡ accepted
fine_A c = sym c.admitted.ensures ∙ told_accepted solid_A c.admitted.result (sym c.told_of.ensures ∙ c.in_ok-told_of.was)

pub returns-in_err-told_of : goal.returns-in_err-told_of
returns-in_err-told_of c =
    let a = c.args in
    rw (handed_on c.from_residual.result _ c.from_residual.ensures.1)
    (sym (then_A_kept a.operation a.first a.ap.now a.ac.now a.second a.bp.now a.bc.now _
    (ap of_A (sym c.admitted.ensures) ∙ sym c.told_of.ensures ∙ c.in_err-told_of.was)))

pub returns-in_err-told_of-2 : goal.returns-in_err-told_of-2
returns-in_err-told_of-2 c =
    let a = c.args in
    rw (handed_on c.from_residual-in_err-told_of-2.result _ c.from_residual-in_err-told_of-2.ensures.1)
    (sym (then_B_kept a.operation a.first a.ap.now a.ac.now a.second a.bp.now a.bc.now _ (fine_A (goal.at.returns-in_err-told_of-2 c).In_ok-told_of)
    (ap of_B (sym c.admitted-2.ensures) ∙ sym c.told_of-2.ensures ∙ c.in_err-told_of-2.was)))

pub returns : goal.returns
returns c =
    let a = c.args in
    let fine_B = sym c.admitted-2.ensures ∙ told_accepted solid_B c.admitted-2.result (sym c.told_of-2.ensures ∙ c.in_ok-told_of-2.was) in
    sym (then_both a.operation a.first a.ap.now a.ac.now a.second a.bp.now a.bc.now (fine_A (goal.at.returns c).In_ok-told_of) fine_B)
