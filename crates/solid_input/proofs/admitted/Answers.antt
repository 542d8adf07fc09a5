-- `admitted` meets its contract: 2 by the numbers, or the admission of the fronts.
use mathlib.Core.Path.{sym, ◌∙◌}
use Rattle.solids.specs.Refusals.{on_solid}
use Rattle.list_words.proofs.Handed.{handed_on}
use Rattle.solids.proofs.Checks.{not_given, was_given}
use Rattle.solid_input.specs.Words.{kept_admission}
use Rattle.solid_input.proofs.admitted.Goals as goal

pub returns-in_err-check_sizes : goal.returns-in_err-check_sizes
unfolding kept_admission
returns-in_err-check_sizes c =
    let (many, a) = was_given (on_solid 2 0) _ _ (sym c.check_sizes.ensures.said ∙ c.in_err-check_sizes.was) in
    rw (handed_on c.from_residual.result _ c.from_residual.ensures.1, many, a)

pub returns : goal.returns
unfolding kept_admission
returns c = rw (not_given (on_solid 2 0) _ (sym c.check_sizes.ensures.said ∙ c.in_ok-check_sizes.was)) c.admit.ensures
