-- `admit` meets its contract: check by check, each with the law on its place in the order.
use mathlib.Core.Path.{sym, ◌∙◌}
use native.Mathlib.Omega.{arith}
use Rattle.solids.specs.Solids.{lent, half_edges}
use Rattle.solids.specs.Admission.{check_blanks, check_limit, check_half_edges}
use Rattle.list_words.proofs.Handed.{handed_on}
use Rattle.solids.proofs.Orders.{first_lists, lists_fine, then_3, then_4, then_10_and_11, last_6}
use Rattle.solids.proofs.Admitted.{even, few, all_fine}
use Rattle.solids.proofs.Closure.{low, closure_each}
use Rattle.admission.proofs.admit.Goals as goal

pub returns-in_err-check_lists : goal.returns-in_err-check_lists
returns-in_err-check_lists c =
    handed_on _ _ c.from_residual.ensures.1 ∙ sym (first_lists (lent c.args.points c.args.corners) _ (sym c.in_err-check_lists.ensures))

pub returns-in_err-check_points : goal.returns-in_err-check_points
unfolding check_blanks
returns-in_err-check_points c =
    let s = lent c.args.points c.args.corners in
    let l = lists_fine s (sym c.in_ok-check_lists.ensures) in
    handed_on _ _ c.from_residual-in_err-check_points.ensures.1 ∙ sym (then_3 s l.0 l.1 _ (sym c.in_err-check_points.ensures))

pub returns-in_err-check_points-2 : goal.returns-in_err-check_points-2
unfolding check_blanks check_limit
returns-in_err-check_points-2 c =
    let s = lent c.args.points c.args.corners in
    let l = lists_fine s (sym c.in_ok-check_lists.ensures) in
    handed_on _ _ c.from_residual-in_err-check_points-2.ensures.1 ∙ sym (then_4 s l.0 l.1 (sym c.in_ok-check_points.ensures) _ (sym c.in_err-check_points-2.ensures))

pub returns-in_err-check_corners : goal.returns-in_err-check_corners
unfolding check_blanks check_limit
returns-in_err-check_corners c =
    let s = lent c.args.points c.args.corners in
    let l = lists_fine s (sym c.in_ok-check_lists.ensures) in
    handed_on _ _ c.from_residual-in_err-check_corners.ensures.1 ∙ sym (then_10_and_11 s l.0 l.1 (sym c.in_ok-check_points.ensures) (sym c.in_ok-check_points-2.ensures) _ (sym c.in_err-check_corners.ensures))

pub check_closure-requires : goal.check_closure-requires
check_closure-requires c =
    let s = lent c.args.points c.args.corners in
    let l = lists_fine s (sym c.in_ok-check_lists.ensures) in
    let e = even s l.0 in
    let f = few s l.1 in
    (low s e.1 f.0 (all_fine s (sym c.in_ok-check_corners.ensures)), omega (arith, e, f))

-- of check 6 the corners alone are looked at
pub returns : goal.returns
unfolding check_blanks check_limit check_half_edges half_edges
returns c =
    let s = lent c.args.points c.args.corners in
    let l = lists_fine s (sym c.in_ok-check_lists.ensures) in
    let fine = sym c.in_ok-check_corners.ensures in
    sym (last_6 s l.0 l.1 (sym c.in_ok-check_points.ensures) (sym c.in_ok-check_points-2.ensures) fine _
    (closure_each s (all_fine s fine) ∙ sym c.check_closure.ensures))
