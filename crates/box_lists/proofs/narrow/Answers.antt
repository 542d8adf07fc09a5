-- `narrow` meets its contract: of the columns before the one that is looked at, those that are near stand in the list.
use mathlib.Core.Path.{sym, ap, ◌∙◌}
use native.Mathlib.Omega.{arith}
use native.Mathlib.Numerals.{add-one}
use lib.ListN.{get_or, take}
use lib.Seq.{take-suc, length-take-le}
use Rattle.bounds.proofs.Listing.{narrowed_none, narrowed_no, narrowed_yes}
use Rattle.box_lists.proofs.narrow.Goals.{then-not-far_at, else-not-far_at}
use Rattle.box_lists.proofs.narrow.Goals as goal

pub loop-c-init : goal.loop-c-init
loop-c-init c = narrowed_none _ _ _ _

pub loop-c-preserved : goal.loop-c-preserved
loop-c-preserved c =
    let l = c.loop-c in
    let t = c.loop-c-test.true in
    let columns = c.args.columns.now in
    let column = get_or columns l.c-index 0 in
    let next = ap (λ n. take n columns) (add-one l.c-index) ∙ take-suc columns l.c-index 0 t in
    let within = length-take-le l.c-index columns (omega (arith, t)) in
    elim c.if-not-far_at.branch [
      | then-not-far_at w ↦ rw (w.few-is, w.k-is, next) (narrowed_yes _ _ _ column l.invariant (sym c.far_at.ensures ∙ w.if-not-far_at.true) (omega (arith, t, l.invariant.fits, within, l.auto.few)))
      | else-not-far_at w ↦ rw (w.few-is, w.k-is, next) (narrowed_no _ _ _ column l.invariant (sym c.far_at.ensures ∙ w.if-not-far_at.false))
    ]
