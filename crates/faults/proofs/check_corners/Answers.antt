-- `check_corners` meets its contract: of the facets below f none is faulty.
use mathlib.Core.Path.{refl, sym, ◌∙◌}
use Prim.Native.Nat.{◌/◌}
use native.Mathlib.Nat.{le_antisymm}
use lib.ListN.{length}
use Rattle.list_words.specs.Lists.{up_to}
use Rattle.solids.specs.Refusals.{in_order}
use Rattle.solids.specs.Admission.{check_corners}
use Rattle.list_words.proofs.Handed.{handed_on}
use Rattle.solids.proofs.Checks.{each_next, each_at}
use Rattle.faults.proofs.check_corners.Invariants.{check}
use Rattle.faults.proofs.check_corners.Goals as goal

pub loop-f-init : goal.loop-f-init
unfolding in_order up_to
loop-f-init c = refl

pub returns-in_err-check_facet : goal.returns-in_err-check_facet
unfolding check_corners
returns-in_err-check_facet c =
    let a = c.args in
    handed_on _ _ c.from_residual.ensures.1 ∙ sym (each_at (check a.points.now a.corners.now) (length a.corners.now / 3) c.loop-f.f _ c.loop-f-test.true c.loop-f.invariant (sym c.in_err-check_facet.ensures))

pub loop-f-preserved : goal.loop-f-preserved
loop-f-preserved c =
    let a = c.args in
    each_next (check a.points.now a.corners.now) c.loop-f.f c.loop-f.invariant (sym c.in_ok-check_facet.ensures)

pub returns : goal.returns
unfolding check_corners
returns c = sym (rw (le_antisymm c.loop-f-test.false c.loop-f.auto.f-end) c.loop-f.invariant)
