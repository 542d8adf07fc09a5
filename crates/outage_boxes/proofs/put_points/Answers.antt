-- `put_points` meets its contract: the corners below n are put.
use mathlib.Core.Path.{refl, ◌∙◌}
use mathlib.Core.List.{flat_map}
use Prim.Native.Nat.{◌*◌}
use native.Mathlib.Nat.{zero-add, le_antisymm}
use lib.Seq.{length-sets}
use Rattle.list_words.specs.Lists.{up_to}
use Rattle.list_stores.proofs.Stores.{sets_onto, run_next}
use Rattle.points.specs.Points.{coordinates}
use Rattle.outage_rows.specs.Box.{box}
use Rattle.outage_boxes.proofs.put_points.Invariants.{numbers}
use Rattle.outage_boxes.proofs.put_points.Goals as goal

pub loop-n-init : goal.loop-n-init
unfolding up_to flat_map
loop-n-init c = (refl, refl)

pub loop-n-preserved : goal.loop-n-preserved
loop-n-preserved c =
    let a = c.args in
    let e = run_next (numbers a.b) 3 (λ n. refl) a.points.now 0 c.loop-n.n in (
      rw c.put_point.ensures (length-sets c.loop-n.points (3 * c.loop-n.n) (coordinates _) ∙ c.loop-n.invariant.0),
      rw (c.put_point.ensures, c.corner.ensures, c.loop-n.invariant.1) (rw (zero-add (3 * c.loop-n.n)) at e),
    )

pub returns : goal.returns
unfolding box up_to flat_map
returns c =
    let a = c.args in
    rw (c.loop-n.invariant.1, le_antisymm c.loop-n.auto.n-end c.loop-n-test.false)
    (sets_onto a.points.now (flat_map (numbers a.b) (up_to 8)) c.requires)
