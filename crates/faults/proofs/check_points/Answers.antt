-- `check_points` meets its contract: of the vertices below i none is bad.
use mathlib.Core.Path.{◌≡◌, refl, sym, ap, ◌∙◌}
use mathlib.Core.Bool.{Bool}
use mathlib.Core.List.{List, []}
use Prim.Native.Nat.{ℕ, ◌/◌}
use lib.Ieee.{Float}
use lib.ListN.{length}
use Rattle.list_words.specs.Lists.{up_to, any}
use Rattle.points.specs.declared.Point.{Point}
use Rattle.points.specs.Points.{coordinates}
use Rattle.solids.specs.Refusals.{on_solid, given, in_order}
use Rattle.solids.specs.Solids.{solid, vertex}
use Rattle.solids.specs.Words.{bad, bad_number}
use Rattle.solids.proofs.Checks.{each_next, each_at}
use Rattle.faults.proofs.check_points.Invariants.{check}
use Rattle.faults.proofs.check_points.Goals as goal

-- what the code sees of vertex i
seen : (blanks : Bool) (points : List Float) (i : ℕ) (v : Point) (b : Bool) → v ≡ vertex (solid points []) i → b ≡ any (bad blanks) (coordinates v)
    → check blanks points i ≡ given (on_solid (bad_number blanks) i) b
seen blanks points i v b e h = ap (given (on_solid (bad_number blanks) i)) (sym (rw e at h))

pub loop-i-init : goal.loop-i-init
unfolding in_order up_to
loop-i-init c = refl

pub returns-then-bad_point : goal.returns-then-bad_point
returns-then-bad_point c =
    let a = c.args in
    sym (each_at (check a.blanks a.points.now) (length a.points.now / 3) c.loop-i.i _ c.loop-i-test.true c.loop-i.invariant
    (seen a.blanks a.points.now c.loop-i.i _ _ c.vertex.ensures c.bad_point.ensures ∙ rw (c.if-bad_point.true, c.on_solid.ensures, c.bad_refusal.ensures)))

pub loop-i-preserved : goal.loop-i-preserved
loop-i-preserved c =
    let a = c.args in
    each_next (check a.blanks a.points.now) c.loop-i.i c.loop-i.invariant
    (seen a.blanks a.points.now c.loop-i.i _ _ c.vertex.ensures c.bad_point.ensures ∙ rw c.if-bad_point.false)
