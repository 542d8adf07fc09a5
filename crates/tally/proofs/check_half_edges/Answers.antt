-- `check_half_edges` meets its contract: of the facets below f none has a half-edge that differs.
use mathlib.Core.Path.{◌≡◌, refl, sym, ap, ◌∙◌}
use mathlib.Core.Bool.{Bool}
use mathlib.Core.List.{List, []}
use Prim.Native.Nat.{ℕ, ◌/◌}
use lib.ListN.{length}
use Rattle.list_words.specs.Lists.{up_to, any}
use Rattle.solids.specs.Refusals.{on_solid, given, in_order}
use Rattle.solids.specs.Solids.{solid, half_edges, facet_half_edges}
use Rattle.solids.specs.Admission.{differ, check_half_edges}
use Rattle.solids.proofs.Checks.{each_next, each_at}
use Rattle.tally.proofs.check_half_edges.Invariants.{check}
use Rattle.tally.proofs.check_half_edges.Goals as goal

-- what the code sees of facet f
seen : (cs : List ℕ) (f : ℕ) (b : Bool) → b ≡ any (differ (half_edges (solid [] cs))) (facet_half_edges (solid [] cs) f) → check cs f ≡ given (on_solid 6 f) b
unfolding check_half_edges
seen cs f b e = ap (given (on_solid 6 f)) (sym e)

pub loop-f-init : goal.loop-f-init
unfolding in_order up_to
loop-f-init c = refl

pub returns-then-facet_differs : goal.returns-then-facet_differs
returns-then-facet_differs c =
    let cs = c.args.corners.now in
    let f = c.loop-f.f in
    sym (each_at (check cs) (length cs / 3) f _ c.loop-f-test.true c.loop-f.invariant
    (seen cs f _ c.facet_differs.ensures ∙ rw (c.if-facet_differs.true, c.on_solid.ensures)))

pub loop-f-preserved : goal.loop-f-preserved
loop-f-preserved c =
    let cs = c.args.corners.now in
    let f = c.loop-f.f in
    each_next (check cs) f c.loop-f.invariant (seen cs f _ c.facet_differs.ensures ∙ rw c.if-facet_differs.false)
