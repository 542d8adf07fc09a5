-- `include_side` meets its contract: what is gathered are facets with their boxes, and they count all there is.
use mathlib.Core.Path.{◌≡◌, refl, sym, ap, ◌∙◌, subst}
use mathlib.Core.List.{List}
use Prim.Native.Nat.{ℕ}
use native.Mathlib.Omega.{arith}
use lib.ListN.{take}
use lib.Seq.{length-take-le}
use Rattle.list_words.specs.Lists.{sum_of, up_to}
use Rattle.list_words.proofs.UpTo.{length_up_to}
use Rattle.solids.specs.Solids.{vertices, facets, vertex}
use Rattle.solids.proofs.Admitted.{passed}
use Rattle.edges.specs.Readers.{solid_of}
use Rattle.bounds.specs.declared.Far.{Far}
use Rattle.bounds.specs.declared.Thing.TheVariants.{Facets}
use Rattle.bounds.specs.Words.{box_of, Narrowed}
use Rattle.bounds.proofs.Inside.{In}
use Rattle.bounds.proofs.Listing.{among_all, narrowed_among}
use Rattle.bounds.proofs.Things.{number_vertex, in_hull}
use Rattle.inclusions.specs.declared.side.Side.{Side}
use Rattle.inclusions.specs.Words.{idle, counted, Enough}
use Rattle.inclusions.proofs.Beside.{sum_near}
use Rattle.inclusions.proofs.include_side.Goals as goal

-- the facets near the box round all vertices count all there is
near_all : (q : Side) {columns : List ℕ} {n : ℕ} (w : Far) → w ≡ idle q.as_b → Narrowed columns w q.own_box (box_of Facets (solid_of q.other)) (up_to (facets (solid_of q.other))) n
    → Enough q (take n columns) 0 (vertices (solid_of q.own))
near_all q {columns} {n} w k h i from to =
    let own = solid_of q.own in
    let other = solid_of q.other in
    let g = subst (λ w. Narrowed columns w q.own_box (box_of Facets other) (up_to (facets other)) n) k h in
    ap (sum_of (counted q i)) g.front
    ∙ sum_near q.as_b (vertex own i) other (passed other q.other_admitted) q.own_box (subst (λ b. In b (vertex own i)) (sym q.own_whole) (in_hull own (number_vertex own (passed own q.own_admitted)) 0 (vertices own) i from (omega (arith, to)))) (up_to (facets other))

pub invariant_of-near : goal.invariant_of-near
invariant_of-near c =
    let x = c.gather-n.ensures in
    record { boxed = x.boxed; among = narrowed_among x.narrowed (among_all (omega (arith, c.args.side.now.other.ready.few))); admitted = c.args.side.now.other_admitted }

pub weigh_groups-requires : goal.weigh_groups-requires
weigh_groups-requires c =
    let q = c.args.side.now in
    let h = c.gather-n.ensures.narrowed in record {
      facing = record {
        solid = refl;
        thing = refl;
        few = omega (arith, length-take-le c.gather-n.result c.gather-n.new.columns h.room, h.fits, length_up_to (facets (solid_of q.other)), q.other.ready.few);
        enough = near_all q c.idle.result c.idle.ensures h;
      };
      room = c.requires.room;
    }
