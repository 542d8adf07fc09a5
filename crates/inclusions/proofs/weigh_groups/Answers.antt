-- `weigh_groups` meets its contract: the vertices below `begin` are weighed.
use mathlib.Core.Path.{◌≡◌, sym, ap, ◌∙◌, subst}
use mathlib.Core.List.{List}
use Prim.Native.Nat.{ℕ, ◌-◌, ◌≤◌}
use native.Mathlib.Omega.{arith}
use lib.Ieee.{Float}
use lib.ListN.{take}
use lib.Seq.{length-take-le}
use Rattle.list_words.specs.Lists.{sum_of}
use Rattle.solids.specs.Solids.{vertex}
use Rattle.solids.proofs.Admitted.{passed}
use Rattle.edges.specs.Readers.{solid_of}
use Rattle.bounds.specs.declared.Bounds.{Bounds}
use Rattle.bounds.specs.declared.Far.{Far}
use Rattle.bounds.specs.declared.Thing.TheVariants.{Facets}
use Rattle.bounds.specs.Words.{hull, box_at, Boxed, Among, Narrowed}
use Rattle.bounds.proofs.Inside.{In}
use Rattle.bounds.proofs.Listing.{narrowed_among, narrowed_own}
use Rattle.bounds.proofs.Things.{number_vertex, in_hull}
use Rattle.inclusions.specs.declared.side.Side.{Side}
use Rattle.inclusions.specs.Words.{idle, counted, Enough}
use Rattle.inclusions.proofs.Beside.{sum_near}
use Rattle.inclusions.proofs.weigh_groups.Goals as goal

-- the facets near the box round a group count all there is for it
nearer : (q : Side) {columns few : List ℕ} {boxes : List Float} {n many : ℕ} → Boxed boxes Facets (solid_of q.other) → Among columns Facets (solid_of q.other) → Enough q columns 0 many
    → (i e : ℕ) → e ≤ many → (p : Bounds) → p ≡ hull q.own.points.now i (e - i) → (w : Far) → w ≡ idle q.as_b → Narrowed few w p (box_at boxes) columns n → Enough q (take n few) i e
nearer q {columns} {few} {boxes} {n} boxed among enough i e to p d w k h j from below =
    let own = solid_of q.own in
    let other = solid_of q.other in
    let near = narrowed_own (subst (λ w. Narrowed few w p (box_at boxes) columns n) k h) boxed among in
    ap (sum_of (counted q j)) near
    ∙ sum_near q.as_b (vertex own j) other (passed other q.other_admitted) p (subst (λ b. In b (vertex own j)) (sym d) (in_hull own (number_vertex own (passed own q.own_admitted)) i (e - i) j from (omega (arith, from, below)))) columns
    ∙ enough j (omega arith) (omega (arith, below, to))

pub invariant_of-nearer : goal.invariant_of-nearer
invariant_of-nearer c = record { boxed = c.args.near.now.boxed; among = narrowed_among c.narrow-n.ensures.narrowed c.args.near.now.among; admitted = c.args.near.now.admitted }

pub weigh-requires : goal.weigh-requires
weigh-requires c =
    let q = c.args.side.now in
    let near = c.args.near.now in
    let f = c.requires.facing in
    let g = c.group_end-end in
    let h = c.narrow-n.ensures.narrowed in
    let boxed = rw (f.thing, f.solid) at near.boxed in
    let among = rw (f.thing, f.solid) at near.among in record {
      facing = (
        record {
          solid = f.solid;
          thing = f.thing;
          few = omega (arith, length-take-le c.narrow-n.result c.narrow-n.new.few h.room, h.fits, f.few);
          enough = nearer q boxed among f.enough c.loop-begin.begin g.result g.ensures.1 c.hull-all.result c.hull-all.ensures c.idle.result c.idle.ensures h;
        },
        omega (arith, g.ensures.0),
        g.ensures.1,
      );
      room = (omega (arith, c.loop-begin.auto.inc, c.requires.room.0), omega (arith, c.loop-begin.auto.inc, c.requires.room.1));
    }
