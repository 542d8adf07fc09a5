-- `contained_near` meets its contract.
use mathlib.Core.Path.{◌≡◌, sym, ap, ap₂, ◌∙◌}
use mathlib.Core.Bool.{Bool, true, false}
use Prim.Native.Nat.{ℕ, ◌+◌}
use native.Mathlib.Omega.{arith}
use lib.IntN.{ℤ, neg_ℤ, +ℤ_idl}
use Rattle.list_words.specs.Lists.{sum_of, up_to}
use Rattle.list_words.proofs.Integers.{bnd_neg}
use Rattle.list_words.proofs.Widths.{back_32}
use Rattle.points.specs.declared.Point.{Point}
use Rattle.solids.specs.Solids.{Solid, facets, facet, vertex}
use Rattle.solids.specs.Containment.{in_A, in_B}
use Rattle.solids.specs.Words.{facet_S, contained}
use Rattle.solids.proofs.Admitted.{passed}
use Rattle.edges.specs.Readers.{solid_of}
use Rattle.bounds.specs.Words.{dot, apart}
use Rattle.box_lists.specs.declared.Near.{Near}
use Rattle.bounds.proofs.Things.{number_vertex}
use Rattle.inclusions.specs.declared.side.Side.{Side}
use Rattle.inclusions.specs.Words.{Facing}
use Rattle.inclusions.proofs.Level.{none_apart}
use Rattle.inclusions.proofs.contained_near.Goals as goal

-- the sum is that of the definition, as B and, negated, as A
module _ (v : Point) (t : Solid) (w : Bool) where
  of_sum : w ≡ true → sum_of (λ f. facet_S w v (facet t f)) (up_to (facets t)) ≡ contained true v t
  unfolding facet_S contained in_B
  of_sum e = rw e

  of_minus : w ≡ false → neg_ℤ (sum_of (λ f. facet_S w v (facet t f)) (up_to (facets t))) ≡ contained false v t
  unfolding facet_S contained in_A
  of_minus e = rw e

-- what the columns count is what all facets do
all_counted : (q : Side) (n : Near) (i : ℕ) (v : Point) (r : ℤ) → Facing q n i (i + 1) → v ≡ vertex (solid_of q.own) i → r ≡ sum_of (λ f. facet_S q.as_b v (facet (solid_of n.solid) f)) n.columns.now
    → r ≡ sum_of (λ f. facet_S q.as_b (vertex (solid_of q.own) i) (facet (solid_of q.other) f)) (up_to (facets (solid_of q.other)))
all_counted q n i v r h d e = e ∙ ap₂ (λ w s. sum_of (λ f. facet_S q.as_b w (facet s f)) n.columns.now) d h.solid ∙ h.enough i (omega arith) (omega arith)

pub sum_near-sum-requires : goal.sum_near-sum-requires
sum_near-sum-requires c =
    let a = solid_of c.args.side.now.own in
    let f = c.requires.1 in
    rw c.vertex-v.ensures (record { facets = (f.thing, f.few); present = number_vertex a (passed a c.args.side.now.own_admitted) c.args.i })

pub returns-then-apart-clause-value : goal.returns-then-apart-clause-value
returns-then-apart-clause-value c =
    let side = c.args.side.now in
    let a = solid_of side.own in
    let b = solid_of side.other in
    let e = ap₂ apart (ap dot (sym c.vertex-v.ensures) ∙ sym c.dot.ensures) (sym side.other_whole) ∙ sym c.apart.ensures ∙ c.if-apart.true in
    sym (none_apart (vertex a c.args.i) b (passed b side.other_admitted) side.as_b (number_vertex a (passed a side.own_admitted) c.args.i) e)

pub returns-then-side-clause-value : goal.returns-then-side-clause-value
returns-then-side-clause-value c =
    let side = c.args.side.now in
    let r = c.sum_near-sum in
    rw (back_32 r.result (omega (arith, r.ensures.small)), c.if-side.true)
    (all_counted side c.args.near.now c.args.i c.vertex-v.result r.result c.requires.1 c.vertex-v.ensures r.ensures.value ∙ of_sum (vertex (solid_of side.own) c.args.i) (solid_of side.other) side.as_b c.if-side.true)

pub returns-else-side-clause-value : goal.returns-else-side-clause-value
returns-else-side-clause-value c =
    let side = c.args.side.now in
    let r = c.sum_near-sum in
    let small = bnd_neg 256 r.result r.ensures.small in
    rw (back_32 r.result (omega (arith, r.ensures.small)), +ℤ_idl (neg_ℤ r.result), back_32 (neg_ℤ r.result) (omega (arith, small)), c.if-side.false)
    (ap neg_ℤ (all_counted side c.args.near.now c.args.i c.vertex-v.result r.result c.requires.1 c.vertex-v.ensures r.ensures.value) ∙ of_minus (vertex (solid_of side.own) c.args.i) (solid_of side.other) side.as_b c.if-side.false)
