-- `find` meets its contract: A's edges first, then its facets.
use mathlib.Core.Bool.{true}
use mathlib.Core.Path.{◌≡◌, ap, subst}
use Prim.Native.Nat.{◌+◌, ◌<◌, ◌≤◌}
use native.Mathlib.Omega.{arith}
use lib.IntN.{ℤ, nat_abs}
use lib.ListN.{length}
use mir.Syntax.{w32}
use mir.Val.{to_z, of_z}
use Rattle.list_words.specs.Lists.{nonzero}
use Rattle.list_words.proofs.Widths.{back_32}
use Rattle.solids.specs.Solids.{Solid, edges}
use Rattle.edges.specs.Readers.{solid_of}
use Rattle.layouts.specs.declared.Sizes.{Sizes}
use Rattle.layouts.specs.Words.{sizes}
use Rattle.bounds.specs.declared.Bounds.{Bounds}
use Rattle.bounds.specs.declared.Thing.TheVariants.{Edges, Facets}
use Rattle.bounds.specs.Words.{whole}
use Rattle.crossing_rows.specs.Words.{row, rows}
use Rattle.crossing_groups.specs.Words.{Searching}
use Rattle.list_words.proofs.Handed.{handed_on}
use Rattle.crossing_rows.proofs.Listings.{below, below_within, listing_none}
use Rattle.crossing_rows.proofs.Rowwise.{across_edge, across_facet}
use Rattle.crossings_found.proofs.find.Goals as goal

module _ (sign : ℤ) (z : Sizes) (a b : Solid) (small : nat_abs sign ≤ 1) (signed : nonzero sign ≡ true) (sized : z ≡ sizes a b) (q : Bounds) (d : q ≡ whole b) where
  of_edges : z.ea ≡ length (edges a)
  of_edges = ap (λ (z : Sizes). z.ea) sized

  of_rows : z.ea + z.fa ≡ rows a b
  of_rows = ap (λ (z : Sizes). z.ea + z.fa) sized

  rows_of_edges : Searching (record { sign = sign; other = q; thing = Facets; many = z.fb; edges = z.ea; begin = 0; end = z.ea }) a b
  rows_of_edges =
      record {
        small = small;
        signed = signed;
        other = d;
        many = ap (λ (z : Sizes). z.fb) sized;
        edges = of_edges;
        begin = omega arith;
        end = omega (arith, of_rows);
        kind = λ r from to. across_edge a b r (omega (arith, to, of_edges));
      }

  rows_of_facets : Searching (record { sign = sign; other = q; thing = Edges; many = z.eb; edges = z.ea; begin = z.ea; end = z.ea + z.fa }) a b
  rows_of_facets =
      record {
        small = small;
        signed = signed;
        other = d;
        many = ap (λ (z : Sizes). z.eb) sized;
        edges = of_edges;
        begin = omega arith;
        end = omega (arith, of_rows);
        kind = λ r from to. across_facet a b r (omega (arith, from, of_edges));
      }

pub find_kind-requires-clause-searching : goal.find_kind-requires-clause-searching
find_kind-requires-clause-searching c =
    let sign = to_z w32 (of_z w32 c.args.sign) in
    let back : sign ≡ c.args.sign = back_32 c.args.sign (omega (arith, c.requires.sign_bound.0)) in
    rows_of_edges sign c.args.z (solid_of c.args.a) (solid_of c.args.b) (rw back c.requires.sign_bound.0) (rw back c.requires.sign_bound.1) c.requires.z_value.0 c.whole-other.result c.whole-other.ensures

pub find_kind-requires-clause-listing : goal.find_kind-requires-clause-listing
find_kind-requires-clause-listing c =
    listing_none (row (to_z w32 (of_z w32 c.args.sign)) (solid_of c.args.a) (solid_of c.args.b)) c.args.first.now c.args.crossed.now (omega (arith, c.requires.fa_in_bounds.0))

pub returns-in_err-find_kind-clause-answered : goal.returns-in_err-find_kind-clause-answered
returns-in_err-find_kind-clause-answered c =
    let a = solid_of c.args.a in
    let b = solid_of c.args.b in
    let sign = to_z w32 (of_z w32 c.args.sign) in
    let back : sign ≡ c.args.sign = back_32 c.args.sign (omega (arith, c.requires.sign_bound.0)) in
    let new = c.find_kind.new.crossed in
    let fits : c.args.z.ea ≤ rows a b = omega (arith, ap (λ (z : Sizes). z.ea + z.fa) c.requires.z_value.0) in
    let g : length new < length (below (row sign a b) (rows a b)) = omega (arith, c.in_err-find_kind.ensures.reached, below_within (row sign a b) c.args.z.ea (rows a b) fits) in
    rw (handed_on _ _ c.from_residual.ensures.1) (subst (λ x. length new < length (below (row x a b) (rows a b))) back g)

pub find_kind-requires-2-clause-searching : goal.find_kind-requires-2-clause-searching
find_kind-requires-2-clause-searching c =
    let sign = to_z w32 (of_z w32 c.args.sign) in
    let back : sign ≡ c.args.sign = back_32 c.args.sign (omega (arith, c.requires.sign_bound.0)) in
    rows_of_facets sign c.args.z (solid_of c.args.a) (solid_of c.args.b) (rw back c.requires.sign_bound.0) (rw back c.requires.sign_bound.1) c.requires.z_value.0 c.whole-other.result c.whole-other.ensures
