-- Rows of A as they are walked: what their columns are, where their corners lie, and that they count nothing with what is apart from them.
use mathlib.Core.Path.{◌≡◌, refl, ap, ap₂}
use mathlib.Core.Bool.{Bool, true, false, not, cond}
use mathlib.Core.List.{List, []}
use Prim.Native.Nat.{ℕ, ◌-◌, ◌<◌, ◌≤◌}
use native.Mathlib.Omega.{arith}
use borrow.Author.Tests.{ltb-true, ltb-false, le-ltb, lt-ltb}
use lib.Dec.{ltb}
use lib.Ieee.{Float}
use lib.IntN.{ℤ, pos}
use lib.ListN.{length}
use Rattle.list_words.specs.Lists.{up_to}
use Rattle.list_words.proofs.Tests.{not_false}
use Rattle.points.specs.declared.Point.{Point}
use Rattle.crossings.specs.Crossings.{count}
use Rattle.solids.specs.Solids.{Solid, solid, facets, edges, edge, facet}
use Rattle.solids.proofs.Admitted.{Passed}
use Rattle.results.specs.Inclusion.{edge_facet, facet_edge}
use Rattle.edges.specs.Words.{edge_numbered, Ready}
use Rattle.layouts.specs.Words.{sizes, columns}
use Rattle.bounds.specs.declared.Bounds.{Bounds}
use Rattle.bounds.specs.declared.Far.TheVariants.{Apart}
use Rattle.bounds.specs.declared.Thing.{Thing}
use Rattle.bounds.specs.declared.Thing.TheVariants.{Edges, Facets}
use Rattle.bounds.specs.Words.{Present, apart, far, many, box_of, whole, Among, near_to}
use Rattle.bounds.proofs.Inside.{In, Sound, sound_round_edge, sound_round_facet, in_round_edge, in_round_facet}
use Rattle.bounds.proofs.Listing.{all_places}
use Rattle.bounds.proofs.Misses.{apart_ef, apart_fe}
use Rattle.bounds.proofs.Things.{Lies, number_vertex, lies_box, lies_whole}
use Rattle.crossing_rows.specs.declared.Row.{Row}
use Rattle.crossing_rows.specs.declared.Row.TheVariants.{OfEdge, OfFacet}
use Rattle.crossing_rows.specs.Words.{count_at, row, rows, round, across, Lying, count_of, row_of, crossing}
use Rattle.crossing_rows.proofs.Listings.{crossing_none, crossing_keep}

pub many_few : {points : List Float} {corners ends : List ℕ} → Ready points corners ends → (t : Thing) → many t (solid points corners) ≤ 384
many_few r Edges = r.edges_few
many_few r Facets = omega (arith, r.few)

-- ---- a row by itself

-- it lies in its box
pub in_round : (row : Row) → Lying Present row → Lying (In (round row)) row
in_round (OfEdge e) n = in_round_edge e n
in_round (OfFacet f) n = in_round_facet f n

-- in any two boxes that are apart
pub no_count : (row : Row) (b : Solid) (c : ℕ) (p q : Bounds) → apart p q ≡ true → Lying (In p) row → Lies (across row) (In q) b c → count_of row b c ≡ pos 0
unfolding count_of
no_count (OfEdge e) b c p q h k l = ap count (apart_ef p q h e (facet b c) k l)
no_count (OfFacet f) b c p q h k l = ap count (apart_fe p q h f (edge b (edge_numbered b c)) k l)

pub sound_round : (row : Row) → Lying Present row → Sound (round row)
sound_round (OfEdge e) n = sound_round_edge e n
sound_round (OfFacet f) n = sound_round_facet f n

pub lying_in : {P Q : Point → Type 0} → ((v : Point) → P v → Q v) → (row : Row) → Lying P row → Lying Q row
lying_in h (OfEdge e) l = (h e.start l.0, h e.end l.1)
lying_in h (OfFacet f) l = (h f.p l.0, h f.q l.1, h f.r l.2)

-- nothing is crossed in a box that is apart from all of B
pub none_crossed : (s : ℤ) (row : Row) (b : Solid) → Passed b → (p : Bounds) → apart p (whole b) ≡ true → Lying (In p) row → {columns : List ℕ} → Among columns (across row) b
    → crossing s (count_of row b) columns ≡ []
none_crossed s row b passed p h l {columns} a =
    crossing_none s (count_of row b) columns
    (all_places (λ c. count_of row b c ≡ pos 0) columns (λ i k. no_count row b _ p (whole b) h l (lies_whole b passed (across row) _ (a.there i k))))

-- ---- a row of A
module _ (a b : Solid) (r : ℕ) where
  by_kind : (P : Row → Type 0) → (r < length (edges a) → P (OfEdge (edge a (edge_numbered a r)))) → (length (edges a) ≤ r → P (OfFacet (facet a (r - length (edges a))))) → P (row_of a r)
  unfolding row_of
  by_kind P of_edge of_facet = go (ltb r (length (edges a))) refl
    where
      go : (w : Bool) → ltb r (length (edges a)) ≡ w → P (cond w (OfEdge (edge a (edge_numbered a r))) (OfFacet (facet a (r - length (edges a)))))
      go true e = of_edge (ltb-true r (length (edges a)) e)
      go false e = of_facet (ltb-false r (length (edges a)) e)

  pub across_edge : r < length (edges a) → across (row_of a r) ≡ Facets
  unfolding row_of
  across_edge h = rw (lt-ltb r (length (edges a)) h)

  pub across_facet : length (edges a) ≤ r → across (row_of a r) ≡ Edges
  unfolding row_of
  across_facet h = rw (le-ltb r (length (edges a)) h)

  count_is : (c : ℕ) → count_of (row_of a r) b c ≡ count_at a b r c
  unfolding count_of row_of count_at edge_facet facet_edge
  count_is c = go (ltb r (length (edges a)))
    where
      go : (w : Bool) → count_of (cond w (OfEdge (edge a (edge_numbered a r))) (OfFacet (facet a (r - length (edges a))))) b c
          ≡ cond w (count (edge_facet a b (edge_numbered a r) c)) (count (facet_edge a b (r - length (edges a)) (edge_numbered b c)))
      go true = refl
      go false = refl

  columns_are : many (across (row_of a r)) b ≡ columns (sizes a b) r
  unfolding row_of
  columns_are = go (ltb r (length (edges a)))
    where
      go : (w : Bool) → many (across (cond w (OfEdge (edge a (edge_numbered a r))) (OfFacet (facet a (r - length (edges a)))))) b ≡ cond w (facets b) (length (edges b))
      go true = refl
      go false = refl

  module _ (passed_a : Passed a) (passed_b : Passed b) where
    pub row_present : Lying Present (row_of a r)
    row_present =
        by_kind (Lying Present) (λ h. (number_vertex a passed_a _, number_vertex a passed_a _))
        (λ h. (number_vertex a passed_a _, number_vertex a passed_a _, number_vertex a passed_a _))

    pub row_whole : r < rows a b → Lying (In (whole a)) (row_of a r)
    row_whole l = by_kind (Lying (In (whole a))) (λ h. lies_whole a passed_a Edges r h) (λ h. lies_whole a passed_a Facets (r - length (edges a)) (omega (arith, h, l)))

    -- columns that are far from a box that the row lies in are left out, and nothing is
    pub row_near : (s : ℤ) (p : Bounds) (columns : List ℕ) → Lying (In p) (row_of a r)
        → crossing s (count_of (row_of a r) b) (near_to Apart p (box_of (across (row_of a r)) b) columns) ≡ crossing s (count_of (row_of a r) b) columns
    unfolding near_to far
    row_near s p columns l =
        let t = across (row_of a r) in
        crossing_keep s (count_of (row_of a r) b) (λ c. not (apart p (box_of t b c))) columns
        (λ c e. no_count (row_of a r) b c p (box_of t b c) (not_false (apart p (box_of t b c)) e) l (lies_box b passed_b t c))

  pub row_all : (s : ℤ) → crossing s (count_of (row_of a r) b) (up_to (many (across (row_of a r)) b)) ≡ row s a b r
  unfolding row
  row_all s = ap₂ (crossing s) (λ i c. count_is c i) (ap up_to columns_are)
