-- An edge or a facet of a solid without blanks lies in its box, and in the box round all vertices.
use mathlib.Core.Path.{◌≡◌, refl, ap, ◌∙◌, subst}
use mathlib.Core.Bool.{false}
use mathlib.Core.List.{List, [], ◌∷◌}
use Prim.Native.Nat.{ℕ, zero, suc, ◌+◌, ◌-◌, ◌/◌, ◌<◌, ◌≤◌}
use native.Mathlib.Omega.{arith}
use native.Mathlib.Decide.{dec_lt}
use lib.ListN.{length, get_or}
use lib.Ieee.{Float, is_nan, neg}
use Rattle.list_words.proofs.Places.{all_get_d}
use Rattle.list_words.proofs.Sums.{All}
use Rattle.points.specs.declared.Point.{Point}
use Rattle.points.specs.declared.Axis.TheVariants.{X, Y, Z}
use Rattle.points.specs.Points.{coordinate, zero_number}
use Rattle.crossings.proofs.Each.{InEdge, InFacet}
use Rattle.solids.specs.Solids.{Solid, vertices, vertex, corner, edges, edge, facet}
use Rattle.solids.proofs.Admitted.{Passed}
use Rattle.solids.proofs.Shut.{IsEdge, all_edges}
use Rattle.edges.specs.Words.{edge_numbered}
use Rattle.bounds.specs.declared.Bounds.{Bounds}
use Rattle.bounds.specs.declared.Thing.{Thing}
use Rattle.bounds.specs.declared.Thing.TheVariants.{Edges, Facets}
use Rattle.bounds.specs.Words.{dot, joined, many, box_of, nowhere, span, hull, whole}
use Rattle.bounds.proofs.Inside.{Number, In, Sound, dot_in, dot_sound, joined_left, joined_right, joined_sound, in_round_edge, in_round_facet}

-- ---- vertices, also beyond the list: what stands there is 0
number_at : (xs : List Float) → All (λ x. is_nan x ≡ false) xs → (i : ℕ) → is_nan (get_or xs i zero_number) ≡ false
unfolding is_nan
number_at [] h i = refl
number_at (x ∷ xs) h zero = h.0
number_at (x ∷ xs) h (suc i) = number_at xs h.1 i

pub number_vertex : (s : Solid) → Passed s → (i : ℕ) → Number (vertex s i)
number_vertex s p i X = number_at s.points p.present _
number_vertex s p i Y = number_at s.points p.present _
number_vertex s p i Z = number_at s.points p.present _

-- ---- edge or facet i of a solid lies in P
abbrev pub Lies : Thing → (Point → Type 0) → Solid → ℕ → Type 0
Lies Edges P s i = InEdge P (edge s (edge_numbered s i))
Lies Facets P s i = InFacet P (facet s i)

nowhere_sound : Sound nowhere
unfolding is_nan neg
nowhere_sound = record {
  low = λ k. elim k as (λ j. is_nan (coordinate j nowhere.low) ≡ false) [ X ↦ refl | Y ↦ refl | Z ↦ refl ];
  high = λ k. elim k as (λ j. is_nan (coordinate j nowhere.high) ≡ false) [ X ↦ refl | Y ↦ refl | Z ↦ refl ];
}

-- ---- the box round boxes holds what one of them holds
module _ (box : ℕ → Bounds) (sound : (i : ℕ) → Sound (box i)) (from : ℕ) where
  sound_span : (n : ℕ) → Sound (span box from n)
  unfolding span
  sound_span zero = nowhere_sound
  sound_span (suc n) = joined_sound (span box from n) (box (from + n)) (sound_span n) (sound (from + n))

  pub in_span : (n i : ℕ) → from ≤ i → i < from + n → (v : Point) → In (box i) v → In (span box from n) v
  unfolding span
  in_span zero i l h v m = absurd (omega arith)
  in_span (suc n) i l h v m = elim (dec_lt i (from + n)) [
    | yes q ↦ joined_left (span box from n) (box (from + n)) (sound (from + n)) v (in_span n i l q v m)
    | no q ↦ let e : i ≡ from + n = omega arith in joined_right (span box from n) (box (from + n)) (sound_span n) v (subst (λ i. In (box i) v) e m)
  ]

pub span_next : (box : ℕ → Bounds) (from i : ℕ) → from ≤ i → span box from (i + 1 - from) ≡ joined (span box from (i - from)) (box i)
unfolding span
span_next box from i h =
    let e : i + 1 - from ≡ suc (i - from) = omega arith in
    let d : from + (i - from) ≡ i = omega arith in
    ap (span box from) e ∙ ap (λ n. joined (span box from (i - from)) (box n)) d

pub all_hull : (points : List Float) → hull points 0 (length points / 3 - 0) ≡ hull points 0 (length points / 3)
all_hull points = let e : length points / 3 - 0 ≡ length points / 3 = omega arith in ap (hull points 0) e

module _ (s : Solid) (number : (i : ℕ) → Number (vertex s i)) (from n i : ℕ) where
  pub in_hull : from ≤ i → i < from + n → In (hull s.points from n) (vertex s i)
  in_hull l h = in_span (λ i. dot (vertex s i)) (λ i. dot_sound (vertex s i) (number i)) from n i l h (vertex s i) (dot_in (vertex s i) (number i))

module _ (s : Solid) (p : Passed s) where
  pub lies_box : (t : Thing) (i : ℕ) → Lies t (In (box_of t s i)) s i
  unfolding box_of
  lies_box Edges i = in_round_edge (edge s (edge_numbered s i)) (number_vertex s p _, number_vertex s p _)
  lies_box Facets i = in_round_facet (facet s i) (number_vertex s p _, number_vertex s p _, number_vertex s p _)

  in_whole : (i : ℕ) → i < vertices s → In (whole s) (vertex s i)
  in_whole i h = in_hull s (number_vertex s p) 0 (vertices s) i (omega arith) (omega arith)

  pub lies_whole : (t : Thing) (i : ℕ) → i < many t s → Lies t (In (whole s)) s i
  lies_whole Edges i h =
      let e = all_get_d (IsEdge s) (edges s) i (0, 0) (all_edges s) h in
      (in_whole (edge_numbered s i).0 (omega (arith, e.rises, e.below)), in_whole (edge_numbered s i).1 e.below)
  lies_whole Facets i h =
      let q = p.proper i h in
      (in_whole (corner s i 0) q.below_p, in_whole (corner s i 1) q.below_q, in_whole (corner s i 2) q.below_r)
