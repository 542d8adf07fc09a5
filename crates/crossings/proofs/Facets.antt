-- Two facets, one of A and one of B: the counts of A's half-edges round its facet with B's facet, and those of A's facet with B's half-edges round
-- its facet, add up to the same. So a composite edge of two facets has as many starts as ends (Theorem 2 of 000, for two facets).
use mathlib.Core.Path.{◌≡◌, sym, ap, ◌∙◌}
use mathlib.Core.Bool.{Bool}
use lib.IntN.{ℤ, pos, ◌-ℤ◌}
use Rattle.list_words.proofs.Signed.{around_sub, around_swap}
use Rattle.points.specs.declared.Point.{Point}
use Rattle.points.specs.declared.Axis.TheVariants.{Z}
use Rattle.crossings.specs.declared.Edge.{Edge}
use Rattle.crossings.specs.Crossings.{count, S, vf, fv, ee, ef, fe}
use Rattle.crossings.proofs.Corners.{edge_at, half_edges_of, facet_at, round, round_ext, round_ends, round_ends_turned}
use Rattle.crossings.proofs.Formulas.{count_ef, count_fe}

-- A's facet has the corners p, q, r and B's the corners k, l, m.
module _ {M N : Type 0} (point_A : M → Point) (up_A : M × M → Bool) (p q r : M) (point_B : N → Point) (up_B : N × N → Bool) (k l m : N) where
  round_ef : round point_A up_A p q r (λ a. count (ef a (facet_at point_B up_B k l m)))
      ≡ pos 0 -ℤ round point_A up_A p q r (λ a. round point_B up_B k l m (λ b. S Z (ee a b)))
  round_ef =
      let g = facet_at point_B up_B k l m in
      let inner : Edge → ℤ = λ a. round point_B up_B k l m (λ b. S Z (ee a b)) in
      round_ext point_A up_A p q r _ _ (count_ef point_B up_B k l m)
      ∙ around_sub up_A (λ h. S Z (vf (point_A h.0) g) -ℤ S Z (vf (point_A h.1) g)) (λ h. inner (edge_at point_A h)) (half_edges_of p q r)
      ∙ ap (λ z. z -ℤ round point_A up_A p q r inner) (round_ends_turned point_A up_A p q r (λ v. S Z (vf v g)))

  round_fe : round point_B up_B k l m (λ b. count (fe (facet_at point_A up_A p q r) b))
      ≡ pos 0 -ℤ round point_B up_B k l m (λ b. round point_A up_A p q r (λ a. S Z (ee a b)))
  round_fe =
      let f = facet_at point_A up_A p q r in
      let inner : Edge → ℤ = λ b. round point_A up_A p q r (λ a. S Z (ee a b)) in
      round_ext point_B up_B k l m _ _ (count_fe point_A up_A p q r)
      ∙ around_sub up_B (λ h. S Z (fv f (point_B h.1)) -ℤ S Z (fv f (point_B h.0))) (λ h. inner (edge_at point_B h)) (half_edges_of k l m)
      ∙ ap (λ z. z -ℤ round point_B up_B k l m inner) (round_ends point_B up_B k l m (λ v. S Z (fv f v)))

  pub two_facets : round point_A up_A p q r (λ a. count (ef a (facet_at point_B up_B k l m)))
      ≡ round point_B up_B k l m (λ b. count (fe (facet_at point_A up_A p q r) b))
  two_facets =
      round_ef
      ∙ ap (λ z. pos 0 -ℤ z) (around_swap up_A up_B (λ a b. S Z (ee (edge_at point_A a) (edge_at point_B b))) (half_edges_of p q r) (half_edges_of k l m))
      ∙ sym round_fe
