-- A vertex above or below the box round a closed solid is in it 0 times: its counts with the facets add up to 0, and S is all of them
-- or none.
use mathlib.Core.Path.{◌≡◌, ap, ◌∙◌}
use mathlib.Core.Logic.{inl, inr}
use mathlib.Core.Bool.{Bool, true, false, cond}
use Prim.Native.Nat.{ℕ, ◌<◌}
use lib.IntN.{ℤ, pos, neg_ℤ}
use Rattle.list_words.specs.Lists.{sum_of, up_to}
use Rattle.list_words.proofs.Sums.{sum_ext, sum_neg, sum_zero}
use Rattle.list_words.proofs.Tests.{or_true}
use Rattle.list_words.proofs.UpTo.{sum_up_to}
use Rattle.points.specs.declared.Point.{Point}
use Rattle.points.specs.declared.Axis.TheVariants.{Y, Z}
use Rattle.crossings.specs.Crossings.{count, S, ve, ev, vf, fv}
use Rattle.crossings.proofs.Formulas.{count_vf, count_fv}
use Rattle.solids.specs.Solids.{Solid, Half, facets, corner, along, edge, facet}
use Rattle.solids.specs.Solids as So
use Rattle.solids.specs.Containment.{in_A, in_B}
use Rattle.solids.specs.Words.{contained}
use Rattle.solids.proofs.Admitted.{Passed}
use Rattle.solids.proofs.Around.{around, around_closed}
use Rattle.solids.proofs.Shut.{simple, closed}
use Rattle.bounds.specs.declared.Thing.TheVariants.{Facets}
use Rattle.bounds.specs.Words.{dot, apart_on, beside, apart, whole, Present}
use Rattle.bounds.proofs.Inside.{dot_in}
use Rattle.bounds.proofs.Misses.{level_vf, level_fv}
use Rattle.bounds.proofs.Things.{lies_whole}
use Rattle.inclusions.proofs.Beside.{apart_turned, none_inside}

module _ (v : Point) (s : Solid) (p : Passed s) where
  sum_vf : sum_of (λ f. count (vf v (facet s f))) (up_to (facets s)) ≡ pos 0
  sum_vf =
      let x : Half → ℤ = λ h. S Y (ve v (edge s h)) in
      sum_ext (λ f. count (vf v (facet s f))) (λ f. neg_ℤ (around s x f)) (up_to (facets s)) (λ f. count_vf (So.vertex s) along (corner s f 0) (corner s f 1) (corner s f 2) v)
      ∙ sum_neg (around s x) (up_to (facets s)) ∙ ap neg_ℤ (around_closed s (closed s p) (simple s p) x)

  sum_fv : sum_of (λ f. count (fv (facet s f) v)) (up_to (facets s)) ≡ pos 0
  sum_fv =
      let x : Half → ℤ = λ h. S Y (ev (edge s h) v) in
      sum_ext (λ f. count (fv (facet s f) v)) (λ f. around s x f) (up_to (facets s)) (λ f. count_fv (So.vertex s) along (corner s f 0) (corner s f 1) (corner s f 2) v)
      ∙ around_closed s (closed s p) (simple s p) x

  -- all of them, or none
  module _ (g : ℕ → ℤ) (z : sum_of g (up_to (facets s)) ≡ pos 0) where
    all_or_none : (w : Bool) (t : ℕ → ℤ) → ((f : ℕ) → f < facets s → t f ≡ cond w (g f) (pos 0)) → sum_of t (up_to (facets s)) ≡ pos 0
    all_or_none true t h = sum_up_to (facets s) t g h ∙ z
    all_or_none false t h = sum_up_to (facets s) t (λ f. pos 0) h ∙ sum_zero (up_to (facets s))

  none_level : (as_b : Bool) → Present v → apart_on Z (dot v) (whole s) ≡ true → contained as_b v s ≡ pos 0
  unfolding contained in_A in_B
  none_level true n h =
      let (w, e) = level_vf (dot v) (whole s) h in
      all_or_none (λ f. count (vf v (facet s f))) sum_vf w (λ f. S Z (vf v (facet s f))) (λ f l. e v (facet s f) (dot_in v n) (lies_whole s p Facets f l))
  none_level false n h =
      let (w, e) = level_fv (whole s) (dot v) (apart_turned Z (whole s) (dot v) ∙ h) in
      ap neg_ℤ
      (all_or_none (λ f. count (fv (facet s f) v)) sum_fv w (λ f. S Z (fv (facet s f) v)) (λ f l. e (facet s f) v (lies_whole s p Facets f l) (dot_in v n)))

  pub none_apart : (as_b : Bool) → Present v → apart (dot v) (whole s) ≡ true → contained as_b v s ≡ pos 0
  unfolding apart
  none_apart as_b n h = elim (or_true (beside (dot v) (whole s)) (apart_on Z (dot v) (whole s)) h) [
    | inl b ↦ none_inside as_b v s p n b
    | inr z ↦ none_level as_b n z
  ]
