-- What is beside a vertex counts nothing, nor does what is on the side of it that does not count.
use mathlib.Core.Path.{◌≡◌, refl, ap, ◌∙◌}
use mathlib.Core.Logic.{inl, inr}
use mathlib.Core.Bool.{Bool, true, false, not, ◌||◌}
use mathlib.Core.List.{List}
use Prim.Native.Nat.{ℕ, ◌<◌}
use lib.IntN.{pos, neg_ℤ}
use lib.Ieee.{lt}
use Rattle.list_words.specs.Lists.{sum_of, up_to}
use Rattle.list_words.proofs.Sums.{sum_zero, sum_keep}
use Rattle.list_words.proofs.Tests.{not_false, or_true}
use Rattle.list_words.proofs.UpTo.{sum_up_to}
use Rattle.points.specs.declared.Point.{Point}
use Rattle.points.specs.declared.Axis.{Axis}
use Rattle.points.specs.declared.Axis.TheVariants.{X, Y, Z}
use Rattle.points.specs.Points.{coordinate}
use Rattle.crossings.specs.Crossings.{S}
use Rattle.solids.specs.Solids.{Solid, facets, facet}
use Rattle.solids.specs.Containment.{in_A, in_B}
use Rattle.solids.specs.Words.{facet_S, contained}
use Rattle.solids.proofs.Admitted.{Passed}
use Rattle.bounds.specs.declared.Bounds.{Bounds}
use Rattle.bounds.specs.declared.Thing.TheVariants.{Facets}
use Rattle.bounds.specs.Words.{dot, apart_on, beside, far, box_of, whole, near_to, Present}
use Rattle.bounds.proofs.Inside.{In, dot_in}
use Rattle.bounds.proofs.Misses.{beside_vf, beside_fv, below_vf, below_fv}
use Rattle.bounds.proofs.Things.{Lies, lies_box, lies_whole}
use Rattle.inclusions.specs.Words.{idle}

or_turned : (p q : Bool) → p || q ≡ q || p
or_turned true true = refl
or_turned true false = refl
or_turned false true = refl
or_turned false false = refl

pub apart_turned : (k : Axis) (a b : Bounds) → apart_on k a b ≡ apart_on k b a
unfolding apart_on
apart_turned k a b = or_turned (lt (coordinate k a.high) (coordinate k b.low)) (lt (coordinate k b.high) (coordinate k a.low))

beside_turned : (a b : Bounds) → beside a b ≡ beside b a
unfolding beside
beside_turned a b = rw (apart_turned X a b, apart_turned Y a b)

-- in any boxes that are beside each other
no_S : (as_b : Bool) (v : Point) (s : Solid) (f : ℕ) (p q : Bounds) → In p v → beside p q ≡ true → Lies Facets (In q) s f → facet_S as_b v (facet s f) ≡ pos 0
unfolding facet_S S
no_S true v s f p q i h l = ap (S Z) (beside_vf p q h v (facet s f) i l)
no_S false v s f p q i h l = ap (S Z) (beside_fv q p (beside_turned q p ∙ h) (facet s f) v l i)

-- in boxes that are far: so is what is on the side that does not count
idle_S : (as_b : Bool) (v : Point) (s : Solid) (f : ℕ) (p q : Bounds) → In p v → far (idle as_b) p q ≡ true → Lies Facets (In q) s f → facet_S as_b v (facet s f) ≡ pos 0
unfolding far facet_S
idle_S true v s f p q i h l = elim (or_true (beside p q) (lt q.high.z p.low.z) h) [
  | inl b ↦ no_S true v s f p q i b l
  | inr z ↦ below_vf p q z v (facet s f) i l
]
idle_S false v s f p q i h l = elim (or_true (beside p q) (lt p.high.z q.low.z) h) [
  | inl b ↦ no_S false v s f p q i b l
  | inr z ↦ below_fv q p z (facet s f) v l i
]

module _ (as_b : Bool) (v : Point) (s : Solid) (passed : Passed s) where
  pub none_idle : Present v → (f : ℕ) → far (idle as_b) (dot v) (box_of Facets s f) ≡ true → facet_S as_b v (facet s f) ≡ pos 0
  none_idle n f h = idle_S as_b v s f (dot v) (box_of Facets s f) (dot_in v n) h (lies_box s passed Facets f)

  -- facets far from a box that the vertex lies in are left out, and nothing is
  pub sum_near : (p : Bounds) → In p v → (columns : List ℕ)
      → sum_of (λ f. facet_S as_b v (facet s f)) (near_to (idle as_b) p (box_of Facets s) columns) ≡ sum_of (λ f. facet_S as_b v (facet s f)) columns
  unfolding near_to
  sum_near p i columns =
      sum_keep (λ f. not (far (idle as_b) p (box_of Facets s f))) (λ f. facet_S as_b v (facet s f)) columns
      (λ f e. idle_S as_b v s f p (box_of Facets s f) i (not_false (far (idle as_b) p (box_of Facets s f)) e) (lies_box s passed Facets f))

  pub none_inside : Present v → beside (dot v) (whole s) ≡ true → contained as_b v s ≡ pos 0
  unfolding contained in_A in_B facet_S
  none_inside n h = go as_b (λ f l. no_S as_b v s f (dot v) (whole s) (dot_in v n) h (lies_whole s passed Facets f l))
    where
      go : (w : Bool) → ((f : ℕ) → f < facets s → facet_S w v (facet s f) ≡ pos 0) → contained w v s ≡ pos 0
      go true z = sum_up_to (facets s) (λ f. facet_S true v (facet s f)) (λ f. pos 0) z ∙ sum_zero (up_to (facets s))
      go false z = ap neg_ℤ (sum_up_to (facets s) (λ f. facet_S false v (facet s f)) (λ f. pos 0) z ∙ sum_zero (up_to (facets s)))
