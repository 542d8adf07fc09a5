-- A containment count is at most the number of facets: each facet gives at most 1.
use mathlib.Core.Path.{◌∙◌, subst}
use Prim.Native.Nat.{ℕ}
use native.Mathlib.Nat.{mul-one}
use lib.IntN.{ℤ}
use lib.ListN.{length}
use Rattle.list_words.specs.Lists.{up_to, sum_of}
use Rattle.list_words.proofs.Integers.{Bnd, bnd_neg}
use Rattle.list_words.proofs.Sums.{all_of, bnd_sum}
use Rattle.list_words.proofs.UpTo.{length_up_to}
use Rattle.points.specs.declared.Axis.TheVariants.{Z}
use Rattle.points.specs.declared.Point.{Point}
use Rattle.crossings.specs.Crossings.{S, vf, fv}
use Rattle.crossings.proofs.Sizes.{S_size, small_vf, small_fv}
use Rattle.solids.specs.Solids.{Solid, facets, facet}
use Rattle.solids.specs.Containment.{in_A, in_B}

size_sum : (n : ℕ) (φ : ℕ → ℤ) → ((f : ℕ) → Bnd 1 (φ f)) → Bnd n (sum_of φ (up_to n))
size_sum n φ h =
    subst (λ m. Bnd m (sum_of φ (up_to n))) (mul-one (length (up_to n)) ∙ length_up_to n) (bnd_sum 1 φ (up_to n) (all_of (λ f. Bnd 1 (φ f)) (up_to n) (λ f m. h f)))

pub size_in_B : (v : Point) (b : Solid) → Bnd (facets b) (in_B v b)
unfolding in_B
size_in_B v b = size_sum (facets b) (λ f. S Z (vf v (facet b f))) (λ f. S_size Z 1 (vf v (facet b f)) (small_vf v (facet b f)))

pub size_in_A : (a : Solid) (v : Point) → Bnd (facets a) (in_A a v)
unfolding in_A
size_in_A a v =
    bnd_neg (facets a) (sum_of (λ f. S Z (fv (facet a f) v)) (up_to (facets a)))
    (size_sum (facets a) (λ f. S Z (fv (facet a f) v)) (λ f. S_size Z 1 (fv (facet a f) v) (small_fv (facet a f) v)))
