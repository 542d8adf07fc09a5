-- Theorem 2 of 000: on each composite edge as many ends as starts. First for the counts X, then for the inclusions of any operation.
use mathlib.Core.Path.{◌≡◌, sym, ap, ap₂, ◌∙◌}
use Prim.Native.Nat.{ℕ}
use native.Mathlib.Omega.{arith}
use lib.Dec.{eqb}
use lib.IntN.{ℤ, neg_ℤ, ◌+ℤ◌, ◌-ℤ◌, ◌*ℤ◌, +ℤ_idr}
use Rattle.list_words.specs.Lists.{up_to, sum_of}
use Rattle.list_words.proofs.Integers.{split, mk_eq, lin, mul_sub}
use Rattle.list_words.proofs.Sums.{sum_ext, sum_sub, sum_mul}
use Rattle.list_words.proofs.Closed.{Closed, Simple}
use Rattle.list_words.proofs.Signed.{around_mul}
use Rattle.points.specs.declared.Axis.TheVariants.{Z}
use Rattle.crossings.specs.Crossings.{count, S, fv, ee}
use Rattle.crossings.proofs.Formulas.{count_ef, count_fe}
use Rattle.crossings.proofs.Facets.{two_facets}
use Rattle.solids.specs.Solids.{Solid, Half, vertex, corner, facets, facet, edge, half_edges, along, facet_half_edges}
use Rattle.solids.specs.Containment.{in_A, in_B}
use Rattle.solids.proofs.Around.{around, around_closed}
use Rattle.results.specs.declared.Operation.{Operation}
use Rattle.results.specs.Inclusion.{Key, vA, eAfB, fAeB, vB, edge_facet, facet_edge, cA, cB, cI, inclusion}

-- what admission gives of a solid
pub record Shut (s : Solid) : Type 0 where
  pub closed : Closed eqb (half_edges s)
  pub simple : Simple (half_edges s)

-- ---- along an edge: over all facets of a closed solid, what goes round them falls out
row_sum :
    (s : Solid) → Shut s → (x u w : ℕ → ℤ) (z : Half → ℤ) → ((f : ℕ) → x f ≡ u f -ℤ w f -ℤ around s z f)
    → sum_of x (up_to (facets s)) ≡ sum_of u (up_to (facets s)) -ℤ sum_of w (up_to (facets s))
row_sum s shut x u w z e =
    sum_ext x (λ f. u f -ℤ w f -ℤ around s z f) (up_to (facets s)) e
    ∙ sum_sub (λ f. u f -ℤ w f) (around s z) (up_to (facets s))
    ∙ ap₂ ◌-ℤ◌ (sum_sub u w (up_to (facets s))) (around_closed s shut.closed shut.simple z)
    ∙ +ℤ_idr (sum_of u (up_to (facets s)) -ℤ sum_of w (up_to (facets s)))

-- ---- the counts
module _ (a b : Solid) where
  -- an edge's crossings count how often the other solid contains its start more than its end
  sum_eAfB : Shut b → (e : Half) → sum_of (λ g. count (edge_facet a b e g)) (up_to (facets b)) ≡ in_B (vertex a e.0) b -ℤ in_B (vertex a e.1) b
  unfolding in_B edge_facet
  sum_eAfB shut e =
      row_sum b shut _ _ _ (λ k. S Z (ee (edge a e) (edge b k))) (λ g. count_ef (vertex b) along (corner b g 0) (corner b g 1) (corner b g 2) (edge a e))

  sum_fAeB : Shut a → (e : Half) → sum_of (λ f. count (facet_edge a b f e)) (up_to (facets a)) ≡ in_A a (vertex b e.0) -ℤ in_A a (vertex b e.1)
  unfolding in_A facet_edge
  sum_fAeB shut e =
      row_sum a shut _ _ _ (λ k. S Z (ee (edge a k) (edge b e))) (λ f. count_fe (vertex a) along (corner a f 0) (corner a f 1) (corner a f 2) (edge b e))
      ∙ law (sum_of (λ f. S Z (fv (facet a f) (vertex b e.0))) (up_to (facets a))) (sum_of (λ f. S Z (fv (facet a f) (vertex b e.1))) (up_to (facets a)))
    where
      law : (x y : ℤ) → y -ℤ x ≡ neg_ℤ x -ℤ neg_ℤ y
      law x y = rw (split x, split y) (simp lin (mk_eq _ _ _ _ (omega arith)))

  -- round two facets, each with the other, the counts are the same
  round_fAfB : (f g : ℕ) → around a (λ e. count (edge_facet a b e g)) f ≡ around b (λ e. count (facet_edge a b f e)) g
  unfolding edge_facet facet_edge
  round_fAfB f g = two_facets (vertex a) along (corner a f 0) (corner a f 1) (corner a f 2) (vertex b) along (corner b g 0) (corner b g 1) (corner b g 2)

-- ---- the inclusions
pub record Adds (inc : Key → ℤ) (a b : Solid) : Type 0 where
  pub eA : (e : Half) → sum_of (λ g. inc (eAfB e g)) (up_to (facets b)) ≡ inc (vA e.0) -ℤ inc (vA e.1)
  pub eB : (e : Half) → sum_of (λ f. inc (fAeB f e)) (up_to (facets a)) ≡ inc (vB e.0) -ℤ inc (vB e.1)
  pub fAfB : (f g : ℕ) → around a (λ e. inc (eAfB e g)) f ≡ around b (λ e. inc (fAeB f e)) g

included :
    (c i : ℤ) (x : ℕ → ℤ) (n : ℕ) (s t : ℤ) → sum_of x (up_to n) ≡ s -ℤ t → sum_of (λ f. i *ℤ x f) (up_to n) ≡ (c +ℤ i *ℤ s) -ℤ (c +ℤ i *ℤ t)
included c i x n s t e = sum_mul i x (up_to n) ∙ ap (λ y. i *ℤ y) e ∙ mul_sub i s t ∙ law c (i *ℤ s) (i *ℤ t)
  where
    law : (c x y : ℤ) → x -ℤ y ≡ (c +ℤ x) -ℤ (c +ℤ y)
    law c x y = rw (split c, split x, split y) (simp lin (mk_eq _ _ _ _ (omega arith)))

pub inclusion_adds : (op : Operation) (a b : Solid) → Shut a → Shut b → Adds (inclusion op a b) a b
unfolding inclusion
inclusion_adds op a b shut_a shut_b =
    record {
      eA = λ e. included (cA op) (cI op) _ (facets b) _ _ (sum_eAfB a b shut_b e);
      eB = λ e. included (cB op) (cI op) _ (facets a) _ _ (sum_fAeB a b shut_a e);
      fAfB =
          λ f g. around_mul along (cI op) (λ e. count (edge_facet a b e g)) (facet_half_edges a f)
          ∙ ap (λ y. cI op *ℤ y) (round_fAfB a b f g)
          ∙ sym (around_mul along (cI op) (λ e. count (facet_edge a b f e)) (facet_half_edges b g));
    }
