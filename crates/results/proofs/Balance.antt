-- Theorems 3 and 4 of 000, for any inclusions that add up and any numbering of the vertices: each facet's boundary goes round, and all boundaries
-- together turn back on themselves. "Goes round" and "turns back" are said by test functions: a difference of any φ, and any g that is negated when
-- its step is turned, sum to 0.
use mathlib.Core.Path.{◌≡◌, refl, sym, ap, ap₂, ◌∙◌}
use mathlib.Core.Bool.{Bool, true, false, cond}
use mathlib.Core.List.{List, map, flat_map}
use Prim.Native.Nat.{ℕ}
use native.Mathlib.Omega.{arith}
use lib.IntN.{ℤ, pos, neg_ℤ, ◌+ℤ◌, ◌-ℤ◌, ◌*ℤ◌, +ℤ_comm, +ℤ_idl, +ℤ_invr}
use Rattle.list_words.specs.Lists.{up_to, sum_of, turned}
use Rattle.list_words.proofs.Integers.{split, mk_eq, lin, neg_mul, neg_sub}
use Rattle.list_words.proofs.Sums.{sum_append, sum_add, sum_sub, sum_neg, sum_ext, sum_swap, sum_map, sum_flat_map}
use Rattle.list_words.proofs.Closed.{Anti}
use Rattle.list_words.proofs.Signed.{sgn, loop, around_ext, around_add, around_diff, around_sum, sum_half, sum_turned}
use Rattle.list_words.proofs.Joining.{join_sum}
use Rattle.solids.specs.Solids.{Solid, Half, corner, facets, facet_half_edges, along, edge_of, signed}
use Rattle.solids.proofs.Around.{around, around_closed}
use Rattle.results.specs.declared.End.{End}
use Rattle.results.specs.Inclusion.{Key, vA, eAfB, fAeB, vB}
use Rattle.results.specs.Pieces.{SignedEnd, minus, plain, signed_as, ends_along, ends_of_eA, ends_of_fAfB, ends_of_eB, gathered, starts, stops, pieces, as_half}
use Rattle.results.specs.Triangles.{joined, pieces_of_eA, pieces_of_fAfB, pieces_of_eB, boundary_A, boundary_B}
use Rattle.results.proofs.Adding.{Shut, Adds}

-- ---- sums over the ends of a composite edge, of anything that is negated with the end's count
module _ (inc : Key → ℤ) (w : SignedEnd → ℤ) (odd : (e : SignedEnd) → w (minus e) ≡ neg_ℤ (w e)) where
  abbrev W : Key → ℤ
  W k = w (plain inc k)

  pub along_sum : (start end : Key) (ks : List Key) → sum_of w (ends_along inc start end ks) ≡ (W end -ℤ W start) +ℤ sum_of W ks
  unfolding sum_of
  along_sum start end ks = ap₂ (λ x y. x +ℤ (W end +ℤ y)) (odd (plain inc start)) (sum_map w (plain inc) ks) ∙ law (W start) (W end) (sum_of W ks)
    where
      law : (x y z : ℤ) → neg_ℤ x +ℤ (y +ℤ z) ≡ (y -ℤ x) +ℤ z
      law x y z = rw (split x, split y, split z) (simp lin (mk_eq _ _ _ _ (omega arith)))

  signed_sum : (h : Half) (k : Key) → w (signed_as inc h k) ≡ signed h (W k)
  signed_sum h k = go (along h)
    where
      go : (b : Bool) → w (record { key = k; count = cond b (inc k) (neg_ℤ (inc k)) }) ≡ cond b (W k) (neg_ℤ (W k))
      go true = refl
      go false = odd (plain inc k)

  pub pair_sum : (a b : Solid) (f g : ℕ) → sum_of w (ends_of_fAfB inc a b f g) ≡ around b (λ e. W (fAeB f e)) g -ℤ around a (λ e. W (eAfB e g)) f
  unfolding ends_of_fAfB
  pair_sum a b f g =
      sum_append w (map (λ h. minus (signed_as inc h (eAfB (edge_of h) g))) (facet_half_edges a f)) (map (λ h. signed_as inc h (fAeB f (edge_of h))) (facet_half_edges b g))
      ∙ ap₂ ◌+ℤ◌
      (sum_map w (λ h. minus (signed_as inc h (eAfB (edge_of h) g))) (facet_half_edges a f)
      ∙ sum_ext _ (λ h. neg_ℤ (sgn along (λ e. W (eAfB e g)) h)) (facet_half_edges a f) (λ h. odd (signed_as inc h (eAfB (edge_of h) g)) ∙ ap neg_ℤ (signed_sum h (eAfB (edge_of h) g)))
      ∙ sum_neg (sgn along (λ e. W (eAfB e g))) (facet_half_edges a f))
      (sum_map w (λ h. signed_as inc h (fAeB f (edge_of h))) (facet_half_edges b g)
      ∙ sum_ext _ (sgn along (λ e. W (fAeB f e))) (facet_half_edges b g) (λ h. signed_sum h (fAeB f (edge_of h))))
      ∙ +ℤ_comm (neg_ℤ (around a (λ e. W (eAfB e g)) f)) (around b (λ e. W (fAeB f e)) g)

-- ---- what a boundary's pieces add up to: round the facet its edges' pieces, then those with each facet of the other solid
module _ (inc : Key → ℤ) (num : Key → ℕ) (a b : Solid) (G : Half → ℤ) (anti : Anti G) where
  abbrev pub cross : ℕ → ℕ → ℤ
  cross f g = sum_of G (pieces_of_fAfB inc num a b f g)

  edges_sum : (s : Solid) (p : Half → List Half) (f : ℕ) → sum_of G (flat_map (λ h. as_half h (p (edge_of h))) (facet_half_edges s f)) ≡ around s (λ e. sum_of G (p e)) f
  edges_sum s p f =
      sum_flat_map G (λ h. as_half h (p (edge_of h))) (facet_half_edges s f)
      ∙ sum_ext _ (sgn along (λ e. sum_of G (p e))) (facet_half_edges s f) (sum_half G anti along p)

  pub boundary_A_sum : (f : ℕ) → sum_of G (boundary_A inc num a b f) ≡ around a (λ e. sum_of G (pieces_of_eA inc num a b e)) f +ℤ sum_of (cross f) (up_to (facets b))
  unfolding boundary_A
  boundary_A_sum f =
      sum_append G (flat_map (λ h. as_half h (pieces_of_eA inc num a b (edge_of h))) (facet_half_edges a f)) (flat_map (pieces_of_fAfB inc num a b f) (up_to (facets b)))
      ∙ ap₂ ◌+ℤ◌ (edges_sum a (pieces_of_eA inc num a b) f) (sum_flat_map G (pieces_of_fAfB inc num a b f) (up_to (facets b)))

  pub boundary_B_sum : (g : ℕ) → sum_of G (boundary_B inc num a b g) ≡ around b (λ e. sum_of G (pieces_of_eB inc num a b e)) g +ℤ sum_of (λ f. neg_ℤ (cross f g)) (up_to (facets a))
  unfolding boundary_B
  boundary_B_sum g =
      sum_append G (flat_map (λ f. map turned (pieces_of_fAfB inc num a b f g)) (up_to (facets a))) (flat_map (λ h. as_half h (pieces_of_eB inc num a b (edge_of h))) (facet_half_edges b g))
      ∙ ap₂ ◌+ℤ◌
      (sum_flat_map G (λ f. map turned (pieces_of_fAfB inc num a b f g)) (up_to (facets a))
      ∙ sum_ext _ (λ f. neg_ℤ (cross f g)) (up_to (facets a)) (λ f. sum_turned G anti (pieces_of_fAfB inc num a b f g)))
      (edges_sum b (pieces_of_eB inc num a b) g)
      ∙ +ℤ_comm (sum_of (λ f. neg_ℤ (cross f g)) (up_to (facets a))) (around b (λ e. sum_of G (pieces_of_eB inc num a b e)) g)

  -- THEOREM 4
  pub turns_back : Shut a → Shut b → sum_of (λ f. sum_of G (boundary_A inc num a b f)) (up_to (facets a)) +ℤ sum_of (λ g. sum_of G (boundary_B inc num a b g)) (up_to (facets b)) ≡ pos 0
  turns_back shut_a shut_b =
      ap₂ ◌+ℤ◌
      (all_of a shut_a (λ f. sum_of G (boundary_A inc num a b f)) (λ e. sum_of G (pieces_of_eA inc num a b e)) (λ f. sum_of (cross f) (up_to (facets b))) boundary_A_sum
      ∙ sum_swap cross (up_to (facets a)) (up_to (facets b)))
      (all_of b shut_b (λ g. sum_of G (boundary_B inc num a b g)) (λ e. sum_of G (pieces_of_eB inc num a b e)) (λ g. sum_of (λ f. neg_ℤ (cross f g)) (up_to (facets a))) boundary_B_sum
      ∙ sum_ext _ (λ g. neg_ℤ (sum_of (λ f. cross f g) (up_to (facets a)))) (up_to (facets b)) (λ g. sum_neg (λ f. cross f g) (up_to (facets a)))
      ∙ sum_neg (λ g. sum_of (λ f. cross f g) (up_to (facets a))) (up_to (facets b)))
      ∙ +ℤ_invr (sum_of (λ g. sum_of (λ f. cross f g) (up_to (facets a))) (up_to (facets b)))
    where
      -- over all facets of a closed solid its edges' pieces fall out
      all_of : (s : Solid) → Shut s → (x : ℕ → ℤ) (p : Half → ℤ) (c : ℕ → ℤ) → ((f : ℕ) → x f ≡ around s p f +ℤ c f) → sum_of x (up_to (facets s)) ≡ sum_of c (up_to (facets s))
      all_of s shut x p c e =
          sum_ext x (λ f. around s p f +ℤ c f) (up_to (facets s)) e ∙ sum_add (around s p) c (up_to (facets s))
          ∙ ap (λ y. y +ℤ sum_of c (up_to (facets s))) (around_closed s shut.closed shut.simple p)
          ∙ +ℤ_idl (sum_of c (up_to (facets s)))

-- ---- Theorem 3
-- round one facet of s: its edges' pieces have weights χ at the ends and u at the crossings, its pieces with the other solid's facets take those u
-- back and have weights r, which sum to 0
facet_balance :
    (s : Solid) (f n : ℕ) (P : Half → ℤ) (χ : ℕ → ℤ) (u : ℕ → Half → ℤ) (C r : ℕ → ℤ) → ((e : Half) → P e ≡ (χ e.1 -ℤ χ e.0) +ℤ sum_of (λ o. u o e) (up_to n))
    → ((o : ℕ) → C o ≡ r o -ℤ around s (u o) f) → sum_of r (up_to n) ≡ pos 0 → around s P f +ℤ sum_of C (up_to n) ≡ pos 0
facet_balance s f n P χ u C r p c z =
    ap₂ ◌+ℤ◌
    (around_ext along P (λ e. (χ e.1 -ℤ χ e.0) +ℤ sum_of (λ o. u o e) (up_to n)) (facet_half_edges s f) p
    ∙ around_add along (λ e. χ e.1 -ℤ χ e.0) (λ e. sum_of (λ o. u o e) (up_to n)) (facet_half_edges s f)
    ∙ ap₂ ◌+ℤ◌ (around_diff along χ (facet_half_edges s f) (loop (corner s f 0) (corner s f 1) (corner s f 2))) (around_sum along u (up_to n) (facet_half_edges s f)))
    (sum_ext C (λ o. r o -ℤ around s (u o) f) (up_to n) c ∙ sum_sub r (λ o. around s (u o) f) (up_to n) ∙ ap (λ y. y -ℤ sum_of (λ o. around s (u o) f) (up_to n)) z)
    ∙ law (sum_of (λ o. around s (u o) f) (up_to n))
  where
    law : (x : ℤ) → (pos 0 +ℤ x) +ℤ (pos 0 -ℤ x) ≡ pos 0
    law x = rw (split x) (simp lin (mk_eq _ _ _ _ (omega arith)))

module _ (inc : Key → ℤ) (num : Key → ℕ) (a b : Solid) (adds : Adds inc a b) (φ : ℕ → ℤ) where
  abbrev D : Half → ℤ
  D h = φ h.1 -ℤ φ h.0

  D_anti : Anti D
  D_anti h = sym (neg_sub (φ h.1) (φ h.0))

  -- a piece's difference, by the ends that it was joined from
  abbrev weigh : SignedEnd → ℤ
  weigh e = e.count *ℤ φ (num e.key)

  weigh_odd : (e : SignedEnd) → weigh (minus e) ≡ neg_ℤ (weigh e)
  weigh_odd e = neg_mul e.count (φ (num e.key))

  joined_sum : (es : List SignedEnd) → sum_of (λ (e : SignedEnd). e.count) es ≡ pos 0 → sum_of D (joined inc num a b es) ≡ sum_of weigh es
  unfolding pieces starts stops
  joined_sum es z =
      join_sum (λ (e : End). e.vertex) (λ (e : End). e.count) φ (gathered num es) (sum_map (λ (e : End). e.count) _ es ∙ z)
      ∙ sum_map (λ (e : End). e.count *ℤ φ e.vertex) _ es

  -- along an edge of A or of B
  edge_weight :
      (start end : Key) (F : ℕ → Key) (n : ℕ) → sum_of (λ o. inc (F o)) (up_to n) ≡ inc start -ℤ inc end
      → sum_of D (joined inc num a b (ends_along inc start end (map F (up_to n)))) ≡ (weigh (plain inc end) -ℤ weigh (plain inc start)) +ℤ sum_of (λ o. weigh (plain inc (F o))) (up_to n)
  edge_weight start end F n z =
      joined_sum (ends_along inc start end (map F (up_to n)))
      (along_sum inc (λ (e : SignedEnd). e.count) (λ e. refl) start end (map F (up_to n)) ∙ ap (λ y. (inc end -ℤ inc start) +ℤ y) (sum_map inc F (up_to n) ∙ z) ∙ law (inc start) (inc end))
      ∙ along_sum inc weigh weigh_odd start end (map F (up_to n))
      ∙ ap (λ y. (weigh (plain inc end) -ℤ weigh (plain inc start)) +ℤ y) (sum_map (λ k. weigh (plain inc k)) F (up_to n))
    where
      law : (x y : ℤ) → (y -ℤ x) +ℤ (x -ℤ y) ≡ pos 0
      law x y = rw (split x, split y) (simp lin (mk_eq _ _ _ _ (omega arith)))

  abbrev u : ℕ → Half → ℤ
  u g e = weigh (plain inc (eAfB e g))

  abbrev w : ℕ → Half → ℤ
  w f e = weigh (plain inc (fAeB f e))

  pair_weight : (f g : ℕ) → sum_of D (pieces_of_fAfB inc num a b f g) ≡ around b (w f) g -ℤ around a (u g) f
  pair_weight f g =
      joined_sum (ends_of_fAfB inc a b f g)
      (pair_sum inc (λ (e : SignedEnd). e.count) (λ e. refl) a b f g ∙ ap (λ y. around b (λ e. inc (fAeB f e)) g -ℤ y) (adds.fAfB f g) ∙ +ℤ_invr (around b (λ e. inc (fAeB f e)) g))
      ∙ pair_sum inc weigh weigh_odd a b f g

  -- THEOREM 3
  pub round_A : Shut b → (f : ℕ) → sum_of D (boundary_A inc num a b f) ≡ pos 0
  unfolding ends_of_eA
  round_A shut f =
      boundary_A_sum inc num a b D D_anti f
      ∙ facet_balance a f (facets b) _ (λ p. weigh (plain inc (vA p))) u _ (around b (w f))
      (λ e. edge_weight (vA e.0) (vA e.1) (eAfB e) (facets b) (adds.eA e))
      (pair_weight f)
      (around_closed b shut.closed shut.simple (w f))

  pub round_B : Shut a → (g : ℕ) → sum_of D (boundary_B inc num a b g) ≡ pos 0
  unfolding ends_of_eB
  round_B shut g =
      boundary_B_sum inc num a b D D_anti g
      ∙ facet_balance b g (facets a) _ (λ p. weigh (plain inc (vB p))) w _ (λ f. around a (u g) f)
      (λ e. edge_weight (vB e.0) (vB e.1) (λ f. fAeB f e) (facets a) (adds.eB e))
      (λ f. ap neg_ℤ (pair_weight f g) ∙ neg_sub (around b (w f) g) (around a (u g) f))
      (around_closed a shut.closed shut.simple (u g))
