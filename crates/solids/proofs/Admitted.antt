-- What admission says, as facts: a solid is accepted exactly if it is `Passed`. Likewise a point.
use mathlib.Core.Path.{◌≡◌, refl, sym, ap, ◌∙◌}
use mathlib.Core.Logic.{◌≢◌}
use mathlib.Core.Bool.{Bool, true, false, not, ◌||◌}
use Prim.Native.Nat.{ℕ, ◌%◌, ◌<◌, ◌≤◌}
use lib.ListN.{length}
use lib.Dec.{leb, ltb, eqb, eqb→eq, eqb_refl}
use lib.Ieee.{Float, inf, lt, neg, is_nan}
use borrow.Author.Tests.{ltb-false, leb-false, eqb-true, eqb-false, le-ltb, lt-leb, eq-eqb, ne_eqb}
use Rattle.list_words.specs.Lists.{up_to, any, turned}
use Rattle.list_words.proofs.Sums.{All, all_at, all_mono, all_flat_map}
use Rattle.list_words.proofs.Tests.{not_false, or-false, any_false, false_any}
use Rattle.list_words.proofs.Threes.{any_threes}
use Rattle.list_words.proofs.UpTo.{all_up_to}
use Rattle.list_words.proofs.Closed.{closed_of_all}
use Rattle.points.specs.declared.Point.{Point}
use Rattle.points.specs.Points.{coordinates, zero_number}
use Rattle.solids.specs.Refusals.{accepted, in_order, given}
use Rattle.solids.specs.Solids.{Solid, Half, vertices, facets, vertex, corner, half_edges_of, facet_half_edges, half_edges, number_of, pairs}
use Rattle.solids.specs.Admission.{uneven, too_many, limit, beyond, too_high, high, named_twice, twice, differ, check_lengths, check_sizes, check_blanks, check_limit, check_facet, check_corners, check_closure, admission, point_admission}
use Rattle.solids.proofs.Checks.{refused_accepted, all_accepted, not_given, none_given, given_none, each_accepts, accepts_each}
use Rattle.solids.proofs.Orders.{last_6, point_else_accepted}
use Rattle.solids.proofs.Pairs.{mem_pairs, all_pairs}

-- three different vertex numbers, all below n
pub record Proper (n p q r : ℕ) : Type 0 where
  pub below_p : p < n
  pub below_q : q < n
  pub below_r : r < n
  pub apart_pq : p ≢ q
  pub apart_qr : q ≢ r
  pub apart_rp : r ≢ p

-- so each facet
abbrev pub All_proper : Solid → Type 0
All_proper s = (f : ℕ) → f < facets s → Proper (vertices s) (corner s f 0) (corner s f 1) (corner s f 2)

pub record Passed (s : Solid) : Type 0 where
  pub points_whole : length s.points % 3 ≡ 0
  pub corners_whole : length s.corners % 3 ≡ 0
  pub few_vertices : vertices s ≤ 128
  pub few_facets : facets s ≤ 256
  pub present : All (λ x. is_nan x ≡ false) s.points
  pub near : All (λ x. beyond x ≡ false) s.points
  pub proper : All_proper s
  pub closed : (h : Half) → number_of h (half_edges s) ≡ number_of (turned h) (half_edges s)

-- a half-edge between two different vertices that are there
pub record Between (n : ℕ) (h : Half) : Type 0 where
  pub start : h.0 < n
  pub end : h.1 < n
  pub apart : h.0 ≢ h.1

pub sides : {n p q r : ℕ} → Proper n p q r → All (Between n) (half_edges_of p q r)
sides h = (
  record { start = h.below_p; end = h.below_q; apart = h.apart_pq },
  (
    record { start = h.below_q; end = h.below_r; apart = h.apart_qr },
    (record { start = h.below_r; end = h.below_p; apart = h.apart_rp }, tt),
  ),
)

pub all_half_edges : (P : Half → Type 0) (s : Solid) → ((f : ℕ) → f < facets s → All P (facet_half_edges s f)) → All P (half_edges s)
unfolding half_edges
all_half_edges P s a = all_flat_map P (facet_half_edges s) (up_to (facets s)) (all_up_to (λ f. All P (facet_half_edges s f)) (facets s) a)

-- ---- check by check
not_high : (n p q r : ℕ) → too_high n p q r ≡ false → (p < n) × (q < n) × (r < n)
unfolding too_high
not_high n p q r e =
    let (pq, r') = or-false (leb n p || leb n q) (leb n r) e in
    let (p', q') = or-false (leb n p) (leb n q) pq in
    (leb-false n p p', leb-false n q q', leb-false n r r')

once : (p q r : ℕ) → named_twice p q r ≡ false → (p ≢ q) × (q ≢ r) × (r ≢ p)
unfolding named_twice
once p q r e =
    let (both, rp) = or-false (eqb p q || eqb q r) (eqb r p) e in
    let (pq, qr) = or-false (eqb p q) (eqb q r) both in
    (eqb-false p q pq, eqb-false q r qr, eqb-false r p rp)

module _ (s : Solid) where
  pub even : uneven s ≡ false → (length s.points % 3 ≡ 0) × (length s.corners % 3 ≡ 0)
  unfolding uneven
  even e =
      let r = or-false (not (eqb (length s.points % 3) 0)) (not (eqb (length s.corners % 3) 0)) e in
      (eqb-true _ _ (not_false _ r.0), eqb-true _ _ (not_false _ r.1))

  pub even_back : length s.points % 3 ≡ 0 → length s.corners % 3 ≡ 0 → uneven s ≡ false
  unfolding uneven
  even_back a b = rw (a, b)

  pub few : too_many s ≡ false → (vertices s ≤ 128) × (facets s ≤ 256)
  unfolding too_many
  few e = let r = or-false (ltb 128 (vertices s)) (ltb 256 (facets s)) e in (ltb-false _ _ r.0, ltb-false _ _ r.1)

  pub few_back : vertices s ≤ 128 → facets s ≤ 256 → too_many s ≡ false
  unfolding too_many
  few_back a b = rw (le-ltb 128 (vertices s) a, le-ltb 256 (facets s) b)

  -- of whole threes the vertices have every coordinate
  pub by_vertex : (p : Float → Bool) → length s.points % 3 ≡ 0 → any p s.points ≡ any (λ i. any p (coordinates (vertex s i))) (up_to (vertices s))
  by_vertex p whole = any_threes p s.points zero_number whole

  -- a facet that is accepted has neither fault
  pub neither : (f : ℕ) → check_facet s f ≡ accepted → (high s f ≡ false) × (twice s f ≡ false)
  unfolding check_facet in_order
  neither f e = by (high s f) refl (twice s f) refl
    where
      by : (h : Bool) → high s f ≡ h → (t : Bool) → twice s f ≡ t → (high s f ≡ false) × (twice s f ≡ false)
      by true i true j = absurd (refused_accepted _ (simp (i, j) at e))
      by true i false j = absurd (refused_accepted _ (simp (i, j) at e))
      by false i true j = absurd (refused_accepted _ (simp (i, j) at e))
      by false i false j = (i, j)

  fine : (f : ℕ) → check_facet s f ≡ accepted → Proper (vertices s) (corner s f 0) (corner s f 1) (corner s f 2)
  fine f e =
      let p = corner s f 0 in
      let q = corner s f 1 in
      let r = corner s f 2 in
      let (no_10, no_11) = neither f e in
      let (bp, bq, br) = not_high (vertices s) p q r no_10 in
      let (pq, qr, rp) = once p q r no_11 in
      record { below_p = bp; below_q = bq; below_r = br; apart_pq = pq; apart_qr = qr; apart_rp = rp }

  fine_back : (f : ℕ) → Proper (vertices s) (corner s f 0) (corner s f 1) (corner s f 2) → check_facet s f ≡ accepted
  unfolding check_facet in_order too_high named_twice
  fine_back f h =
      let p = corner s f 0 in
      let q = corner s f 1 in
      let r = corner s f 2 in
      let n = vertices s in
      rw (lt-leb n p h.below_p, lt-leb n q h.below_q, lt-leb n r h.below_r, ne_eqb p q h.apart_pq, ne_eqb q r h.apart_qr, ne_eqb r p h.apart_rp)

  pub all_fine : check_corners s ≡ accepted → All_proper s
  unfolding check_corners
  all_fine e f i = fine f (each_accepts (check_facet s) (facets s) e f i)

  abbrev pub Matched : Half → Type 0
  Matched h = number_of h (half_edges s) ≡ number_of (turned h) (half_edges s)

  pub matched : (h : Half) → differ (half_edges s) h ≡ false → Matched h
  unfolding differ
  matched h e = eqb-true _ _ (not_false _ e)

  -- The check looks at numbers below the vertex count only, and no half-edge of proper facets has another.
  shut : All_proper s → any (differ (half_edges s)) (pairs (vertices s)) ≡ false → (h : Half) → Matched h
  shut proper e =
      closed_of_all eqb eqb→eq eqb_refl (half_edges s)
      (all_half_edges Matched s (λ f i. all_mono (Between (vertices s)) Matched (facet_half_edges s f) one (sides (proper f i))))
    where
      one : (h : Half) → Between (vertices s) h → Matched h
      one h b =
          matched h (all_at (λ h. differ (half_edges s) h ≡ false) (mem_pairs (vertices s) h b.start b.end)
          (any_false (differ (half_edges s)) (pairs (vertices s)) e))

  pub shut_back : ((h : Half) → Matched h) → any (differ (half_edges s)) (pairs (vertices s)) ≡ false
  unfolding differ
  shut_back c =
      false_any (differ (half_edges s)) (pairs (vertices s))
      (all_pairs (λ h. differ (half_edges s) h ≡ false) (vertices s) (λ h a b. ap not (eq-eqb _ _ (c h))))

  -- ---- both ways
  pub passed : admission s ≡ accepted → Passed s
  unfolding admission check_lengths check_sizes check_blanks check_limit check_closure
  passed e =
      let (c1, (c2, (c3, (c4, (c5, (c6, end)))))) = all_accepted _ e in
      let r1 = even (not_given _ _ c1) in
      let r2 = few (not_given _ _ c2) in
      let r5 = all_fine c5 in
      record {
        points_whole = r1.0;
        corners_whole = r1.1;
        few_vertices = r2.0;
        few_facets = r2.1;
        present = any_false is_nan s.points (by_vertex is_nan r1.0 ∙ none_given _ _ (vertices s) c3);
        near = any_false beyond s.points (by_vertex beyond r1.0 ∙ none_given _ _ (vertices s) c4);
        proper = r5;
        closed = shut r5 (not_given _ _ c6);
      }

  pub admitted : Passed s → admission s ≡ accepted
  unfolding check_blanks check_limit check_corners check_closure
  admitted h =
      let whole = h.points_whole in
      last_6 s (even_back whole h.corners_whole) (few_back h.few_vertices h.few_facets)
      (given_none _ _ (vertices s) (sym (by_vertex is_nan whole) ∙ false_any is_nan s.points h.present))
      (given_none _ _ (vertices s) (sym (by_vertex beyond whole) ∙ false_any beyond s.points h.near))
      (accepts_each (check_facet s) (facets s) (λ f i. fine_back f (h.proper f i))) accepted (ap (given _) (shut_back h.closed))

-- ---- a point
pub record PointPassed (v : Point) : Type 0 where
  pub present : All (λ x. is_nan x ≡ false) (coordinates v)
  pub near : All (λ x. beyond x ≡ false) (coordinates v)

module _ (v : Point) where
  pub point_passed : point_admission v ≡ accepted → PointPassed v
  unfolding point_admission
  point_passed e =
      let (c3, (c4, end)) = all_accepted _ e in
      record { present = any_false is_nan (coordinates v) (not_given _ _ c3); near = any_false beyond (coordinates v) (not_given _ _ c4) }

  pub point_admitted : PointPassed v → point_admission v ≡ accepted
  point_admitted h = point_else_accepted v (false_any is_nan (coordinates v) h.present) (false_any beyond (coordinates v) h.near)

-- ---- the limit, "infinities included"
pub within : (x : Float) → beyond x ≡ false → (lt limit x ≡ false) × (lt x (neg limit) ≡ false)
unfolding beyond
within x e = or-false (lt limit x) (lt x (neg limit)) e

pub infinite_beyond : (s : Bool) → beyond (inf s) ≡ true
unfolding beyond lt neg
infinite_beyond true = refl
infinite_beyond false = refl

-- the limit itself, and the same below 0, are not beyond
pub limit_near : (beyond limit ≡ false) × (beyond (neg limit) ≡ false)
unfolding beyond lt neg
limit_near = (refl, refl)
