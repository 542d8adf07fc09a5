-- What a passed solid's half-edges and edges are: closed and between different vertices that are there; each half-edge's edge is listed, once; a
-- facet's three half-edges go round and have three edges.
use mathlib.Core.Path.{◌≡◌, refl, sym, ap, ◌∙◌}
use mathlib.Core.Logic.{◌≢◌}
use mathlib.Core.Bool.{Bool, true, false, not, cond}
use mathlib.Core.List.{map, Memᴰ}
use Prim.Native.Nat.{ℕ, ◌+◌, ◌<◌}
use native.Mathlib.Omega.{arith}
use lib.Dec.{ltb, eqb}
use borrow.Author.Tests.{ltb-true, lt-ltb}
use Rattle.list_words.specs.Lists.{turned}
use Rattle.list_words.proofs.Sums.{All, all_at, all_mono, mem_flat_map}
use Rattle.list_words.proofs.Tests.{and_true, true_and, all_keep, mem_keep}
use Rattle.list_words.proofs.UpTo.{Distinct, distinct_keep, mem_up_to}
use Rattle.list_words.proofs.Closed.{Closed, Simple}
use Rattle.list_words.proofs.Signed.{Round, loop}
use Rattle.solids.specs.Solids.{Solid, Half, vertices, facets, corner, facet_half_edges, half_edges, number_of, pairs, is_edge, edges, along, edge_of}
use Rattle.solids.proofs.Pairs.{mem_pairs, all_pairs, distinct_pairs, counted_there, flip, next_edge}
use Rattle.solids.proofs.Admitted.{Passed, Between, sides, all_half_edges}

-- ---- a facet's half-edges
module _ (s : Solid) where
  pub facet_round : (f : ℕ) → Round (facet_half_edges s f)
  facet_round f = loop (corner s f 0) (corner s f 1) (corner s f 2)

  pub mem_half_edges : (f : ℕ) → f < facets s → {h : Half} → Memᴰ h (facet_half_edges s f) → Memᴰ h (half_edges s)
  unfolding half_edges
  mem_half_edges f i m = mem_flat_map (facet_half_edges s) (mem_up_to (facets s) f i) m

  module _ (passed : Passed s) where
    pub facet_between : (f : ℕ) → f < facets s → All (Between (vertices s)) (facet_half_edges s f)
    facet_between f i = sides (passed.proper f i)

    pub facet_simple : (f : ℕ) → f < facets s → Simple (facet_half_edges s f)
    facet_simple f i = all_mono (Between (vertices s)) (λ h. h.0 ≢ h.1) (facet_half_edges s f) (λ h b. b.apart) (facet_between f i)

    pub facet_edges_distinct : (f : ℕ) → f < facets s → Distinct (map edge_of (facet_half_edges s f))
    facet_edges_distinct f i =
        let p = corner s f 0 in
        let q = corner s f 1 in
        let r = corner s f 2 in
        let h = passed.proper f i in
        let pq_qr = next_edge p q r h.apart_pq h.apart_rp in
        let qr_rp = next_edge q r p h.apart_qr h.apart_pq in
        let rp_pq = next_edge r p q h.apart_rp h.apart_qr in
        ((pq_qr, ((λ e. rp_pq (sym e)), tt)), ((qr_rp, tt), (tt, tt)))

    -- ---- all half-edges
    pub between : All (Between (vertices s)) (half_edges s)
    between = all_half_edges (Between (vertices s)) s facet_between

    pub simple : Simple (half_edges s)
    simple = all_half_edges (λ h. h.0 ≢ h.1) s facet_simple

    pub closed : Closed eqb (half_edges s)
    closed = passed.closed

-- ---- edges
pub record IsEdge (s : Solid) (e : Half) : Type 0 where
  pub rises : e.0 < e.1
  pub below : e.1 < vertices s
  pub joined : 0 < number_of e (half_edges s) + number_of (turned e) (half_edges s)

module _ (s : Solid) where
  pub all_edges : All (IsEdge s) (edges s)
  unfolding edges is_edge
  all_edges =
      all_mono (λ e. (is_edge (half_edges s) e ≡ true) × (e.1 < vertices s)) (IsEdge s) (edges s) one
      (all_keep (is_edge (half_edges s)) (λ e. e.1 < vertices s) (pairs (vertices s)) (all_pairs (λ e. e.1 < vertices s) (vertices s) (λ e a b. b)))
    where
      one : (e : Half) → (is_edge (half_edges s) e ≡ true) × (e.1 < vertices s) → IsEdge s e
      one e h =
          let r = and_true (ltb e.0 e.1) (ltb 0 (number_of e (half_edges s) + number_of (turned e) (half_edges s))) h.0 in
          record { rises = ltb-true _ _ r.0; below = h.1; joined = ltb-true _ _ r.1 }

  pub edges_distinct : Distinct (edges s)
  unfolding edges
  edges_distinct = distinct_keep (is_edge (half_edges s)) (pairs (vertices s)) (distinct_pairs (vertices s))

  pub mem_edges : (h : Half) → Between (vertices s) h → Memᴰ h (half_edges s) → Memᴰ (edge_of h) (edges s)
  unfolding edges is_edge
  mem_edges h b m = go (along h) refl
    where
      joined : 0 < number_of h (half_edges s)
      joined = counted_there m

      number : Half → ℕ
      number e = number_of e (half_edges s) + number_of (turned e) (half_edges s)

      edge : (e : Half) → e.0 < vertices s → e.1 < vertices s → along e ≡ true → 0 < number e → Memᴰ e (edges s)
      edge e p q up n = mem_keep (is_edge (half_edges s)) (mem_pairs (vertices s) e p q) (true_and (along e) (ltb 0 (number e)) up (lt-ltb 0 (number e) n))

      go : (c : Bool) → along h ≡ c → Memᴰ (cond c h (turned h)) (edges s)
      go true e = edge h b.start b.end e (omega (arith, joined))
      go false e = edge (turned h) b.end b.start (flip h b.apart ∙ ap not e) (omega (arith, joined))

  module _ (passed : Passed s) where
    pub facet_edges : (f : ℕ) → f < facets s → {h : Half} → Memᴰ h (facet_half_edges s f) → Memᴰ (edge_of h) (edges s)
    facet_edges f i {h} m = mem_edges h (all_at (Between (vertices s)) m (facet_between s passed f i)) (mem_half_edges s f i m)
