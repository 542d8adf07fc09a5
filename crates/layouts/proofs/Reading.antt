-- What the list of half-edges says of each half-edge, and that it names an edge and vertices which are there.
use mathlib.Core.Path.{◌≡◌, sym, ap, ◌∙◌}
use mathlib.Core.Bool.{Bool, true, false, not}
use mathlib.Core.List.{List, Memᴰ}
use Prim.Native.Nat.{ℕ, ◌+◌, ◌*◌, ◌/◌, ◌%◌, ◌<◌}
use native.Mathlib.Nat.{add-zero}
use native.Mathlib.Omega.{arith}
use lib.Dec.{eqb, eqb→eq, eqb_refl}
use lib.ListN.{length, get_or, get_or-append}
use Rattle.list_words.specs.Lists.{up_to, one_if}
use Rattle.list_words.proofs.Sums.{all_at}
use Rattle.list_words.proofs.UpTo.{length_up_to}
use Rattle.list_words.proofs.Closed.{same_half_sound, same_half_self}
use Rattle.list_words.proofs.Threes.{get_or_threes}
use Rattle.solids.specs.Solids.{Solid, Half, vertices, facets, corner, same_half, facet_half_edges, half_edges, edges, along, edge_of}
use Rattle.solids.proofs.Admitted.{Passed, Between}
use Rattle.solids.proofs.Shut.{IsEdge, all_edges, mem_edges, between}
use Rattle.layouts.specs.Words.{edge_at, against, edge_number, half_first, half_numbers, half_list, halves}
use Rattle.layouts.proofs.Lengths.{length_half_list}
use Rattle.list_words.proofs.Places.{mem_get_or, get_or_behind, get_or_up_to, place_at}
use Rattle.solids.proofs.Room.{length_half_edges}

abbrev pub no_half : Half
no_half = (0, 0)

-- the h-th half-edge of a solid, and the k-th of facet f
abbrev pub half_at : Solid → ℕ → Half
half_at s h = get_or (half_edges s) h no_half

pub facet_half : (s : Solid) (f k : ℕ) → f < facets s → k < 3 → half_at s (3 * f + k) ≡ get_or (facet_half_edges s f) k no_half
unfolding half_edges
facet_half s f k h l =
    get_or_threes (λ f. (corner s f 0, corner s f 1)) (λ f. (corner s f 1, corner s f 2)) (λ f. (corner s f 2, corner s f 0)) (up_to (facets s)) 0 no_half f k (rw (length_up_to (facets s)) h) l
    ∙ ap (λ f. get_or (facet_half_edges s f) k no_half) (get_or_up_to (facets s) f 0 h)

-- ---- three numbers
module _ (s : Solid) where
  three_at : (h j : ℕ) → h < 3 * facets s → j < 3 → get_or (half_list s) (3 * h + j) 0 ≡ get_or (half_numbers s (half_at s h)) j 0
  unfolding half_list
  three_at h j k l =
      get_or_threes (half_first s) (λ h. (edge_of h).0) (λ h. (edge_of h).1) (half_edges s) no_half 0 h j (omega (arith, length_half_edges s)) l

-- half-edge h of the list hs is k of solid s
pub record Reads (s : Solid) (hs : List ℕ) (h : ℕ) (k : Half) : Type 0 where
  pub edge : edge_at hs h ≡ edge_number s (edge_of k)
  pub way : against hs h ≡ not (along k)
  pub start : get_or hs (3 * h + 1) 0 ≡ (edge_of k).0
  pub end : get_or hs (3 * h + 2) 0 ≡ (edge_of k).1

reads : (s : Solid) (hs : List ℕ) (h : ℕ) (k : Half) → ((j : ℕ) → j < 3 → get_or hs (3 * h + j) 0 ≡ get_or (half_numbers s k) j 0) → Reads s hs h k
reads s hs h k f =
    let first : get_or hs (3 * h) 0 ≡ half_first s k = ap (λ n. get_or hs n 0) (sym (add-zero (3 * h))) ∙ f 0 (omega arith) in
    record {
      edge = ap (λ n. n / 2) first ∙ half (edge_number s (edge_of k)) (not (along k));
      way = ap (λ n. eqb (n % 2) 1) first ∙ rest (edge_number s (edge_of k)) (not (along k));
      start = f 1 (omega arith);
      end = f 2 (omega arith);
    }
  where
    half : (n : ℕ) (b : Bool) → (2 * n + one_if b) / 2 ≡ n
    half n true = omega arith
    half n false = omega arith

    rest : (n : ℕ) (b : Bool) → eqb ((2 * n + one_if b) % 2) 1 ≡ b
    rest n true = let e : (2 * n + 1) % 2 ≡ 1 = omega arith in rw e
    rest n false = let e : (2 * n + 0) % 2 ≡ 0 = omega arith in rw e

-- the list of one solid's half-edges
pub reads_own : (s : Solid) (h : ℕ) → h < 3 * facets s → Reads s (half_list s) h (half_at s h)
reads_own s h l = reads s (half_list s) h (half_at s h) (λ j i. three_at s h j l i)

module _ (a b : Solid) where
  pub reads_A : (h : ℕ) → h < 3 * facets a → Reads a (halves a b) h (half_at a h)
  unfolding halves
  reads_A h l = reads a (halves a b) h (half_at a h) (λ j i. get_or-append (half_list a) (half_list b) 0 (3 * h + j) (omega (arith, length_half_list a)) ∙ three_at a h j l i)

  pub reads_B : (h : ℕ) → h < 3 * facets b → Reads b (halves a b) (3 * facets a + h) (half_at b h)
  unfolding halves
  reads_B h l =
      reads b (halves a b) (3 * facets a + h) (half_at b h)
      (λ j i. ap (λ n. get_or (halves a b) n 0) (place j) ∙ get_or_behind (half_list a) (half_list b) (9 * facets a) (3 * h + j) 0 (length_half_list a) ∙ three_at b h j l i)
    where
      place : (j : ℕ) → 3 * (3 * facets a + h) + j ≡ 9 * facets a + (3 * h + j)
      place j = omega arith

-- ---- a passed solid's half-edges
pub record Known (s : Solid) (k : Half) : Type 0 where
  pub number : edge_number s (edge_of k) < length (edges s)
  pub at : get_or (edges s) (edge_number s (edge_of k)) no_half ≡ edge_of k
  pub start : (edge_of k).0 < vertices s
  pub end : (edge_of k).1 < vertices s

pub edge_mem : (s : Solid) → Passed s → (h : ℕ) → h < 3 * facets s → Memᴰ (edge_of (half_at s h)) (edges s)
edge_mem s p h l = let m = mem_get_or (half_edges s) h no_half (omega (arith, length_half_edges s)) in mem_edges s (half_at s h) (all_at (Between (vertices s)) m (between s p)) m

pub known : (s : Solid) → Passed s → (h : ℕ) → h < 3 * facets s → Known s (half_at s h)
known s p h l =
    let e = edge_mem s p h l in
    let i = all_at (IsEdge s) e (all_edges s) in
    let q = place_at same_half (same_half_sound eqb eqb→eq eqb_refl) (same_half_self eqb eqb→eq eqb_refl) (edge_of (half_at s h)) (edges s) no_half e in
    record { number = q.0; at = q.1; start = omega (arith, i.rises, i.below); end = i.below }
