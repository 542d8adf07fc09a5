-- All pairs of numbers below n: each stands there, once. Then how often a half-edge stands in a list, and edges as half-edges that go up.
use mathlib.Core.Path.{◌≡◌, sym, ap, ◌∙◌}
use mathlib.Core.Logic.{◌≢◌, ◌⊎◌, inl, inr}
use mathlib.Core.Bool.{Bool, true, false, not, cond}
use mathlib.Core.List.Memᴰ
use mathlib.Core.List.{List, map, Memᴰ}
use Prim.Native.Nat.{ℕ, ◌<◌}
use native.Mathlib.Omega.{arith}
use native.Mathlib.Decide.{dec_lt}
use lib.Dec.{eqb, eqb→eq, eqb_refl}
use borrow.Author.Tests.{lt-ltb, le-ltb}
use Rattle.list_words.specs.Lists.{up_to, one_if, times, turned}
use Rattle.list_words.proofs.Sums.{All, all_map_of, all_flat_map, mem_flat_map}
use Rattle.list_words.proofs.Tests.{of_T}
use Rattle.list_words.proofs.UpTo.{Distinct, distinct_map, distinct_blocks, apart_maps, distinct_up_to, all_up_to, mem_up_to}
use Rattle.list_words.proofs.Closed.{same_half_self}
use Rattle.solids.specs.Solids.{Half, same_half, number_of, pairs, along, edge_of}

abbrev pub row : ℕ → ℕ → List Half
row n p = map (λ q. (p, q)) (up_to n)

pub mem_pairs : (n : ℕ) (h : Half) → h.0 < n → h.1 < n → Memᴰ h (pairs n)
unfolding pairs
mem_pairs n h a b = mem_flat_map (row n) (mem_up_to n h.0 a) (Memᴰ.map (λ q. (h.0, q)) (mem_up_to n h.1 b))

pub all_pairs : (P : Half → Type 0) (n : ℕ) → ((h : Half) → h.0 < n → h.1 < n → P h) → All P (pairs n)
unfolding pairs
all_pairs P n f =
    all_flat_map P (row n) (up_to n)
    (all_up_to (λ p. All P (row n p)) n (λ p a. all_map_of P (λ q. (p, q)) (up_to n) (all_up_to (λ q. P (p, q)) n (λ q b. f (p, q) a b))))

pub distinct_pairs : (n : ℕ) → Distinct (pairs n)
unfolding pairs
distinct_pairs n =
    distinct_blocks (row n) (up_to n) (λ p. distinct_map (λ q. (p, q)) (λ x y e. ap (λ (h : Half). h.1) e) (up_to n) (distinct_up_to n))
    (λ p r d. apart_maps (λ q. (p, q)) (λ q. (r, q)) (up_to n) (up_to n) (λ x y e. d (ap (λ (h : Half). h.0) e))) (distinct_up_to n)

-- ---- how often a half-edge stands in a list
pub counted_there : {h : Half} {l : List Half} → Memᴰ h l → 0 < number_of h l
unfolding times
counted_there {h} (Memᴰ.head e) = omega (arith, ap (λ k. one_if (same_half h k)) (sym e) ∙ self)
  where
    self : one_if (same_half h h) ≡ 1
    self = ap one_if (of_T (same_half h h) (same_half_self eqb eqb→eq eqb_refl h))
counted_there (Memᴰ.tail m) = omega (arith, counted_there m)

-- ---- a half-edge and its edge
-- a half-edge between two different vertices goes up, or else down
pub flip : (h : Half) → h.0 ≢ h.1 → along (turned h) ≡ not (along h)
flip h n = elim (dec_lt h.0 h.1) [
  | yes p ↦ rw (lt-ltb h.0 h.1 p, le-ltb h.1 h.0 (omega arith))
  | no q ↦ rw (le-ltb h.0 h.1 (omega arith), lt-ltb h.1 h.0 (omega arith))
]

-- two half-edges of one edge are the same, or one is the other turned round
pub one_edge : (h k : Half) → edge_of h ≡ edge_of k → (h ≡ k) ⊎ (h ≡ turned k)
one_edge h k = go (along h) (along k)
  where
    go : (b c : Bool) → cond b h (turned h) ≡ cond c k (turned k) → (h ≡ k) ⊎ (h ≡ turned k)
    go true true e = inl e
    go true false e = inr e
    go false true e = inr (ap turned e)
    go false false e = inl (ap turned e)

pub next_edge : (p q r : ℕ) → p ≢ q → r ≢ p → edge_of (p, q) ≢ edge_of (q, r)
next_edge p q r m n e = elim (one_edge (p, q) (q, r) e) [ inl d ↦ m (ap (λ (h : Half). h.0) d) | inr d ↦ n (sym (ap (λ (h : Half). h.0) d)) ]
