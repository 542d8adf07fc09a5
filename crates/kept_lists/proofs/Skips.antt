-- What is passed over has no pieces.
use mathlib.Core.Path.{◌≡◌, ap, ◌∙◌}
use mathlib.Core.Bool.{Bool, true, false, cond}
use mathlib.Core.List.{map, List, [], ◌++◌, flat_map, append-nil}
use Prim.Native.Nat.{ℕ, zero, suc, ◌+◌, ◌-◌, ◌*◌, ◌<◌, ◌≤◌}
use native.Mathlib.Omega.{arith}
use native.Mathlib.Decide.{dec_lt}
use lib.Dec.{ltb}
use borrow.Author.Tests.{lt-ltb, le-ltb}
use Rattle.list_words.specs.Lists.{up_to, turned}
use Rattle.list_words.proofs.UpTo.{flat_up_to_suc}
use Rattle.solids.specs.Solids.{Half}
use Rattle.layouts.specs.declared.Sizes.{Sizes}
use Rattle.results.specs.Pieces.{pieces}
use Rattle.vertex_table.specs.Words.{others, some_count, Halves}
use Rattle.vertex_table.proofs.Gather.{quiet_pieces}
use Rattle.marks.specs.Words.{Next}
use Rattle.kept_lists.specs.Words.{Rows, pair_ends, side_ends, pair, facet_row, Pairs}

pub flat_skip : (f : ℕ → List Half) (m n : ℕ) → m ≤ n → ((k : ℕ) → m ≤ k → k < n → f k ≡ []) → flat_map f (up_to n) ≡ flat_map f (up_to m)
flat_skip f m zero h q = let e : m ≡ 0 = omega arith in rw e
flat_skip f m (suc n) h q = elim (dec_lt n m) [
  | yes l ↦ let e : suc n ≡ m = omega arith in rw e
  | no k ↦ flat_up_to_suc f n ∙ ap (λ r. flat_map f (up_to n) ++ r) (q n (omega arith) (omega arith)) ∙ append-nil (flat_map f (up_to n)) ∙ flat_skip f m n (omega arith) (λ k a b. q k a (omega arith))
]

-- ends that do not count have no pieces
quiet_side : (w : Rows) (hs : List ℕ) (z : Sizes) (x i : ℕ) → some_count (side_ends w hs z x i) ≡ false → pair w hs z x i ≡ []
unfolding pair
quiet_side w hs z x i = go (ltb x z.fa)
  where
    go : (b : Bool) → some_count (cond b (pair_ends w hs z x i) (pair_ends w hs z i (x - z.fa))) ≡ false → cond b (pieces (pair_ends w hs z x i)) (map turned (pieces (pair_ends w hs z i (x - z.fa)))) ≡ []
    go true q = quiet_pieces (pair_ends w hs z x i) q
    go false q = ap (map turned) (quiet_pieces (pair_ends w hs z i (x - z.fa)) q)

-- up to the next mark of facet x
pub row_skip : {w : Rows} {hs : List ℕ} {z : Sizes} {l : List ℕ} → Pairs w hs z l → (x i r : ℕ) → x < z.fa + z.fb → 256 * facet_row z x ≤ i → Next l i (256 * facet_row z x + others z x) r
    → flat_map (pair w hs z x) (up_to (r - 256 * facet_row z x)) ≡ flat_map (pair w hs z x) (up_to (i - 256 * facet_row z x))
row_skip {w} {hs} {z} {l} p x i r hx hi n =
    flat_skip (pair w hs z x) (i - 256 * facet_row z x) (r - 256 * facet_row z x) (omega (arith, n.low)) (λ k a b. quiet_side w hs z x k (p.quiet x k hx (omega (arith, n.high)) (n.clear (256 * facet_row z x + k) (omega arith) (omega arith))))

pub none : (n : ℕ) → n ≡ 0 → (f : ℕ → List Half) → flat_map f (up_to n) ≡ []
unfolding up_to flat_map
none n e f = rw e

pub others_few : {hs : List ℕ} {z : Sizes} → Halves hs z → (x : ℕ) → others z x ≤ 256
others_few {hs} {z} g x = elim (dec_lt x z.fa) [
  | yes h ↦ rw (lt-ltb _ _ h) g.sized.fb
  | no n ↦ let h : z.fa ≤ x = omega arith in rw (le-ltb _ _ h) g.sized.fa
]
