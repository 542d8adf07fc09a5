-- Ends told as they come: what is not marked tells nothing, and all ends of a facet's composite edges tell how many triangles it has.
use mathlib.Core.Path.{◌≡◌, refl, sym, ap, ◌∙◌, subst}
use mathlib.Core.Logic.{◌⊎◌, inl, inr}
use mathlib.Core.Bool.{Bool, true, false, cond}
use mathlib.Core.List.{List, [], ◌∷◌, ◌++◌, map, flat_map, append_assoc, append-nil}
use Prim.Native.Nat.{ℕ, zero, suc, ◌+◌, ◌-◌, ◌*◌, ◌<◌, ◌≤◌}
use native.Mathlib.Omega.{arith}
use native.Mathlib.Decide.{dec_lt}
use borrow.Author.Tests.{lt-ltb, le-ltb}
use lib.Dec.{ltb}
use lib.IntN.{ℤ, nat_abs}
use lib.ListN.{length, length-map}
use Rattle.list_words.specs.Lists.{up_to, keep, any, turned}
use Rattle.list_words.proofs.Sums.{All, all_map_of, flat_map_map}
use Rattle.list_words.proofs.UpTo.{all_up_to, flat_up_to_suc}
use Rattle.list_words.proofs.Closed.{Simple}
use Rattle.list_words.proofs.Widths.{neg_size}
use Rattle.solids.specs.Solids.{Half}
use Rattle.results.specs.declared.End.{End}
use Rattle.results.specs.Pieces.{pieces}
use Rattle.results.specs.Triangles.{fan}
use Rattle.layouts.specs.declared.Sizes.{Sizes}
use Rattle.layouts.specs.Words.{edge_at, against}
use Rattle.vertex_table.specs.Words as T
use Rattle.vertex_table.specs.Words.{flip, others, some_count, Halves}
use Rattle.marks.specs.Words.{Next}
use Rattle.fan_counts.specs.declared.Tally.{Tally}
use Rattle.fan_counts.specs.Words.{Composite, Joined, none_yet, told, tell}
use Rattle.fan_counts.proofs.Counts.{pieces_joined, boundary_simple, fan_swap}
use Rattle.fan_counts.proofs.Telling.{tell_append, tell_quiet, tally_count}
use Rattle.kept_lists.specs.Words as K
use Rattle.kept_lists.specs.Words.{Rows, vertex, corner_at, line_end, line_many, line_row, line_ends, pair_ends, side_ends, dense, facet_row, Edges, Pairs, Balanced}
use Rattle.kept_lists.proofs.Dense.{crossing_small}
use Rattle.kept_lists.proofs.Gathered.{quiet_line}
use Rattle.kept_lists.proofs.Same.{same_half, same_row}

-- ---- lists of ends one behind the other
module _ (F : ℕ → List End) (t : Tally) where
  pub tell_next : (n : ℕ) → tell t (flat_map F (up_to (suc n))) ≡ tell (tell t (flat_map F (up_to n))) (F n)
  tell_next n = ap (tell t) (flat_up_to_suc F n) ∙ tell_append t (flat_map F (up_to n)) (F n)

  tell_skip : (m n : ℕ) → m ≤ n → ((k : ℕ) → m ≤ k → k < n → some_count (F k) ≡ false) → tell t (flat_map F (up_to n)) ≡ tell t (flat_map F (up_to m))
  tell_skip m zero h q = let e : m ≡ 0 = omega arith in rw e
  tell_skip m (suc n) h q = elim (dec_lt n m) [
    | yes l ↦ let e : suc n ≡ m = omega arith in rw e
    | no k ↦ tell_next n ∙ tell_quiet (tell t (flat_map F (up_to n))) (F n) (q n (omega arith) (omega arith)) ∙ tell_skip m n (omega arith) (λ k a b. q k a (omega arith))
  ]

pub tell_none : (F : ℕ → List End) (t : Tally) (n : ℕ) → n ≡ 0 → tell t (flat_map F (up_to n)) ≡ t
unfolding up_to flat_map
tell_none F t n e = rw e

-- ---- an edge's ends: start and end, then the crossings, up to the next mark
module _ (inc : List ℤ) (num : List ℕ) (w : Rows) (hs : List ℕ) (z : Sizes) (h : ℕ) where
  abbrev pub crossing_ends : ℕ → List End
  crossing_ends k = line_end w hs z h k ∷ []

  map_flat : (f : ℕ → End) (l : List ℕ) → map f l ≡ flat_map (λ k. f k ∷ []) l
  unfolding flat_map
  map_flat f [] = refl
  map_flat f (k ∷ l) = ap (λ r. f k ∷ r) (map_flat f l)

  pub line_told : (t : Tally) (n : ℕ) → tell t (line_ends inc num w hs z h n)
      ≡ tell (told (told t (flip true (vertex inc num (corner_at hs z h 1)))) (vertex inc num (corner_at hs z h 2))) (flat_map crossing_ends (up_to n))
  unfolding line_ends
  line_told t n = ap (tell (told (told t (flip true (vertex inc num (corner_at hs z h 1)))) (vertex inc num (corner_at hs z h 2)))) (map_flat (line_end w hs z h) (up_to n))

  module _ {l : List ℕ} (halves : Halves hs z) (edges : Edges z w l) (hh : h < 3 * (z.fa + z.fb)) (row many : ℕ) (er : row ≡ line_row hs z h) (em : many ≡ line_many z h) (t : Tally) where
    pub line_skip : (i r : ℕ) → 256 * row ≤ i → Next l i (256 * row + many) r → tell t (flat_map crossing_ends (up_to (r - 256 * row))) ≡ tell t (flat_map crossing_ends (up_to (i - 256 * row)))
    unfolding any
    line_skip i r low x =
        tell_skip crossing_ends t (i - 256 * row) (r - 256 * row) (omega (arith, x.low))
        (λ k p q. ap (λ e. some_count (e ∷ [])) (quiet_line inc num w hs z h halves edges hh k (rw (← em) (omega (arith, x.high))) (rw (← er) (x.clear (256 * row + k) (omega arith) (omega arith)))))

-- ---- a facet's ends with those of the other solid, up to the next mark
pub row_skip_told : {w : Rows} {hs : List ℕ} {z : Sizes} {l : List ℕ} → Pairs w hs z l → (t : Tally) (x i r : ℕ) → x < z.fa + z.fb → 256 * facet_row z x ≤ i → Next l i (256 * facet_row z x + others z x) r
    → tell t (flat_map (side_ends w hs z x) (up_to (r - 256 * facet_row z x))) ≡ tell t (flat_map (side_ends w hs z x) (up_to (i - 256 * facet_row z x)))
row_skip_told {w} {hs} {z} {l} p t x i r hx hi n =
    tell_skip (side_ends w hs z x) t (i - 256 * facet_row z x) (r - 256 * facet_row z x) (omega (arith, n.low))
    (λ k a b. p.quiet x k hx (omega (arith, n.high)) (n.clear (256 * facet_row z x + k) (omega arith) (omega arith)))

-- ---- counts are small
pub flip_small : (b : Bool) (e : End) (n : ℕ) → nat_abs e.count ≤ n → nat_abs (flip b e).count ≤ n
flip_small true e n h = rw (neg_size e.count) h
flip_small false e n h = h

pub line_small : (w : Rows) (hs : List ℕ) (z : Sizes) (h i : ℕ) → nat_abs (line_end w hs z h i).count ≤ 2
line_small w hs z h i = go (ltb h (3 * z.fa))
  where
    go : (b : Bool) → nat_abs (cond b (K.crossing w (edge_at hs h) i) (K.crossing w (z.ea + i) (edge_at hs h))).count ≤ 2
    go true = crossing_small w (edge_at hs h) i
    go false = crossing_small w (z.ea + i) (edge_at hs h)

-- ---- a fan has no more triangles than its boundary has pieces
keep_short : {A : Type 0} (p : A → Bool) (l : List A) → length (keep p l) ≤ length l
unfolding keep
keep_short p [] = omega arith
keep_short p (x ∷ l) = go (p x) (keep_short p l)
  where
    go : (b : Bool) → length (keep p l) ≤ length l → length (cond b (x ∷ keep p l) (keep p l)) ≤ suc (length l)
    go true h = omega arith
    go false h = omega arith

pub fan_short : (o : ℕ) (hs : List Half) → length (fan o hs) ≤ length hs
unfolding fan
fan_short o hs = rw length-map (keep_short _ hs)

-- ---- a whole facet: its three half-edges, and its pairs
module _ {hs : List ℕ} {z : Sizes} {inc : List ℤ} {num : List ℕ} {w : Rows} (halves : Halves hs z) (balanced : Balanced hs z inc num w) (x : ℕ) (hx : x < z.fa + z.fb) where
  abbrev line : ℕ → List End
  line h = line_ends inc num w hs z h (line_many z h)

  abbrev three : List ℕ
  three = (3 * x) ∷ (3 * x + 1) ∷ (3 * x + 2) ∷ []

  -- all composite edges round it
  abbrev parts : List (ℕ ⊎ ℕ)
  parts = inl (3 * x) ∷ inl (3 * x + 1) ∷ inl (3 * x + 2) ∷ map inr (up_to (others z x))

  abbrev ends_of : ℕ ⊎ ℕ → List End
  ends_of (inl h) = line h
  ends_of (inr i) = side_ends w hs z x i

  abbrev pieces_of : ℕ ⊎ ℕ → List Half
  pieces_of (inl h) = K.half inc num w hs z h
  pieces_of (inr i) = K.pair w hs z x i

  line_joined : (h : ℕ) → Joined (line h) (K.half inc num w hs z h)
  unfolding K.half
  line_joined h = pieces_joined (against hs h) (line h)

  side_joined : (i : ℕ) → Joined (side_ends w hs z x i) (K.pair w hs z x i)
  unfolding K.pair
  side_joined i = go (ltb x z.fa)
    where
      go : (b : Bool) → Joined (cond b (pair_ends w hs z x i) (pair_ends w hs z i (x - z.fa))) (cond b (pieces (pair_ends w hs z x i)) (map turned (pieces (pair_ends w hs z i (x - z.fa)))))
      go true = pieces_joined false (pair_ends w hs z x i)
      go false = pieces_joined true (pair_ends w hs z i (x - z.fa))

  side_composite : (i : ℕ) → i < others z x → Composite (side_ends w hs z x i)
  side_composite i k = elim (dec_lt x z.fa) [
    | yes h ↦ let t = lt-ltb _ _ h in rw t (balanced.pair x i h (rw t at k))
    | no n ↦ let h : z.fa ≤ x = omega arith in let t = le-ltb _ _ h in rw t (balanced.pair i (x - z.fa) (rw t at k) (omega arith))
  ]

  lines_composite : All (λ h. Composite (line h)) three
  lines_composite = (balanced.line (3 * x) (omega arith), (balanced.line (3 * x + 1) (omega arith), (balanced.line (3 * x + 2) (omega arith), tt)))

  sides_composite : All (λ i. Composite (side_ends w hs z x i)) (up_to (others z x))
  sides_composite = all_up_to (λ i. Composite (side_ends w hs z x i)) (others z x) side_composite

  sides_joined : All (λ i. Joined (side_ends w hs z x i) (K.pair w hs z x i)) (up_to (others z x))
  sides_joined = all_up_to (λ i. Joined (side_ends w hs z x i) (K.pair w hs z x i)) (others z x) (λ i k. side_joined i)

  all_composite : All (λ p. Composite (ends_of p)) parts
  all_composite = let l = lines_composite in (l.0, (l.1.0, (l.1.1.0, all_map_of (λ p. Composite (ends_of p)) inr (up_to (others z x)) sides_composite)))

  all_joined : All (λ p. Joined (ends_of p) (pieces_of p)) parts
  all_joined = (line_joined (3 * x), (line_joined (3 * x + 1), (line_joined (3 * x + 2), all_map_of (λ p. Joined (ends_of p) (pieces_of p)) inr (up_to (others z x)) sides_joined)))

  abbrev round : List Half
  round = K.half inc num w hs z (3 * x) ++ (K.half inc num w hs z (3 * x + 1) ++ K.half inc num w hs z (3 * x + 2))

  flat_pieces : flat_map pieces_of parts ≡ round ++ K.row w hs z x
  unfolding flat_map K.row
  flat_pieces =
      let a = K.half inc num w hs z (3 * x) in
      let b = K.half inc num w hs z (3 * x + 1) in
      let c = K.half inc num w hs z (3 * x + 2) in
      ap (λ r. a ++ (b ++ (c ++ r))) (flat_map_map pieces_of inr (up_to (others z x))) ∙ sym (append_assoc a (b ++ c) (K.row w hs z x) ∙ ap (λ r. a ++ r) (append_assoc b c (K.row w hs z x)))

  flat_ends : tell none_yet (flat_map ends_of parts) ≡ tell (tell (tell (tell none_yet (line (3 * x))) (line (3 * x + 1))) (line (3 * x + 2))) (flat_map (side_ends w hs z x) (up_to (others z x)))
  unfolding flat_map
  flat_ends =
      let s = flat_map (side_ends w hs z x) (up_to (others z x)) in
      ap (λ r. tell none_yet (line (3 * x) ++ (line (3 * x + 1) ++ (line (3 * x + 2) ++ r)))) (flat_map_map ends_of inr (up_to (others z x)))
      ∙ tell_append none_yet (line (3 * x)) (line (3 * x + 1) ++ (line (3 * x + 2) ++ s))
      ∙ tell_append (tell none_yet (line (3 * x))) (line (3 * x + 1)) (line (3 * x + 2) ++ s)
      ∙ tell_append (tell (tell none_yet (line (3 * x))) (line (3 * x + 1))) (line (3 * x + 2)) s

  -- round it in either order there are as many
  round_simple : length (fan x (round ++ K.row w hs z x)) ≡ length (fan x (K.row w hs z x ++ round))
  unfolding flat_map K.row
  round_simple =
      let a = K.half inc num w hs z (3 * x) in
      let b = K.half inc num w hs z (3 * x + 1) in
      let c = K.half inc num w hs z (3 * x + 2) in
      fan_swap x round (K.row w hs z x)
      (subst Simple (ap (λ r. a ++ (b ++ r)) (append-nil c)) (boundary_simple three line lines_composite (K.half inc num w hs z) (line_joined (3 * x), (line_joined (3 * x + 1), (line_joined (3 * x + 2), tt)))))
      (boundary_simple (up_to (others z x)) (side_ends w hs z x) sides_composite (K.pair w hs z x) sides_joined)

  same_size : length (T.fan_of (dense z inc num w) hs z x) ≡ length (fan x (round ++ K.row w hs z x))
  unfolding T.fan_of T.boundary T.round
  same_size =
      let h0 = sym (same_half hs z inc num w halves (3 * x) (omega arith)) in
      let h1 = sym (same_half hs z inc num w halves (3 * x + 1) (omega arith)) in
      let h2 = sym (same_half hs z inc num w halves (3 * x + 2) (omega arith)) in
      let r = sym (same_row hs z inc num w halves x hx) in
      rw (h0, h1, h2, r) (either (ltb x z.fa))
    where
      either : (b : Bool) → length (fan x (cond b (round ++ K.row w hs z x) (K.row w hs z x ++ round))) ≡ length (fan x (round ++ K.row w hs z x))
      either true = refl
      either false = sym round_simple

  -- HOW MANY TRIANGLES FACET x HAS
  pub facet_count : (r : Tally) → r ≡ tell (tell (tell (tell none_yet (line (3 * x))) (line (3 * x + 1))) (line (3 * x + 2))) (flat_map (side_ends w hs z x) (up_to (others z x)))
      → length (T.fan_of (dense z inc num w) hs z x) + r.at ≡ r.pieces
  facet_count r e =
      let q : tell none_yet (flat_map ends_of parts) ≡ r = flat_ends ∙ sym e in
      let f = rw (flat_pieces) at (tally_count parts ends_of all_composite pieces_of all_joined x) in
      omega (arith, same_size, f, ap (λ (t : Tally). t.at) q, ap (λ (t : Tally). t.pieces) q)
