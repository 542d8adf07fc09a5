-- No boundary has more than 6,150 numbers: a piece takes a start and a stop, so its two numbers are paid for by the counts' sizes. A half-edge has at
-- most 2 * 257 + 256 * 2 = 1,026, two facets have at most 6 * 2 = 12, and 3 * 1,026 + 256 * 12 = 6,150.
use mathlib.Core.Path.{◌≡◌, refl, sym, ap, ◌∙◌}
use mathlib.Core.Bool.{Bool, true, false, not, cond}
use mathlib.Core.List.{List, [], ◌∷◌, ◌++◌, map, flat_map}
use Prim.Native.Nat.{ℕ, zero, suc, ◌+◌, ◌*◌, ◌-◌, ◌<◌, ◌≤◌}
use native.Mathlib.Nat.{mul-one, zero-mul, le_refl}
use native.Mathlib.Omega.{arith}
use native.Mathlib.Decide.{dec_lt}
use borrow.Author.Tests.{lt-ltb, le-ltb}
use lib.Dec.{ltb}
use lib.IntN.{pos, nat_abs}
use lib.ListN.{length, get_or, replicate, length-append, length-replicate, length-map}
use Rattle.list_words.specs.Lists.{up_to, above, below, turned}
use Rattle.list_words.proofs.Integers.{abs_parts}
use Rattle.list_words.proofs.UpTo.{map_up_to_suc, flat_up_to_suc}
use Rattle.solids.specs.Solids.{Half}
use Rattle.results.specs.declared.End.{End}
use Rattle.results.specs.Pieces.{starts, stops, pieces}
use Rattle.joined_ends.specs.Words.{flat}
use Rattle.joined_ends.proofs.Flat.{two_each, length_numbers}
use Rattle.joined_ends.proofs.Joined.{length_zip}
use Rattle.layouts.specs.declared.Sizes.{Sizes}
use Rattle.vertex_table.specs.Words.{Line, Table, end, on_edge, on_facet, line_of, line_ends, turn, line_pieces, half, flip, a_end, b_end, pair_ends, pair, others, row, round, boundary, Good}
use Rattle.layouts.specs.Words.{edge_at, against}
use Rattle.list_words.proofs.Widths.{neg_size}
use Rattle.vertex_table.proofs.Slots.{edge_in, facet_in}

-- ---- what the counts' sizes add up to
abbrev weight : List End → ℕ
weight [] = 0
weight (e ∷ es) = nat_abs e.count + weight es

weight_append : (xs ys : List End) → weight (xs ++ ys) ≡ weight xs + weight ys
weight_append [] ys = omega arith
weight_append (x ∷ xs) ys = omega (arith, weight_append xs ys)

weight_starts : (es : List End) → length (starts es) + length (stops es) ≡ weight es
unfolding starts stops flat_map
weight_starts [] = refl
weight_starts (e ∷ es) =
    omega (
      arith,
      weight_starts es,
      abs_parts e.count,
      length-append (replicate (below e.count) e.vertex) (starts es),
      length-append (replicate (above e.count) e.vertex) (stops es),
      length-replicate (below e.count) e.vertex,
      length-replicate (above e.count) e.vertex,
    )

pieces_short : (es : List End) → length (flat (pieces es)) ≤ weight es
unfolding pieces
pieces_short es = omega (arith, two_each (pieces es), length_zip (starts es) (stops es), weight_starts es)

turned_long : (ps : List Half) → length (flat (map turned ps)) ≡ length (flat ps)
turned_long ps = two_each (map turned ps) ∙ ap (λ n. 2 * n) (length-map ps turned) ∙ sym (two_each ps)

turn_long : (b : Bool) (ps : List Half) → length (flat (turn b ps)) ≡ length (flat ps)
turn_long true ps = turned_long ps
turn_long false ps = refl

flip_size : (b : Bool) (e : End) → nat_abs (flip b e).count ≡ nat_abs e.count
flip_size true e = neg_size e.count
flip_size false e = refl

-- n ends of at most 2
weight_ends : (f : ℕ → End) (n : ℕ) → ((i : ℕ) → i < n → nat_abs (f i).count ≤ 2) → weight (map f (up_to n)) ≤ 2 * n
unfolding up_to
weight_ends f zero h = omega arith
weight_ends f (suc n) h =
    omega (arith, ap weight (map_up_to_suc f n), weight_append (map f (up_to n)) (f n ∷ []), weight_ends f n (λ i k. h i (omega arith)), h n (omega arith))

module _ {t : Table} {hs : List ℕ} {z : Sizes} (g : Good t hs z) where
  -- ---- crossings count at most 2
  cross_A : (h i : ℕ) → h < 3 * z.fa → i < z.fb → nat_abs (end t (on_edge z (edge_at hs h) i)).count ≤ 2
  cross_A h i k l = g.few (on_edge z (edge_at hs h) i) (omega arith) (edge_in z (edge_at hs h) i (g.halves.edge_A h k) l)

  cross_B : (h i : ℕ) → 3 * z.fa ≤ h → h < 3 * (z.fa + z.fb) → i < z.fa → nat_abs (end t (on_facet z i (edge_at hs h))).count ≤ 2
  cross_B h i k m l = g.few (on_facet z i (edge_at hs h)) (omega arith) (facet_in z i (edge_at hs h) l (g.halves.edge_B h k m))

  -- ---- a half-edge
  line_short : (l : Line) → ((i : ℕ) → i < l.many → nat_abs (end t (l.first + i * l.step)).count ≤ 2) → l.many ≤ 256 → length (flat (line_pieces t l)) ≤ 1026
  unfolding line_pieces line_ends
  line_short l h few =
      let ws = line_ends t l l.many in
      omega (
        arith,
        turn_long l.against (pieces ws),
        pieces_short ws,
        weight_ends (λ i. end t (l.first + i * l.step)) l.many h,
        g.ok.small l.from,
        g.ok.small l.to,
        neg_size (get_or t.inc l.from (pos 0)),
        few,
      )

  half_short : (h : ℕ) → h < 3 * (z.fa + z.fb) → length (flat (half t hs z h)) ≤ 1026
  unfolding half line_of
  half_short h m = elim (dec_lt h (3 * z.fa)) [
    | yes k ↦ rw (lt-ltb _ _ k) (line_short _ (λ i l. rw (mul-one i) (along_A i k l)) g.halves.sized.fb)
    | no n ↦ let k : 3 * z.fa ≤ h = omega arith in rw (le-ltb _ _ k) (line_short _ (λ i l. along_B i k l) g.halves.sized.fa)
  ]
    where
      along_A : (i : ℕ) → h < 3 * z.fa → i < z.fb → nat_abs (end t (on_edge z (edge_at hs h) 0 + i)).count ≤ 2
      along_A i k l = let e : on_edge z (edge_at hs h) 0 + i ≡ on_edge z (edge_at hs h) i = omega arith in rw e (cross_A h i k l)

      along_B : (i : ℕ) → 3 * z.fa ≤ h → i < z.fa → nat_abs (end t (on_facet z 0 (edge_at hs h) + i * z.eb)).count ≤ 2
      along_B i k l = let e : on_facet z 0 (edge_at hs h) + i * z.eb ≡ on_facet z i (edge_at hs h) = omega (arith, zero-mul z.eb) in rw e (cross_B h i k m l)

  round_short : (x : ℕ) → x < z.fa + z.fb → length (flat (round t hs z x)) ≤ 3078
  unfolding round
  round_short x k =
      let p = half t hs z (3 * x) in
      let q = half t hs z (3 * x + 1) in
      let r = half t hs z (3 * x + 2) in
      omega (arith, length_numbers p (q ++ r), length_numbers q r, half_short (3 * x) (omega arith), half_short (3 * x + 1) (omega arith), half_short (3 * x + 2) (omega arith))

  -- ---- two facets
  small_a : (h i : ℕ) → h < 3 * z.fa → i < z.fb → nat_abs (a_end t hs z i h).count ≤ 2
  small_a h i k l = rw (flip_size (not (against hs h)) (end t (on_edge z (edge_at hs h) i))) (cross_A h i k l)

  small_b : (h f : ℕ) → 3 * z.fa ≤ h → h < 3 * (z.fa + z.fb) → f < z.fa → nat_abs (b_end t hs z f h).count ≤ 2
  small_b h f k m l = rw (flip_size (against hs h) (end t (on_facet z f (edge_at hs h)))) (cross_B h f k m l)

  pair_short : (f i : ℕ) → f < z.fa → i < z.fb → length (flat (pieces (pair_ends t hs z f i))) ≤ 12
  unfolding pair_ends
  pair_short f i k l =
      let m = z.fa + i in
      let a0 = small_a (3 * f) i (omega arith) l in
      let a1 = small_a (3 * f + 1) i (omega arith) l in
      let a2 = small_a (3 * f + 2) i (omega arith) l in
      let b0 = small_b (3 * m) f (omega arith) (omega arith) k in
      let b1 = small_b (3 * m + 1) f (omega arith) (omega arith) k in
      let b2 = small_b (3 * m + 2) f (omega arith) (omega arith) k in
      omega (arith, pieces_short (pair_ends t hs z f i))

  pair_at_short : (x i : ℕ) → x < z.fa + z.fb → i < others z x → length (flat (pair t hs z x i)) ≤ 12
  unfolding pair
  pair_at_short x i k l = elim (dec_lt x z.fa) [
    | yes h ↦ rw (lt-ltb _ _ h) (pair_short x i h (rw (lt-ltb _ _ h) at l))
    | no n ↦ let h : z.fa ≤ x = omega arith in
        rw (le-ltb _ _ h) (rw (turned_long (pieces (pair_ends t hs z i (x - z.fa)))) (pair_short i (x - z.fa) (rw (le-ltb _ _ h) at l) (omega arith)))
  ]

  row_short : (x n : ℕ) → x < z.fa + z.fb → n ≤ others z x → length (flat (flat_map (pair t hs z x) (up_to n))) ≤ 12 * n
  unfolding flat flat_map up_to
  row_short x zero k l = omega arith
  row_short x (suc n) k l =
      omega (
        arith,
        ap (λ ps. length (flat ps)) (flat_up_to_suc (pair t hs z x) n),
        length_numbers (flat_map (pair t hs z x) (up_to n)) (pair t hs z x n),
        row_short x n k (omega arith),
        pair_at_short x n k l,
      )

  others_few : (x : ℕ) → others z x ≤ 256
  others_few x = elim (dec_lt x z.fa) [
    | yes h ↦ rw (lt-ltb _ _ h) g.halves.sized.fb
    | no n ↦ let h : z.fa ≤ x = omega arith in rw (le-ltb _ _ h) g.halves.sized.fa
  ]

  -- ---- the whole
  either_way : (b : Bool) (o w : List Half) → length (flat o) ≤ 3078 → length (flat w) ≤ 3072 → length (flat (cond b (o ++ w) (w ++ o))) ≤ 6150
  either_way true o w h k = omega (arith, length_numbers o w)
  either_way false o w h k = omega (arith, length_numbers w o)

  pub boundary_short : (x : ℕ) → x < z.fa + z.fb → length (flat (boundary t hs z x)) ≤ 6150
  unfolding boundary row
  boundary_short x k =
      either_way (ltb x z.fa) (round t hs z x) (row t hs z x) (round_short x k) (omega (arith, row_short x (others z x) k (le_refl (others z x)), others_few x))
