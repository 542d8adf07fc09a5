-- In a table whose numbers are ranks, what counts of a row has the number of the first crossing and its place among all crossings that count.
use mathlib.Core.Path.{◌≡◌, refl, ap, ◌∙◌}
use mathlib.Core.Bool.{Bool, true, false, cond}
use mathlib.Core.List.{List, [], ◌∷◌, map, flat_map, map-append}
use Prim.Native.Nat.{ℕ, zero, suc, ◌+◌, ◌-◌, ◌*◌, ◌<◌, ◌≤◌}
use native.Mathlib.Nat.{zero-mul, suc-mul}
use native.Mathlib.Omega.{arith}
use native.Mathlib.Decide.{dec_lt}
use borrow.Author.Tests.{lt-ltb, le-ltb}
use lib.IntN.{ℤ, pos}
use lib.ListN.{length, get_or, length-append}
use Rattle.list_words.specs.Lists.{up_to, keep, nonzero}
use Rattle.list_words.proofs.UpTo.{map_up_to, flat_up_to_suc}
use Rattle.fans.specs.Words.{rank, ranks}
use Rattle.list_stores.proofs.Kept.{keep_append}
use Rattle.fans.proofs.Ranks.{rank_next}
use Rattle.layouts.specs.declared.Sizes.{Sizes}
use Rattle.layouts.specs.Words.{columns}
use Rattle.vertex_table.specs.Words.{Table, table, end, of_B, total}
use Rattle.vertex_table.proofs.Slots.{in_row}
use Rattle.list_words.proofs.Places.{at_up_to}
use Rattle.kept_lists.specs.Words.{slot, found_row, row_of}

abbrev kept : ℕ × ℤ → Bool
kept x = nonzero x.1

one_kept : (c : ℕ) (n : ℤ) → length (keep nonzero (n ∷ [])) ≡ length (keep kept ((c, n) ∷ []))
unfolding keep
one_kept c n = go (nonzero n)
  where
    go : (b : Bool) → length (cond b (n ∷ []) []) ≡ length {A = ℕ × ℤ} (cond b ((c, n) ∷ []) [])
    go true = refl
    go false = refl

found_same : (m n : ℕ → ℤ) (many : ℕ) → ((c : ℕ) → c < many → m c ≡ n c) → found_row m many ≡ found_row n many
found_same m n many h = ap (keep kept) (map_up_to many (λ c. (c, m c)) (λ c. (c, n c)) (λ c k. ap (λ (x : ℤ). (c, x)) (h c k)))

-- ---- a run of slots from s on
run : (inc : List ℤ) (s c : ℕ) → s + c ≤ length inc → rank inc (s + c) ≡ rank inc s + length (found_row (λ i. get_or inc (s + i) (pos 0)) c)
unfolding up_to keep
run inc s zero h = let e : s + 0 ≡ s = omega arith in ap (rank inc) e ∙ omega arith
run inc s (suc c) h =
    let e : s + suc c ≡ suc (s + c) = omega arith in
    let n : ℕ → ℤ = λ i. get_or inc (s + i) (pos 0) in
    let f = ap length (ap (keep kept) (map-append (λ i. (i, n i)) (up_to c) (c ∷ [])) ∙ keep_append kept (map (λ i. (i, n i)) (up_to c)) ((c, n c) ∷ [])) ∙ length-append (found_row n c) (keep kept ((c, n c) ∷ [])) in
    ap (rank inc) e ∙ rank_next inc (s + c) (omega arith) ∙ omega (arith, run inc s c (omega arith), one_kept c (n c), f)

-- ---- rows one behind the other
module _ (z : Sizes) where
  slot_from : (r c : ℕ) → slot z r c ≡ slot z r 0 + c
  slot_from r c = elim (dec_lt r z.ea) [
    | yes h ↦ rw (lt-ltb _ _ h) (omega arith)
    | no n ↦ let h : z.ea ≤ r = omega arith in rw (le-ltb _ _ h) (omega arith)
  ]

  slot_next : (r : ℕ) → r < z.ea + z.fa → slot z (suc r) 0 ≡ slot z r 0 + columns z r
  slot_next r h = elim (dec_lt r z.ea) [
    | yes k ↦ elim (dec_lt (suc r) z.ea) [
      | yes l ↦ rw (lt-ltb _ _ k, lt-ltb _ _ l) (omega (arith, suc-mul r z.fb))
      | no m ↦
          let l : z.ea ≤ suc r = omega arith in
          let e : z.ea ≡ suc r = omega arith in
          let d : suc r - z.ea ≡ 0 = omega arith in
          rw (lt-ltb _ _ k, le-ltb _ _ l, d) (omega (arith, ap (λ n. n * z.fb) e, suc-mul r z.fb, zero-mul z.eb))
    ]
    | no n ↦
        let k : z.ea ≤ r = omega arith in
        let l : z.ea ≤ suc r = omega arith in
        let d : suc r - z.ea ≡ suc (r - z.ea) = omega arith in
        rw (le-ltb _ _ k, le-ltb _ _ l, d) (omega (arith, suc-mul (r - z.ea) z.eb))
  ]

  slot_zero : slot z 0 0 ≡ z.va
  slot_zero = elim (dec_lt 0 z.ea) [
    | yes h ↦ rw (lt-ltb _ _ h) (omega (arith, zero-mul z.fb))
    | no n ↦ let h : z.ea ≤ 0 = omega arith in let e : z.ea ≡ 0 = omega arith in let d : 0 - z.ea ≡ 0 = omega arith in rw (le-ltb _ _ h, d) (omega (arith, ap (λ n. n * z.fb) e, zero-mul z.fb, zero-mul z.eb))
  ]

  -- a row is within the table
  slot_end : (r : ℕ) → r < z.ea + z.fa → slot z r 0 + columns z r ≤ of_B z 0
  slot_end r h = elim (dec_lt r z.ea) [
    | yes k ↦ rw (lt-ltb _ _ k) (omega (arith, in_row r z.ea z.fb k))
    | no n ↦ let k : z.ea ≤ r = omega arith in let l : r - z.ea < z.fa = omega arith in rw (le-ltb _ _ k) (omega (arith, in_row (r - z.ea) z.fa z.eb l))
  ]

  module _ (inc : List ℤ) (size : length inc ≡ total z) where
    abbrev t : Table
    t = table inc (ranks inc)

    row_run : (r c : ℕ) → found_row (λ c. (end t (slot z r c)).count) c ≡ found_row (λ i. get_or inc (slot z r 0 + i) (pos 0)) c
    row_run r c = found_same (λ c. (end t (slot z r c)).count) (λ i. get_or inc (slot z r 0 + i) (pos 0)) c (λ i k. ap (λ n. get_or inc n (pos 0)) (slot_from r i))

    -- the kept ones before row r
    pub rows_run : (r : ℕ) → r ≤ z.ea + z.fa → rank inc (slot z r 0) ≡ rank inc z.va + length (flat_map (row_of t z) (up_to r))
    unfolding up_to flat_map
    rows_run zero h = ap (rank inc) slot_zero ∙ omega arith
    rows_run (suc r) h =
        let n = ap length (flat_up_to_suc (row_of t z) r) ∙ length-append (flat_map (row_of t z) (up_to r)) (row_of t z r) in
        let k = run inc (slot z r 0) (columns z r) (omega (arith, slot_end r (omega arith), size)) in
        ap (rank inc) (slot_next r (omega arith)) ∙ omega (arith, k, rows_run r (omega arith), n, ap length (row_run r (columns z r)))

    pub ranked : (r c : ℕ) → r < z.ea + z.fa → c < columns z r
        → (end t (slot z r c)).vertex ≡ rank inc z.va + (length (flat_map (row_of t z) (up_to r)) + length (found_row (λ c. (end t (slot z r c)).count) c))
    unfolding ranks
    ranked r c h k =
        let i : slot z r c < length inc = omega (arith, slot_from r c, slot_end r h, size) in
        at_up_to (rank inc) (length inc) (slot z r c) 0 i
        ∙ ap (rank inc) (slot_from r c) ∙ run inc (slot z r 0) c (omega (arith, slot_from r c)) ∙ omega (arith, rows_run r (omega arith), ap length (row_run r c))
