-- Rows that hold what counts, column by column: the lists' fronts are that, and each row starts where those before it end. So a crossing's number is the
-- first one's plus its place.
use mathlib.Core.Path.{◌≡◌, refl, sym, ap, ap₂, ◌∙◌}
use mathlib.Core.Bool.{Bool, true, false}
use mathlib.Core.List.{List, [], ◌∷◌, ◌++◌, map, flat_map, map-append, append-nil}
use Prim.Native.Nat.{ℕ, zero, suc, ◌+◌, ◌-◌, ◌<◌, ◌≤◌}
use native.Mathlib.Numerals.{add-one}
use native.Mathlib.Decide.{dec_lt}
use borrow.Author.Tests.{lt-ltb, le-ltb}
use native.Mathlib.Omega.{arith}
use lib.IntN.{ℤ}
use lib.ListN.{length, get_or, take, length-append, get_or-append, get_or-map}
use lib.Seq.{get_or-append-add, get_or-take}
use Rattle.list_words.specs.Lists.{up_to, keep, nonzero}
use Rattle.list_words.proofs.Sums.{All, all_map_of, flat_map_map}
use Rattle.list_words.proofs.Tests.{all_keep}
use Rattle.list_words.proofs.UpTo.{all_up_to, flat_up_to_suc, up_to_first}
use Rattle.list_stores.proofs.Kept.{keep_append}
use Rattle.results.specs.declared.End.{End}
use Rattle.layouts.specs.declared.Sizes.{Sizes}
use Rattle.vertex_table.specs.Words.{Table, end, of_B}
use Rattle.layouts.specs.Words.{Sized, column, columns, Columns, unpacked, Listing}
use Rattle.list_words.proofs.Places.{flat_up_to_add, all_get_d}
use Rattle.kept_lists.specs.Words.{Rows, span, entry, in_row, vertex, tidy, slot, found_row, row_of, Held, Found}
use Rattle.kept_lists.proofs.Held.{counts, at_column, row_crossing}

abbrev kept : ℕ × ℤ → Bool
kept x = nonzero x.1

module _ (base : ℕ) where
  -- with numbers from base + a on
  abbrev numbered : ℕ → List (ℕ × ℤ) → List (ℕ × End)
  numbered a [] = []
  numbered a (x ∷ l) = (x.0, record { vertex = base + a; count = x.1 }) ∷ numbered (suc a) l

  numbered_snoc : (a : ℕ) (l : List (ℕ × ℤ)) (x : ℕ × ℤ) → numbered a (l ++ (x ∷ [])) ≡ numbered a l ++ ((x.0, record { vertex = base + (a + length l); count = x.1 }) ∷ [])
  numbered_snoc a [] x = let e : a ≡ a + 0 = omega arith in ap (λ n. (x.0, record { vertex = base + n; count = x.1 }) ∷ []) e
  numbered_snoc a (y ∷ l) x =
      let e : suc a + length l ≡ a + suc (length l) = omega arith in
      ap (λ r. (y.0, record { vertex = base + a; count = y.1 }) ∷ r) (numbered_snoc (suc a) l x ∙ ap (λ n. numbered (suc a) l ++ ((x.0, record { vertex = base + n; count = x.1 }) ∷ [])) e)

  -- one column more, which counts or does not
  module _ (M : ℕ → End) (a m : ℕ) where
    abbrev pair : ℕ → ℕ × ℤ
    pair c = (c, (M c).count)

    one_more : (b : Bool) → nonzero (M m).count ≡ b → (nonzero (M m).count ≡ true → (M m).vertex ≡ base + (a + length (found_row (λ c. (M c).count) m)))
        → keep counts (map (at_column M) (up_to m)) ≡ numbered a (found_row (λ c. (M c).count) m)
        → keep counts (map (at_column M) (up_to m)) ++ keep counts (at_column M m ∷ []) ≡ numbered a (found_row (λ c. (M c).count) m ++ keep kept (pair m ∷ []))
    unfolding keep
    one_more true q h ih =
        let v = h q in
        rw q (ap₂ (λ (l : List (ℕ × End)) (n : ℕ). l ++ ((m, record { vertex = n; count = (M m).count }) ∷ [])) ih v ∙ sym (numbered_snoc a (found_row (λ c. (M c).count) m) (pair m)))
    one_more false q h ih = rw q (append-nil (keep counts (map (at_column M) (up_to m))) ∙ ih ∙ ap (numbered a) (sym (append-nil (found_row (λ c. (M c).count) m))))

  -- the ends of a row, if each that counts has its place's number
  numbered_row : (M : ℕ → End) (a many : ℕ) → ((c : ℕ) → c < many → nonzero (M c).count ≡ true → (M c).vertex ≡ base + (a + length (found_row (λ c. (M c).count) c)))
      → keep counts (map (at_column M) (up_to many)) ≡ numbered a (found_row (λ c. (M c).count) many)
  unfolding up_to keep
  numbered_row M a zero h = refl
  numbered_row M a (suc m) h =
      ap (keep counts) (map-append (at_column M) (up_to m) (m ∷ [])) ∙ keep_append counts (map (at_column M) (up_to m)) (at_column M m ∷ [])
      ∙ one_more M a m (nonzero (M m).count) refl (h m (omega arith)) (numbered_row M a m (λ c k. h c (omega arith)))
      ∙ sym (ap (numbered a) (ap (keep kept) (map-append (pair M a m) (up_to m) (m ∷ [])) ∙ keep_append kept (map (pair M a m) (up_to m)) (pair M a m m ∷ [])))

  -- a row of the lists, if they hold it from place a on
  held_row : (w : Rows) → w.base ≡ base → (a : ℕ) (l : List (ℕ × ℤ)) → ((d : ℕ) → d < length l → unpacked (get_or w.crossed (a + d) 0) ≡ get_or l d (unpacked 0))
      → map (entry w) (span a (length l)) ≡ numbered a l
  unfolding span
  held_row w e a [] h = refl
  held_row w e a (x ∷ l) h =
      let q : a + 0 ≡ a = omega arith in
      let c : unpacked (get_or w.crossed a 0) ≡ x = rw q at (h 0 (omega arith)) in
      let r = held_row w e (suc a) l (λ d k. let s : suc a + d ≡ a + suc d = omega arith in rw s (h (suc d) (omega arith))) in
      λ i. ((c i).0, record { vertex = e i + a; count = (c i).1 }) ∷ r i

-- ---- blocks one behind the other
module _ {A : Type 0} (F : ℕ → List A) where
  -- what stands in block r
  in_block : (r n d : ℕ) (x : A) → r < n → d < length (F r) → get_or (flat_map F (up_to n)) (length (flat_map F (up_to r)) + d) x ≡ get_or (F r) d x
  unfolding flat_map
  in_block r n d x h k =
      let m = n - r - 1 in
      let e : n ≡ r + suc m = omega arith in
      let z : r + 0 ≡ r = omega arith in
      let rest = flat_map (λ i. F (r + suc i)) (up_to m) in
      let split : flat_map F (up_to n) ≡ flat_map F (up_to r) ++ (F r ++ rest) =
      ap (λ k. flat_map F (up_to k)) e ∙ flat_up_to_add F r (suc m)
      ∙ ap (λ l. flat_map F (up_to r) ++ l) (ap (flat_map (λ i. F (r + i))) (up_to_first m) ∙ ap₂ (λ (u v : List A). u ++ v) (ap F z) (flat_map_map (λ i. F (r + i)) suc (up_to m))) in
      ap (λ l. get_or l (length (flat_map F (up_to r)) + d) x) split ∙ get_or-append-add (flat_map F (up_to r)) (F r ++ rest) d x ∙ get_or-append (F r) rest x d k

  -- and that it stands within
  block_in : (r n : ℕ) → r < n → length (flat_map F (up_to r)) + length (F r) ≤ length (flat_map F (up_to n))
  block_in r zero h = absurd (omega arith)
  block_in r (suc n) h =
      let e = ap length (flat_up_to_suc F n) ∙ length-append (flat_map F (up_to n)) (F n) in
      elim (dec_lt r n) [ yes l ↦ omega (arith, e, block_in r n l) | no k ↦ let q : r ≡ n = omega arith in rw q (omega (arith, e)) ]

-- ---- what lists that hold rows have at the d-th place of row r
module _ {row : ℕ → List (ℕ × ℤ)} {n : ℕ} {first crossed : List ℕ} (f : Listing row n first crossed) where
  row_many : (r : ℕ) → r < n → get_or first (r + 1) 0 ≡ get_or first r 0 + length (row r)
  row_many r h =
      let e : length (flat_map row (up_to (r + 1))) ≡ length (flat_map row (up_to r)) + length (row r) = rw (add-one r) (ap length (flat_up_to_suc row r) ∙ length-append (flat_map row (up_to r)) (row r)) in
      omega (arith, f.starts r (omega arith), f.starts (r + 1) (omega arith), e)

  at_row : (r d : ℕ) → r < n → d < length (row r) → unpacked (get_or crossed (length (flat_map row (up_to r)) + d) 0) ≡ get_or (row r) d (unpacked 0)
  at_row r d h k =
      let all = flat_map row (up_to n) in
      let i = length (flat_map row (up_to r)) + d in
      let q : i < length all = omega (arith, block_in row r n h) in
      ap unpacked (sym (get_or-take (length all) crossed i 0 q)) ∙ sym (get_or-map unpacked (take (length all) crossed) i 0) ∙ ap (λ l. get_or l i (unpacked 0)) f.front ∙ in_block row r n d (unpacked 0) h k

module _ {t : Table} {z : Sizes} {w : Rows} (f : Found t z w) where
  pub found_in_row : (r : ℕ) → r < z.ea + z.fa → in_row w r ≡ keep counts (map (at_column (λ c. end t (slot z r c))) (up_to (columns z r)))
  unfolding in_row
  found_in_row r h =
      let F = row_of t z in
      let a = length (flat_map F (up_to r)) in
      let many : get_or w.first (r + 1) 0 - get_or w.first r 0 ≡ length (F r) = omega (arith, row_many f.listing r h) in
      ap₂ (λ (u v : ℕ). map (entry w) (span u v)) (f.listing.starts r (omega arith)) many
      ∙ held_row w.base w refl a (F r) (λ d k. at_row f.listing r d h k)
      ∙ sym (numbered_row w.base (λ c. end t (slot z r c)) a (columns z r) (λ c k q. f.number r c h k q))

  -- THE LISTS STAND FOR THE TABLE, if they hold what counts of it
  pub found_held : {inc : List ℤ} {num : List ℕ} → ((i : ℕ) → i < z.va → tidy (end t i) ≡ tidy (vertex inc num i)) → ((i : ℕ) → i < z.vb → tidy (end t (of_B z i)) ≡ tidy (vertex inc num (z.va + i)))
      → Held z inc num w t
  found_held {inc} {num} va vb =
      record {
        own_A = va;
        own_B = vb;
        edge_A = λ e g h k.
            let q = lt-ltb e z.ea h in
            rw q at (row_crossing (λ c. end t (slot z e c)) w e (columns z e) (found_in_row e (omega arith)) g (rw q k));
        edge_B = λ f e h k.
            let q = le-ltb (z.ea + f) z.ea (omega arith) in
            let d : (z.ea + f) - z.ea ≡ f = omega arith in
            rw (q, d) at (row_crossing (λ c. end t (slot z (z.ea + f) c)) w (z.ea + f) (columns z (z.ea + f)) (found_in_row (z.ea + f) (omega arith)) e (rw q k));
      }

-- ---- the columns of such lists are there
module _ (t : Table) (z : Sizes) where
  columns_below : (r : ℕ) → All (λ (x : ℕ × ℤ). (kept x ≡ true) × (x.0 < columns z r)) (row_of t z r)
  columns_below r =
      all_keep kept (λ (x : ℕ × ℤ). x.0 < columns z r) (map (λ c. (c, (end t (slot z r c)).count)) (up_to (columns z r)))
      (all_map_of (λ (x : ℕ × ℤ). x.0 < columns z r) (λ c. (c, (end t (slot z r c)).count)) (up_to (columns z r)) (all_up_to (λ c. c < columns z r) (columns z r) (λ c k. k)))

  starts_below : (r n : ℕ) → r ≤ n → length (flat_map (row_of t z) (up_to r)) ≤ length (flat_map (row_of t z) (up_to n))
  starts_below r n h = elim (dec_lt r n) [
    | yes k ↦ omega (arith, block_in (row_of t z) r n k)
    | no k ↦ let e : r ≡ n = omega arith in rw e (omega arith)
  ]

  pub listing_columns : {first crossed : List ℕ} → Listing (row_of t z) (z.ea + z.fa) first crossed → Sized z → z.ea + z.fa < length first → Columns z first crossed
  listing_columns {first} {crossed} f s long =
      record {
        sized = s;
        first_long = long;
        within = λ r h. rw (f.starts r h) (omega (arith, starts_below r (z.ea + z.fa) h, f.room));
        column = there;
      }
    where
      there : (r k : ℕ) → r < z.ea + z.fa → get_or first r 0 ≤ k → k < get_or first (r + 1) 0 → column (get_or crossed k 0) < columns z r
      there r k h a b =
          let F = row_of t z in
          let s = f.starts r (omega arith) in
          let d = k - length (flat_map F (up_to r)) in
          let e : k ≡ length (flat_map F (up_to r)) + d = omega (arith, s) in
          let i : d < length (F r) = omega (arith, s, row_many f r h) in
          let q : unpacked (get_or crossed k 0) ≡ get_or (F r) d (unpacked 0) = ap (λ m. unpacked (get_or crossed m 0)) e ∙ at_row f r d h i in
          rw (ap (λ (x : ℕ × ℤ). x.0) q) (all_get_d (λ (x : ℕ × ℤ). (kept x ≡ true) × (x.0 < columns z r)) (F r) d (unpacked 0) (columns_below r) i).1
