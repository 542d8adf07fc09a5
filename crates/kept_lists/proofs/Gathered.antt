-- The ends of a half-edge's edge, gathered in an array: start and end, then the crossings. What is not marked may be left out. An array that is full is
-- joined and filled anew.
use mathlib.Core.Path.{◌≡◌, refl, sym, ap, ◌∙◌}
use mathlib.Core.Bool.{false, not}
use mathlib.Core.List.{List, [], ◌∷◌, ◌++◌, map, map-append, append_assoc, append-nil}
use Prim.Native.Nat.{ℕ, zero, suc, ◌+◌, ◌-◌, ◌*◌, ◌<◌, ◌≤◌}
use native.Mathlib.Numerals.{add-one}
use native.Mathlib.Omega.{arith}
use native.Mathlib.Decide.{dec_lt}
use borrow.Author.Tests.{lt-ltb, le-ltb}
use lib.IntN.{ℤ}
use lib.ListN.{length, set, take, length-set}
use lib.Seq.{take-suc-set}
use Rattle.list_words.specs.Lists.{up_to}
use Rattle.list_words.proofs.UpTo.{map_up_to_suc}
use Rattle.results.specs.declared.End.{End}
use Rattle.results.specs.Pieces.{pieces}
use Rattle.layouts.specs.declared.Sizes.{Sizes}
use Rattle.vertex_table.specs.Words.{flip, Halves}
use Rattle.layouts.specs.Words.{edge_at, against}
use Rattle.vertex_table.proofs.Gather.{Same, same_pieces, same_one, same_skip, turn_pieces, flip_off}
use Rattle.marks.specs.Words.{marked, Next}
use Rattle.kept_lists.specs.Words.{Rows, blank, vertex, corner_at, line_end, line_many, line_row, line_ends, half, Edges}
use Rattle.kept_lists.proofs.Rows.{flip_blank}

-- where a half-edge's marks stand
pub row_in : {hs : List ℕ} {z : Sizes} → Halves hs z → (h : ℕ) → h < 3 * (z.fa + z.fb) → line_row hs z h < z.ea + z.eb
row_in {hs} {z} halves h hh = elim (dec_lt h (3 * z.fa)) [
  | yes a ↦ rw (lt-ltb _ _ a) (omega (arith, halves.edge_A h a))
  | no b ↦ let a : 3 * z.fa ≤ h = omega arith in rw (le-ltb _ _ a) (omega (arith, halves.edge_B h a hh))
]

module _ (inc : List ℤ) (num : List ℕ) (w : Rows) (hs : List ℕ) (z : Sizes) (h : ℕ) where
  line_next : (i : ℕ) → line_ends inc num w hs z h (suc i) ≡ line_ends inc num w hs z h i ++ (line_end w hs z h i ∷ [])
  unfolding line_ends
  line_next i = rw (map_up_to_suc (line_end w hs z h) i)

  -- after i crossings those that were joined before and the first n of the array, which has m places, are the ends so far, but for those with count 0
  pub record Gathered (m : ℕ) (done all : List End) (n i : ℕ) : Type 0 where
    pub long : length all ≡ m
    pub same : Same (done ++ take n all) (map (flip (against hs h)) (line_ends inc num w hs z h i))

  pub gathered_none : (m : ℕ) (all : List End) (a b : End) → length all ≡ m → take 2 all ≡ a ∷ b ∷ []
      → a ≡ flip (not (against hs h)) (vertex inc num (corner_at hs z h 1)) → b ≡ flip (against hs h) (vertex inc num (corner_at hs z h 2)) → Gathered m [] all 2 0
  unfolding line_ends up_to
  gathered_none m all a b l e ea eb =
      record { long = l; same = rw (e, ea, eb, flip_off) (record { from = refl; to = refl }) }

  grown : (i : ℕ) (e : End) → e ≡ flip (against hs h) (line_end w hs z h i)
      → map (flip (against hs h)) (line_ends inc num w hs z h (suc i)) ≡ map (flip (against hs h)) (line_ends inc num w hs z h i) ++ (e ∷ [])
  grown i e q = rw (line_next i, map-append (flip (against hs h)) (line_ends inc num w hs z h i) (line_end w hs z h i ∷ []), q)

  -- what is in the array is joined
  pub gathered_joined : {m n i : ℕ} {done all : List End} → Gathered m done all n i → Gathered m (done ++ take n all) all 0 i
  gathered_joined {m} {n} {i} {done} {all} g = record { long = g.long; same = rw (append-nil (done ++ take n all)) g.same }

  pub gathered_one : {m n i : ℕ} {done all : List End} → Gathered m done all n i → (e : End) → e ≡ flip (against hs h) (line_end w hs z h i) → n < m
      → Gathered m done (set all n e) (n + 1) (i + 1)
  gathered_one {m} {n} {i} {done} {all} g e q k =
      record {
        long = rw length-set g.long;
        same = rw (add-one i, grown i e q, add-one n, take-suc-set all n e (omega (arith, g.long)), ← append_assoc done (take n all) (e ∷ [])) (same_one e g.same);
      }

  skip_one : {m n i : ℕ} {done all : List End} → Gathered m done all n i → line_end w hs z h i ≡ blank → Gathered m done all n (suc i)
  skip_one {m} {n} {i} g q =
      record {
        long = g.long;
        same = rw (grown i blank (sym (ap (flip (against hs h)) q ∙ flip_blank (against hs h)))) (same_skip blank refl g.same);
      }

  skip_more : (d : ℕ) {m n i : ℕ} {done all : List End} → Gathered m done all n i → ((k : ℕ) → i ≤ k → k < i + d → line_end w hs z h k ≡ blank) → Gathered m done all n (i + d)
  skip_more zero {m} {n} {i} g q = let e : i + 0 ≡ i = omega arith in rw e g
  skip_more (suc d) {m} {n} {i} g q =
      let e : i + suc d ≡ suc (i + d) = omega arith in
      rw e (skip_one (skip_more d g (λ k a b. q k a (omega arith))) (q (i + d) (omega arith) (omega arith)))

  pub gathered_to : {m n i : ℕ} {done all : List End} → Gathered m done all n i → (j : ℕ) → i ≤ j → ((k : ℕ) → i ≤ k → k < j → line_end w hs z h k ≡ blank) → Gathered m done all n j
  gathered_to {m} {n} {i} g j l q = let e : i + (j - i) ≡ j = omega arith in rw e at (skip_more (j - i) g (λ k a b. q k a (omega arith)))

  pub gathered_all : {m n i : ℕ} {done all : List End} → Gathered m done all n i → i ≡ line_many z h → pieces (done ++ take n all) ≡ half inc num w hs z h
  unfolding half
  gathered_all {m} {n} {i} g e = same_pieces g.same ∙ turn_pieces (against hs h) (line_ends inc num w hs z h i) ∙ rw e

  -- ---- what is not marked
  module _ {l : List ℕ} (halves : Halves hs z) (edges : Edges z w l) (hh : h < 3 * (z.fa + z.fb)) where
    pub quiet_line : (k : ℕ) → k < line_many z h → marked l (256 * line_row hs z h + k) ≡ false → line_end w hs z h k ≡ blank
    quiet_line k hk q = elim (dec_lt h (3 * z.fa)) [
      | yes a ↦
          let t = lt-ltb _ _ a in
          let e = halves.edge_A h a in
          rw t (edges.quiet (edge_at hs h) k (omega arith) (rw (lt-ltb _ _ e) (rw t at q)))
      | no b ↦
          let a : 3 * z.fa ≤ h = omega arith in
          let t = le-ltb _ _ a in
          let e = halves.edge_B h a hh in
          let f : k < z.fa = rw t at hk in
          let s : (z.ea + k) - z.ea ≡ k = omega arith in
          rw t (edges.quiet (z.ea + k) (edge_at hs h) (omega arith) (rw (le-ltb (z.ea + k) z.ea (omega arith), s) (rw t at q)))
    ]

    -- where the marks stand, as the code has it
    module _ (row many : ℕ) (er : row ≡ line_row hs z h) (em : many ≡ line_many z h) where
      -- up to the next mark
      pub gathered_next : {m n i r : ℕ} {done all : List End} → Gathered m done all n (i - 256 * row) → 256 * row ≤ i → Next l i (256 * row + many) r → Gathered m done all n (r - 256 * row)
      gathered_next {m} {n} {i} {r} g low x =
          gathered_to g (r - 256 * row) (omega (arith, x.low)) (λ k p q. quiet_line k (rw (← em) (omega (arith, x.high))) (rw (← er) (x.clear (256 * row + k) (omega arith) (omega arith))))

      pub gathered_first : {m n r : ℕ} {done all : List End} → Gathered m done all n 0 → Next l (256 * row) (256 * row + many) r → Gathered m done all n (r - 256 * row)
      gathered_first g x = let e : 256 * row - 256 * row ≡ 0 = omega arith in gathered_next (rw e g) (omega arith) x

      pub gathered_after : {m n i r : ℕ} {done all : List End} → Gathered m done all n (i - 256 * row) → (e : End) → e ≡ flip (against hs h) (line_end w hs z h (i - 256 * row)) → n < m → 256 * row ≤ i
          → Next l (i + 1) (256 * row + many) r → Gathered m done (set all n e) (n + 1) (r - 256 * row)
      gathered_after {m} {n} {i} {r} g e q k low x =
          let d : (i - 256 * row) + 1 ≡ (i + 1) - 256 * row = omega arith in
          gathered_next (rw d at (gathered_one g e q k)) (omega arith) x

      -- where nothing is marked, start and end are all ends
      pub gathered_two : {r : ℕ} → Next l (256 * row) (256 * row + many) r → r ≡ 256 * row + many → (a b : End)
          → a ≡ flip (not (against hs h)) (vertex inc num (corner_at hs z h 1)) → b ≡ flip (against hs h) (vertex inc num (corner_at hs z h 2))
          → pieces (a ∷ b ∷ []) ≡ half inc num w hs z h
      gathered_two {r} x d a b ea eb =
          let e : r - 256 * row ≡ many = omega arith in
          gathered_all (gathered_first (gathered_none 2 (a ∷ b ∷ []) a b refl refl ea eb) x) (e ∙ em)

      many_in : line_many z h ≤ 256
      many_in = elim (dec_lt h (3 * z.fa)) [
        | yes a ↦ rw (lt-ltb _ _ a) halves.sized.fb
        | no b ↦ let a : 3 * z.fa ≤ h = omega arith in rw (le-ltb _ _ a) halves.sized.fa
      ]

      pub line_room : (256 * row + 256 ≤ 64 * length l) × (many ≤ 256) × (row ≤ 768)
      line_room = let r = row_in halves h hh in let m = many_in in let g = edges.long in
          (omega (arith, er, em), omega (arith, em), omega (arith, er, halves.sized.ea, halves.sized.eb))
