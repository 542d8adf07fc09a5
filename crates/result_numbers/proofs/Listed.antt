-- The crossings that are listed, row by row, are what counts of the table of two solids.
use mathlib.Core.Path.{◌≡◌, sym, ap, ◌∙◌}
use mathlib.Core.Bool.{Bool}
use mathlib.Core.List.{List, flat_map}
use Prim.Native.Nat.{ℕ, ◌-◌, ◌<◌, ◌≤◌}
use native.Mathlib.Omega.{arith}
use native.Mathlib.Decide.{dec_lt}
use borrow.Author.Tests.{lt-ltb, le-ltb}
use lib.IntN.{ℤ, pos, ◌*ℤ◌}
use lib.ListN.{length, get_or}
use Rattle.list_words.specs.Lists.{up_to, keep, nonzero}
use Rattle.list_words.proofs.UpTo.{map_up_to, flat_up_to}
use Rattle.solids.specs.Solids.{Solid, facets, edges}
use Rattle.results.specs.declared.Operation.{Operation}
use Rattle.results.specs.Inclusion.{cI, inclusion}
use Rattle.layouts.specs.Words.{sizes, columns, Listing}
use Rattle.vertex_table.specs.Words as T
use Rattle.vertex_table.proofs.Slots.{in_row}
use Rattle.vertex_table.specs.Words.{inclusions, filled}
use Rattle.vertex_table.proofs.Keys.{length_keys, key_eAfB, key_fAeB}
use Rattle.vertex_table.proofs.Good.{slot}
use Rattle.kept_lists.specs.Words as K
use Rattle.kept_lists.specs.Words.{row_of}
use Rattle.crossing_rows.specs.Words.{row, rows, count_at}

abbrev kept : ℕ × ℤ → Bool
kept x = nonzero x.1

module _ (op : Operation) (a b : Solid) where
  abbrev ea : ℕ
  ea = length (edges a)

  -- what the table has at a crossing
  at_slot : (r c : ℕ) → r < rows a b → c < columns (sizes a b) r → get_or (inclusions op a b) (K.slot (sizes a b) r c) (pos 0) ≡ cI op *ℤ count_at a b r c
  unfolding inclusion count_at
  at_slot r c h k = elim (dec_lt r ea) [
    | yes l ↦
        let q = lt-ltb r ea l in
        let i : c < facets b = rw q at k in
        rw q (slot op a b (T.on_edge (sizes a b) r c) (omega (arith, length_keys a b, in_row r ea (facets b) l)) ∙ ap (inclusion op a b) (key_eAfB a b r c l i))
    | no n ↦
        let m : ea ≤ r = omega arith in
        let q = le-ltb r ea m in
        let i : c < length (edges b) = rw q at k in
        let l : r - ea < facets a = omega arith in
        rw q (slot op a b (T.on_facet (sizes a b) (r - ea) c) (omega (arith, length_keys a b, in_row (r - ea) (facets a) (length (edges b)) l)) ∙ ap (inclusion op a b) (key_fAeB a b (r - ea) c l i))
  ]

  same_row : (r : ℕ) → r < rows a b → row (cI op) a b r ≡ row_of (filled op a b) (sizes a b) r
  unfolding row
  same_row r h =
      ap (keep kept) (map_up_to (columns (sizes a b) r) (λ c. (c, cI op *ℤ count_at a b r c)) (λ c. (c, (T.end (filled op a b) (K.slot (sizes a b) r c)).count)) (λ c k. ap (λ (x : ℤ). (c, x)) (sym (at_slot r c h k))))

  pub same_rows : (r : ℕ) → r ≤ rows a b → flat_map (row (cI op) a b) (up_to r) ≡ flat_map (row_of (filled op a b) (sizes a b)) (up_to r)
  same_rows r h = flat_up_to r (row (cI op) a b) (row_of (filled op a b) (sizes a b)) (λ i k. same_row i (omega arith))

  pub listed : {first crossed : List ℕ} → Listing (row (cI op) a b) (rows a b) first crossed → Listing (row_of (filled op a b) (sizes a b)) (rows a b) first crossed
  listed l =
      let e = same_rows (rows a b) (omega arith) in
      record { starts = λ r h. l.starts r h ∙ ap length (same_rows r h); room = rw e at l.room; front = rw e at l.front }
