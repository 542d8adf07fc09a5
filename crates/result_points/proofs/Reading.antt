-- What a list of crossings says of one row: its places hold the row's columns and inclusions, and what runs over its places runs over the row.
use mathlib.Core.Path.{◌≡◌, refl, sym, ap, ◌∙◌}
use mathlib.Core.List.{List, ◌++◌, flat_map, map-id}
use Prim.Native.Nat.{ℕ, suc, ◌+◌, ◌-◌, ◌<◌}
use native.Mathlib.Numerals.{add-one}
use native.Mathlib.Omega.{arith}
use lib.IntN.{ℤ, pos}
use lib.ListN.{length, get_or, take, length-append, get_or-append}
use lib.Seq.{get_or-take, length-take-le}
use Rattle.list_words.specs.Lists.{up_to}
use Rattle.list_words.proofs.Places.{at_map, by_places, flat_up_to_add, get_or_behind}
use Rattle.list_words.proofs.Sums.{flat_map_map}
use Rattle.list_words.proofs.UpTo.{flat_up_to, flat_up_to_suc}
use Rattle.layouts.specs.Words.{column, unpacked, Listing}

-- a list by its places
pub flat_places : {A B : Type 0} (f : A → List B) (l : List A) (d : A) → flat_map (λ i. f (get_or l i d)) (up_to (length l)) ≡ flat_map f l
flat_places {A} f l d =
    sym (flat_map_map f (λ i. get_or l i d) (up_to (length l))) ∙ ap (flat_map f) (by_places (λ (x : A). x) l d ∙ map-id l)

module _ {row : ℕ → List (ℕ × ℤ)} {n : ℕ} {first crossed : List ℕ} (l : Listing row n first crossed) where
  abbrev nothing : ℕ × ℤ
  nothing = (0, pos 0)

  module _ (r : ℕ) (h : r < n) where
    abbrev front : List (ℕ × ℤ)
    front = flat_map row (up_to r)

    abbrev all : List (ℕ × ℤ)
    all = flat_map row (up_to n)

    abbrev rest : List (ℕ × ℤ)
    rest = flat_map (λ j. row (suc r + j)) (up_to (n - suc r))

    split : all ≡ (front ++ row r) ++ rest
    split =
        let e : suc r + (n - suc r) ≡ n = omega arith in
        ap (λ k. flat_map row (up_to k)) (sym e) ∙ flat_up_to_add row (suc r) (n - suc r) ∙ ap (λ s. s ++ rest) (flat_up_to_suc row r)

    long : length front + length (row r) + length rest ≡ length all
    long = omega (arith, ap length split, length-append (front ++ row r) rest, length-append front (row r))

    -- a row ends where the next one starts
    row_long : get_or first (r + 1) 0 - get_or first r 0 ≡ length (row r)
    row_long =
        let e : get_or first (r + 1) 0 ≡ length (front ++ row r) = l.starts (r + 1) (omega arith) ∙ rw (add-one r) (ap length (flat_up_to_suc row r)) in
        omega (arith, e, l.starts r (omega arith), length-append front (row r))

    at_row : (i : ℕ) → i < length (row r) → column (get_or crossed (get_or first r 0 + i) 0) ≡ (get_or (row r) i nothing).0
    at_row i k =
        let total = length all in
        let j = length front + i in
        let in_row : j < length (front ++ row r) = omega (arith, length-append front (row r)) in
        let in_all : j < total = omega (arith, long) in
        let there : j < length (take total crossed) = rw (length-take-le total crossed l.room) in_all in
        let e : unpacked (get_or crossed j 0) ≡ get_or (row r) i nothing =
        ap unpacked (sym (get_or-take total crossed j 0 in_all)) ∙ sym (at_map unpacked (take total crossed) j nothing 0 there)
        ∙ ap (λ s. get_or s j nothing) (l.front ∙ split)
        ∙ get_or-append (front ++ row r) rest nothing j in_row ∙ get_or_behind front (row r) (length front) i nothing refl in
        rw (l.starts r (omega arith)) (ap (λ (x : ℕ × ℤ). x.0) e)

    pub flat_row : {B : Type 0} (f : ℕ → List B)
        → flat_map (λ i. f (column (get_or crossed (get_or first r 0 + i) 0))) (up_to (get_or first (r + 1) 0 - get_or first r 0))
        ≡ flat_map (λ (x : ℕ × ℤ). f x.0) (row r)
    flat_row f =
        ap (λ k. flat_map (λ i. f (column (get_or crossed (get_or first r 0 + i) 0))) (up_to k)) row_long
        ∙ flat_up_to (length (row r)) (λ i. f (column (get_or crossed (get_or first r 0 + i) 0))) (λ i. f (get_or (row r) i nothing).0) (λ i k. ap f (at_row i k))
        ∙ flat_places (λ (x : ℕ × ℤ). f x.0) (row r) nothing
