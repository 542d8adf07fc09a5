-- For a caller: what `count_triangles` counts and `put_triangles` leaves, in the words of the result, if the lists hold what counts of two admitted
-- solids.
use mathlib.Core.Path.{◌≡◌, ◌∙◌}
use mathlib.Core.List.{List, flat_map}
use Prim.Native.Nat.{ℕ, ◌+◌, ◌<◌}
use lib.IntN.{ℤ}
use lib.ListN.{length}
use Rattle.list_words.specs.Lists.{up_to}
use Rattle.solids.specs.Solids.{Solid, vertices}
use Rattle.solids.proofs.Admitted.{Passed}
use Rattle.results.specs.declared.Operation.{Operation}
use Rattle.results.specs.Inclusion.{inclusion}
use Rattle.results.specs.Vertices.{keys, number}
use Rattle.results.specs.Triangles.{triangles}
use Rattle.fans.specs.Words.{rank, ranks}
use Rattle.vertex_table.specs.Words as T
use Rattle.vertex_table.specs.Words.{inclusions, numbers, filled}
use Rattle.layouts.specs.Words.{halves, sizes, columns, Listing}
use Rattle.vertex_table.proofs.Numbers.{ranks_numbers}
use Rattle.vertex_table.proofs.Good.{long_inclusions, good, read_triangles}
use Rattle.kept_lists.specs.Words.{Rows, vertex, dense, tidy, slot, found_row, row_of, Held, Found, Balanced}
use Rattle.kept_lists.proofs.Held.{held_triangles}
use Rattle.kept_lists.proofs.Balances.{held_balanced}
use Rattle.kept_lists.proofs.Found.{found_held}
use Rattle.kept_lists.proofs.Ranked.{ranked}

module _ (op : Operation) (a b : Solid) (w : Rows) where
  numbered : (num : List ℕ) → ranks (inclusions op a b) ≡ num → (r c : ℕ) → r < (sizes a b).ea + (sizes a b).fa → c < columns (sizes a b) r
      → (T.end (T.table (inclusions op a b) num) (slot (sizes a b) r c)).vertex
      ≡ rank (inclusions op a b) (vertices a)
      + (length (flat_map (row_of (T.table (inclusions op a b) num) (sizes a b)) (up_to r)) + length (found_row (λ c. (T.end (T.table (inclusions op a b) num) (slot (sizes a b) r c)).count) c))
  numbered num e r c h k = rw (← e) (ranked (sizes a b) (inclusions op a b) (long_inclusions op a b) r c h k)

  -- the lists' fronts hold the crossings that count
  abbrev pub Lists : Type 0
  Lists = Listing (row_of (filled op a b) (sizes a b)) ((sizes a b).ea + (sizes a b).fa) w.first w.crossed

  pub listing_found : Lists → w.base ≡ rank (inclusions op a b) (vertices a) → Found (filled op a b) (sizes a b) w
  listing_found f e = record { listing = f; number = λ r c h k q. numbered (numbers op a b) (ranks_numbers op a b) r c h k ∙ rw e }

  -- lists that hold what counts, vertices and crossings
  module _ (passed_a : Passed a) (passed_b : Passed b) (inc : List ℤ) (num : List ℕ) (f : Lists) (e : w.base ≡ rank (inclusions op a b) (vertices a))
      (va : (i : ℕ) → i < vertices a → tidy (T.end (filled op a b) i) ≡ tidy (vertex inc num i))
      (vb : (i : ℕ) → i < vertices b → tidy (T.end (filled op a b) (T.of_B (sizes a b) i)) ≡ tidy (vertex inc num (vertices a + i))) where
    held : Held (sizes a b) inc num w (filled op a b)
    held = found_held (listing_found f e) va vb

    -- THE RESULT'S TRIANGLES
    pub walked_triangles : T.triangles (dense (sizes a b) inc num w) (halves a b) (sizes a b) ≡ triangles (inclusion op a b) (number (inclusion op a b) (keys a b)) a b
    walked_triangles = held_triangles (halves a b) (sizes a b) inc num w (filled op a b) (good op a b passed_a passed_b).halves held ∙ read_triangles op a b passed_a passed_b

    -- and they can be counted without joining
    pub walked_balanced : Balanced (halves a b) (sizes a b) inc num w
    walked_balanced = held_balanced op a b passed_a passed_b held
