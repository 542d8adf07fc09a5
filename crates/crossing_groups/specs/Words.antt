-- Words of contracts; no public statement needs them. Rows of one kind that are looked through, and what the list of crossings holds on the way.
use Rattle.std.specs.Prelude.{◌≡◌, true, ℕ, ◌<◌, ◌≤◌, ℤ, nat_abs, length, Result, Ok, Err}
use mathlib.Core.List.{List, flat_map}
use Rattle.list_words.specs.Lists.{up_to, nonzero}
use Rattle.solids.specs.Solids.{Solid, edges}
use Rattle.edges.specs.Readers.{solid_of}
use Rattle.layouts.specs.Words.{Listing}
use Rattle.bounds.specs.Words.{many, whole}
use Rattle.box_lists.specs.declared.Near.{Near}
use Rattle.crossing_rows.specs.declared.Full.{Full}
use Rattle.crossing_rows.specs.Words.{row, rows, across, count_of, row_of, crossing}
use Rattle.crossing_groups.specs.declared.Search.{Search}

-- ---- a search: rows of one kind
pub record Searching (q : Search) (a b : Solid) : Type 0 where
  pub small : nat_abs q.sign ≤ 1
  pub signed : nonzero q.sign ≡ true
  pub other : q.other ≡ whole b
  pub many : q.many ≡ many q.thing b
  pub edges : q.edges ≡ length (edges a)
  pub begin : q.begin ≤ q.end
  pub end : q.end ≤ rows a b
  pub kind : (r : ℕ) → q.begin ≤ r → r < q.end → across (row_of a r) ≡ q.thing

-- its rows cross nothing but some columns
abbrev pub Enough : Search → Solid → Solid → List ℕ → Type 0
Enough q a b columns = (r : ℕ) → q.begin ≤ r → r < q.end → crossing q.sign (count_of (row_of a r) b) columns ≡ row q.sign a b r

-- the columns are of its kind, and enough
pub record Offered (q : Search) (a : Solid) (near : Near) : Type 0 where
  pub kind : near.thing ≡ q.thing
  pub enough : Enough q a (solid_of near.solid) near.columns.now

-- ---- the list of crossings

-- the rows below n
abbrev pub Reached : ℤ → Solid → Solid → ℕ → List ℕ → List ℕ → Result ℕ Full → Type 0
Reached s a b n first crossed (Ok total) = (total ≡ length (flat_map (row s a b) (up_to n))) × Listing (row s a b) n first crossed
Reached s a b n first crossed (Err full) = length crossed < length (flat_map (row s a b) (up_to n))
