-- Words of contracts; no public statement needs them. The crossings that are not 0, as lists in listing order, and the table that they stand for. No code
-- has that table.
use Rattle.std.specs.Prelude.{◌≡◌, true, false, not, cond, ℕ, zero, suc, ◌+◌, ◌*◌, ◌-◌, ◌<◌, ◌≤◌, ltb, eqb, ℤ, pos, nat_abs, length, get_or}
use mathlib.Core.List.{List, [], ◌∷◌, ◌++◌, map, flat_map}
use Rattle.list_words.specs.Lists.{up_to, keep, nonzero, turned}
use Rattle.solids.specs.Solids.{Half}
use Rattle.results.specs.declared.End.{End}
use Rattle.results.specs.Pieces.{pieces}
use Rattle.layouts.specs.declared.Sizes.{Sizes}
use Rattle.vertex_table.specs.Words.{Table, table, end, on_edge, on_facet, of_B, off, flip, turn, others, some_count, Halves}
use Rattle.layouts.specs.Words.{edge_at, against, column, inclusion, columns, Listing}
use Rattle.marks.specs.Words.{marked}
use Rattle.fan_counts.specs.Words.{Composite}

-- ---- crossings in rows: edge e of A is row e, its columns are facets of B; facet f of A is row f behind A's edges, its columns are edges of B

pub record Rows : Type 0 where
  -- where each row starts, and where the last one ends
  pub first : List ℕ
  -- each crossing's column and its inclusion, as one number
  pub crossed : List ℕ
  -- the number of the first crossing in the result
  pub base : ℕ

abbrev pub rows : List ℕ → List ℕ → ℕ → Rows
rows first crossed base = record { first = first; crossed = crossed; base = base }

-- n places, from a on
unfoldable pub span : ℕ → ℕ → List ℕ
span a zero = []
span a (suc n) = a ∷ span (suc a) n

abbrev pub blank : End
blank = record { vertex = 0; count = pos 0 }

-- the crossing at place k: "a vertex's number in the result is how many kept ones are listed before it"
abbrev pub at_place : Rows → ℕ → End
at_place w k = record { vertex = w.base + k; count = inclusion (get_or w.crossed k 0) }

abbrev pub entry : Rows → ℕ → ℕ × End
entry w k = (column (get_or w.crossed k 0), at_place w k)

unfoldable pub in_row : Rows → ℕ → List (ℕ × End)
in_row w r = map (entry w) (span (get_or w.first r 0) (get_or w.first (r + 1) 0 - get_or w.first r 0))

-- what stands in a column; elsewhere nothing crosses
unfoldable pub look : ℕ → List (ℕ × End) → End
look c [] = blank
look c (x ∷ xs) = let r = look c xs in cond (eqb x.0 c) x.1 r

unfoldable pub crossing : Rows → ℕ → ℕ → End
crossing w r c = look c (in_row w r)

-- ---- the table: A's vertices and then B's have an inclusion and a number each

abbrev pub vertex : List ℤ → List ℕ → ℕ → End
vertex inc num i = record { vertex = get_or num i 0; count = get_or inc i (pos 0) }

unfoldable pub ends : Sizes → List ℤ → List ℕ → Rows → List End
ends z inc num w =
    map (vertex inc num) (up_to z.va) ++ (flat_map (λ e. map (crossing w e) (up_to z.fb)) (up_to z.ea)
    ++ (flat_map (λ f. map (crossing w (z.ea + f)) (up_to z.eb)) (up_to z.fa) ++ map (λ i. vertex inc num (z.va + i)) (up_to z.vb)))

abbrev pub dense : Sizes → List ℤ → List ℕ → Rows → Table
dense z inc num w = let es = ends z inc num w in table (map (λ (e : End). e.count) es) (map (λ (e : End). e.vertex) es)

-- ---- what the lists promise

pub record Crossings (z : Sizes) (w : Rows) : Type 0 where
  pub first_long : z.ea + z.fa < length w.first
  pub within : (r : ℕ) → r ≤ z.ea + z.fa → get_or w.first r 0 ≤ length w.crossed
  pub few : w.base + length w.crossed ≤ 1048576

pub record Vertices (z : Sizes) (inc : List ℤ) (num : List ℕ) : Type 0 where
  pub inc_long : z.va + z.vb ≤ length inc
  pub num_long : z.va + z.vb ≤ length num
  pub small : (i : ℕ) → nat_abs (get_or inc i (pos 0)) ≤ 257

pub record Ready (hs : List ℕ) (z : Sizes) (inc : List ℤ) (num : List ℕ) (w : Rows) : Type 0 where
  pub halves : Halves hs z
  pub vertices : Vertices z inc num
  pub crossings : Crossings z w

-- ---- two facets: the same as over the table

abbrev pub a_end : Rows → List ℕ → ℕ → ℕ → End
a_end w hs g h = flip (not (against hs h)) (crossing w (edge_at hs h) g)

abbrev pub b_end : Rows → List ℕ → Sizes → ℕ → ℕ → End
b_end w hs z f h = flip (against hs h) (crossing w (z.ea + f) (edge_at hs h))

unfoldable pub pair_ends : Rows → List ℕ → Sizes → ℕ → ℕ → List End
pair_ends w hs z f g =
    let m = z.fa + g in
    a_end w hs g (3 * f) ∷ a_end w hs g (3 * f + 1) ∷ a_end w hs g (3 * f + 2)
    ∷ b_end w hs z f (3 * m) ∷ b_end w hs z f (3 * m + 1) ∷ b_end w hs z f (3 * m + 2) ∷ []

-- facet x, A's or B's, with facet i of the other solid: the six ends, and the pieces
abbrev pub side_ends : Rows → List ℕ → Sizes → ℕ → ℕ → List End
side_ends w hs z x i = cond (ltb x z.fa) (pair_ends w hs z x i) (pair_ends w hs z i (x - z.fa))

unfoldable pub pair : Rows → List ℕ → Sizes → ℕ → ℕ → List Half
pair w hs z x i = cond (ltb x z.fa) (pieces (pair_ends w hs z x i)) (map turned (pieces (pair_ends w hs z i (x - z.fa))))

unfoldable pub row : Rows → List ℕ → Sizes → ℕ → List Half
row w hs z x = flat_map (pair w hs z x) (up_to (others z x))

-- ---- half-edge h: its edge's start and end (k is 1 or 2), and its crossing with facet i of the other solid

abbrev pub corner_at : List ℕ → Sizes → ℕ → ℕ → ℕ
corner_at hs z h k = cond (ltb h (3 * z.fa)) (get_or hs (3 * h + k) 0) (z.va + get_or hs (3 * h + k) 0)

abbrev pub line_end : Rows → List ℕ → Sizes → ℕ → ℕ → End
line_end w hs z h i = cond (ltb h (3 * z.fa)) (crossing w (edge_at hs h) i) (crossing w (z.ea + i) (edge_at hs h))

abbrev pub line_many : Sizes → ℕ → ℕ
line_many z h = cond (ltb h (3 * z.fa)) z.fb z.fa

-- the first n crossings, behind start and end
unfoldable pub line_ends : List ℤ → List ℕ → Rows → List ℕ → Sizes → ℕ → ℕ → List End
line_ends inc num w hs z h n = off (vertex inc num (corner_at hs z h 1)) ∷ vertex inc num (corner_at hs z h 2) ∷ map (line_end w hs z h) (up_to n)

unfoldable pub half : List ℤ → List ℕ → Rows → List ℕ → Sizes → ℕ → List Half
half inc num w hs z h = turn (against hs h) (pieces (line_ends inc num w hs z h (line_many z h)))

-- ---- composite edges whose pieces can be counted without joining: as many starts as stops, and no vertex has both

pub record Balanced (hs : List ℕ) (z : Sizes) (inc : List ℤ) (num : List ℕ) (w : Rows) : Type 0 where
  pub line : (h : ℕ) → h < 3 * (z.fa + z.fb) → Composite (line_ends inc num w hs z h (line_many z h))
  pub pair : (f g : ℕ) → f < z.fa → g < z.fb → Composite (pair_ends w hs z f g)

-- ---- marks by edge: edge e of A with facet g of B, then edge e of B with facet f of A

abbrev pub line_row : List ℕ → Sizes → ℕ → ℕ
line_row hs z h = cond (ltb h (3 * z.fa)) (edge_at hs h) (z.ea + edge_at hs h)

abbrev pub mark_at : Sizes → ℕ → ℕ → ℕ
mark_at z r c = cond (ltb r z.ea) (256 * r + c) (256 * (z.ea + c) + (r - z.ea))

-- what is not marked does not cross
pub record Edges (z : Sizes) (w : Rows) (l : List ℕ) : Type 0 where
  pub long : 4 * (z.ea + z.eb) ≤ length l
  pub few : length l ≤ 65536
  pub quiet : (r c : ℕ) → r < z.ea + z.fa → marked l (mark_at z r c) ≡ false → crossing w r c ≡ blank

-- ---- behind them marks by facet x, A's or B's, and facet i of the other solid

-- its row
abbrev pub facet_row : Sizes → ℕ → ℕ
facet_row z x = z.ea + z.eb + x

-- what is not marked does not count
pub record Pairs (w : Rows) (hs : List ℕ) (z : Sizes) (l : List ℕ) : Type 0 where
  pub long : 4 * (z.ea + z.eb + z.fa + z.fb) ≤ length l
  pub few : length l ≤ 65536
  pub quiet : (x i : ℕ) → x < z.fa + z.fb → i < others z x → marked l (256 * facet_row z x + i) ≡ false → some_count (side_ends w hs z x i) ≡ false

pub record Marked (hs : List ℕ) (z : Sizes) (w : Rows) (l : List ℕ) : Type 0 where
  pub edges : Edges z w l
  pub pairs : Pairs w hs z l

-- ---- how they are marked

-- what was marked still is
pub record More (old new : List ℕ) : Type 0 where
  pub keeps : (j : ℕ) → marked old j ≡ true → marked new j ≡ true

-- every crossing of row r from its start to place k is marked
pub record Listed (z : Sizes) (first crossed l : List ℕ) (r k : ℕ) : Type 0 where
  pub each : (j : ℕ) → get_or first r 0 ≤ j → j < k → marked l (mark_at z r (column (get_or crossed j 0))) ≡ true

-- facet i of the other solid with facet x, seen from there
abbrev pub mirror : Sizes → ℕ → ℕ → ℕ
mirror z x i = cond (ltb x z.fa) (256 * facet_row z (z.fa + i) + x) (256 * facet_row z i + (x - z.fa))

-- what the first n marks of half-edge h said is marked for its facet x, both ways
pub record Spread (z : Sizes) (hs old l : List ℕ) (x h n : ℕ) : Type 0 where
  pub each : (i : ℕ) → i < n → marked old (256 * line_row hs z h + i) ≡ true → (marked l (256 * facet_row z x + i) ≡ true) × (marked l (mirror z x i) ≡ true)

-- ---- a table that the lists stand for: the same ends, but that a vertex which does not count has any number

abbrev pub tidy : End → End
tidy e = cond (nonzero e.count) e blank

pub record Held (z : Sizes) (inc : List ℤ) (num : List ℕ) (w : Rows) (t : Table) : Type 0 where
  pub own_A : (i : ℕ) → i < z.va → tidy (end t i) ≡ tidy (vertex inc num i)
  pub edge_A : (e g : ℕ) → e < z.ea → g < z.fb → tidy (end t (on_edge z e g)) ≡ crossing w e g
  pub edge_B : (f e : ℕ) → f < z.fa → e < z.eb → tidy (end t (on_facet z f e)) ≡ crossing w (z.ea + f) e
  pub own_B : (i : ℕ) → i < z.vb → tidy (end t (of_B z i)) ≡ tidy (vertex inc num (z.va + i))

-- ---- lists that hold what counts of a table, row by row

abbrev pub slot : Sizes → ℕ → ℕ → ℕ
slot z r c = cond (ltb r z.ea) (on_edge z r c) (on_facet z (r - z.ea) c)

-- a row's columns and inclusions, where those are not 0
abbrev pub found_row : (ℕ → ℤ) → ℕ → List (ℕ × ℤ)
found_row n many = keep (λ (x : ℕ × ℤ). nonzero x.1) (map (λ c. (c, n c)) (up_to many))

abbrev pub row_of : Table → Sizes → ℕ → List (ℕ × ℤ)
row_of t z r = found_row (λ c. (end t (slot z r c)).count) (columns z r)

-- lists that hold them, where what counts has the number of the first crossing and its place
pub record Found (t : Table) (z : Sizes) (w : Rows) : Type 0 where
  pub listing : Listing (row_of t z) (z.ea + z.fa) w.first w.crossed
  pub number : (r c : ℕ) → r < z.ea + z.fa → c < columns z r → nonzero (end t (slot z r c)).count ≡ true
      → (end t (slot z r c)).vertex ≡ w.base + (length (flat_map (row_of t z) (up_to r)) + length (found_row (λ c. (end t (slot z r c)).count) c))
