-- Words of contracts; no public statement needs them. How the sizes, half-edges and crossings of two solids lie in lists.
use Rattle.std.specs.Prelude.{◌≡◌, Bool, not, cond, ◌≤◌, ℕ, ◌+◌, ◌*◌, ◌/◌, ◌%◌, zero, suc, ◌<◌, length, get_or, take, eqb, ltb, ℤ, pos, negsuc}
use mathlib.Core.List.{List, [], ◌∷◌, ◌++◌, flat_map, map}
use Rattle.list_words.specs.Lists.{before, one_if, up_to}
use Rattle.solids.specs.Solids.{Solid, vertices, facets, edges, Half, same_half, half_edges, along, edge_of}
use Rattle.layouts.specs.declared.Sizes.{Sizes}

-- ---- how many vertices, edges and facets two solids have

abbrev pub sizes : Solid → Solid → Sizes
sizes a b = record { va = vertices a; ea = length (edges a); fa = facets a; vb = vertices b; eb = length (edges b); fb = facets b }

-- of admitted solids
pub record Sized (z : Sizes) : Type 0 where
  pub va : z.va ≤ 128
  pub ea : z.ea ≤ 384
  pub fa : z.fa ≤ 256
  pub vb : z.vb ≤ 128
  pub eb : z.eb ≤ 384
  pub fb : z.fb ≤ 256

-- ---- half-edges: those of two solids in one list, three numbers each, A's first

-- an edge's number is its place in the list of edges
abbrev pub edge_number : Solid → Half → ℕ
edge_number s e = length (before same_half e (edges s))

-- twice its edge's number, and 1 more if it runs against it; the edge's start; its end
abbrev pub half_first : Solid → Half → ℕ
half_first s h = 2 * edge_number s (edge_of h) + one_if (not (along h))

abbrev pub half_numbers : Solid → Half → List ℕ
half_numbers s h = half_first s h ∷ (edge_of h).0 ∷ (edge_of h).1 ∷ []

unfoldable pub half_list : Solid → List ℕ
half_list s = flat_map (half_numbers s) (half_edges s)

unfoldable pub halves : Solid → Solid → List ℕ
halves a b = half_list a ++ half_list b

-- ---- what the list says of half-edge h: its edge, and whether it runs against it

abbrev pub edge_at : List ℕ → ℕ → ℕ
edge_at hs h = get_or hs (3 * h) 0 / 2

abbrev pub against : List ℕ → ℕ → Bool
against hs h = eqb (get_or hs (3 * h) 0 % 2) 1

-- ---- a crossing that counts, its column and its inclusion, as one number

-- -2, -1, 1, 2 are 0, 1, 2, 3
abbrev pub code : ℤ → ℕ
code (negsuc (suc n)) = 0
code (negsuc zero) = 1
code (pos zero) = 0
code (pos (suc zero)) = 2
code (pos (suc (suc n))) = 3

unfoldable pub packed : ℕ × ℤ → ℕ
packed x = 4 * x.0 + code x.1

unfoldable pub column : ℕ → ℕ
column x = x / 4

unfoldable pub inclusion : ℕ → ℤ
inclusion x = cond (eqb (x % 4) 3) (pos 2) (cond (eqb (x % 4) 2) (pos 1) (cond (eqb (x % 4) 1) (negsuc 0) (negsuc 1)))

-- ---- rows: edge e of A is row e, and its columns are facets of B; facet f of A is row f behind A's edges, and its columns are edges of B. One list
-- says where each row starts, and where the last one ends; another has the crossings

abbrev pub columns : Sizes → ℕ → ℕ
columns z r = cond (ltb r z.ea) z.fb z.eb

-- lists of crossings whose columns are there
pub record Columns (z : Sizes) (first crossed : List ℕ) : Type 0 where
  pub sized : Sized z
  pub first_long : z.ea + z.fa < length first
  pub within : (r : ℕ) → r ≤ z.ea + z.fa → get_or first r 0 ≤ length crossed
  pub column : (r k : ℕ) → r < z.ea + z.fa → get_or first r 0 ≤ k → k < get_or first (r + 1) 0 → column (get_or crossed k 0) < columns z r

abbrev pub unpacked : ℕ → ℕ × ℤ
unpacked x = (column x, inclusion x)

-- the lists' fronts hold n rows of columns and inclusions, and each starts where those before it end
pub record Listing (row : ℕ → List (ℕ × ℤ)) (n : ℕ) (first crossed : List ℕ) : Type 0 where
  pub starts : (r : ℕ) → r ≤ n → get_or first r 0 ≡ length (flat_map row (up_to r))
  pub room : length (flat_map row (up_to n)) ≤ length crossed
  pub front : map unpacked (take (length (flat_map row (up_to n))) crossed) ≡ flat_map row (up_to n)
