-- Words of contracts; no public statement needs them. Rows of crossings: what is listed, a row as it is walked, and what the list of
-- crossings holds behind others.
use Rattle.std.specs.Prelude.{◌≡◌, cond, ℕ, ◌+◌, ◌-◌, ◌<◌, ◌≤◌, ltb, ℤ, ◌*ℤ◌, length, take, Result, Ok, Err}
use mathlib.Core.List.{List, map, flat_map, ◌++◌}
use Rattle.list_words.specs.Lists.{up_to, keep, nonzero}
use Rattle.points.specs.declared.Point.{Point}
use Rattle.crossings.specs.Crossings.{count, ef, fe}
use Rattle.solids.specs.Solids.{Solid, facets, edges, edge, facet}
use Rattle.edges.specs.Words.{edge_numbered}
use Rattle.results.specs.Inclusion.{edge_facet, facet_edge}
use Rattle.layouts.specs.Words.{sizes, columns, Listing, unpacked}
use Rattle.bounds.specs.declared.Bounds.{Bounds}
use Rattle.bounds.specs.declared.Thing.{Thing}
use Rattle.bounds.specs.declared.Thing.TheVariants.{Edges, Facets}
use Rattle.bounds.specs.Words.{round_edge, round_facet}
use Rattle.crossing_rows.specs.declared.Full.{Full}
use Rattle.crossing_rows.specs.declared.Row.{Row}
use Rattle.crossing_rows.specs.declared.Row.TheVariants.{OfEdge, OfFacet}

-- ---- the crossings that there are, row by row in listing order

-- edge r of A with facet c of B, or behind A's edges a facet of A with edge c of B
unfoldable pub count_at : Solid → Solid → ℕ → ℕ → ℤ
count_at a b r c =
    cond (ltb r (length (edges a))) (count (edge_facet a b (edge_numbered a r) c)) (count (facet_edge a b (r - length (edges a)) (edge_numbered b c)))

-- those of a row that are not 0, each with its column and its count times s
unfoldable pub row : ℤ → Solid → Solid → ℕ → List (ℕ × ℤ)
row s a b r = keep (λ (x : ℕ × ℤ). nonzero x.1) (map (λ c. (c, s *ℤ count_at a b r c)) (up_to (columns (sizes a b) r)))

abbrev pub rows : Solid → Solid → ℕ
rows a b = length (edges a) + facets a

-- `Full`: there are more than there is room for
abbrev pub Answered : ℤ → Solid → Solid → List ℕ → List ℕ → Result ℕ Full → Type 0
Answered s a b first crossed (Ok total) = (total ≡ length (flat_map (row s a b) (up_to (rows a b)))) × Listing (row s a b) (rows a b) first crossed
Answered s a b first crossed (Err full) = length crossed < length (flat_map (row s a b) (up_to (rows a b)))

-- ---- a row
abbrev pub round : Row → Bounds
round (OfEdge e) = round_edge e
round (OfFacet f) = round_facet f

-- what its columns are
abbrev pub across : Row → Thing
across (OfEdge e) = Facets
across (OfFacet f) = Edges

-- its corners are in P
abbrev pub Lying : (Point → Type 0) → Row → Type 0
Lying P (OfEdge e) = P e.start × P e.end
Lying P (OfFacet f) = P f.p × P f.q × P f.r

unfoldable pub count_of : Row → Solid → ℕ → ℤ
count_of (OfEdge e) b c = count (ef e (facet b c))
count_of (OfFacet f) b c = count (fe f (edge b (edge_numbered b c)))

-- row r of A
unfoldable pub row_of : Solid → ℕ → Row
row_of a r = cond (ltb r (length (edges a))) (OfEdge (edge a (edge_numbered a r))) (OfFacet (facet a (r - length (edges a))))

-- those of some columns whose count is not 0, each with its count times s
abbrev pub crossing : ℤ → (ℕ → ℤ) → List ℕ → List (ℕ × ℤ)
crossing s count columns = keep (λ (x : ℕ × ℤ). nonzero x.1) (map (λ c. (c, s *ℤ count c)) columns)

-- ---- the list of crossings

-- l stands behind the first `from`, which are as they were
pub record Behind (old : List ℕ) (from : ℕ) (l : List (ℕ × ℤ)) (new : List ℕ) (total : ℕ) : Type 0 where
  pub size : total ≡ from + length l
  pub room : total ≤ length new
  pub front : map unpacked (take total new) ≡ map unpacked (take from old) ++ l

abbrev pub Added : List ℕ → ℕ → List (ℕ × ℤ) → List ℕ → Result ℕ Full → Type 0
Added old from l new (Ok total) = Behind old from l new total
Added old from l new (Err full) = length new < from + length l
