-- Words of contracts; no public statement needs them. The points of the crossings that the lists have, row by row.
use Rattle.std.specs.Prelude.{cond, ℕ, ◌+◌, ◌-◌, ltb, Float, length, get_or}
use mathlib.Core.List.{List, flat_map}
use Rattle.list_words.specs.Lists.{up_to}
use Rattle.points.specs.declared.Point.{Point}
use Rattle.points.specs.Points.{coordinates}
use Rattle.crossings.specs.Crossings.{points, ef, fe}
use Rattle.solids.specs.Solids.{Solid, facets, edges, edge, facet}
use Rattle.edges.specs.Words.{edge_numbered}
use Rattle.results.specs.Inclusion.{Key, eAfB, fAeB, place}
use Rattle.layouts.specs.Words.{column}
use Rattle.crossing_rows.specs.declared.Row.{Row}
use Rattle.crossing_rows.specs.declared.Row.TheVariants.{OfEdge, OfFacet}

-- edge r of A with facet c of B, or behind A's edges a facet of A with edge c of B
unfoldable pub key_at : Solid → Solid → ℕ → ℕ → Key
key_at a b r c = cond (ltb r (length (edges a))) (eAfB (edge_numbered a r) c) (fAeB (r - length (edges a)) (edge_numbered b c))

-- the points of the crossings at the places from `from` to before `to`, of one row
unfoldable pub stretch : (ℕ → Point) → List ℕ → ℕ → ℕ → List Float
stretch point crossed from to = flat_map (λ i. coordinates (point (column (get_or crossed (from + i) 0)))) (up_to (to - from))

unfoldable pub of_row : Solid → Solid → List ℕ → List ℕ → ℕ → List Float
of_row a b first crossed r = stretch (λ c. place a b (key_at a b r c)) crossed (get_or first r 0) (get_or first (r + 1) 0)

unfoldable pub of_rows : Solid → Solid → List ℕ → List ℕ → List Float
of_rows a b first crossed = flat_map (of_row a b first crossed) (up_to (length (edges a) + facets a))

-- ---- a row by itself, as the code has it

-- how many columns it has with B
unfoldable pub width : Row → Solid → ℕ
width (OfEdge e) b = facets b
width (OfFacet f) b = length (edges b)

-- its point in column c: A's
unfoldable pub point_on : Row → Solid → ℕ → Point
point_on (OfEdge e) b c = (points (ef e (facet b c))).a
point_on (OfFacet f) b c = (points (fe f (edge b (edge_numbered b c)))).a
