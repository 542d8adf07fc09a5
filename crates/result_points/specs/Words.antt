-- Words of contracts; no public statement needs them. The points of the result from the lists that say what is kept: the vertices of A that are not
-- left out, the crossings row by row, the vertices of B that are not left out.
use Rattle.std.specs.Prelude.{cond, ℕ, ◌+◌, Float, ℤ, pos, get_or}
use mathlib.Core.List.{List, [], ◌++◌, flat_map}
use Rattle.list_words.specs.Lists.{up_to, nonzero}
use Rattle.points.specs.Points.{coordinates}
use Rattle.solids.specs.Solids.{Solid, vertices, vertex}
use Rattle.crossing_points.specs.Words.{of_rows}

-- the points of a solid's vertices; vertex i is left out where the number at place from + i is 0
unfoldable pub of_vertices : Solid → List ℤ → ℕ → List Float
of_vertices s inc from = flat_map (λ i. cond (nonzero (get_or inc (from + i) (pos 0))) (coordinates (vertex s i)) []) (up_to (vertices s))

unfoldable pub placed : Solid → Solid → List ℤ → List ℕ → List ℕ → List Float
placed a b inc first crossed = of_vertices a inc 0 ++ (of_rows a b first crossed ++ of_vertices b inc (vertices a))
