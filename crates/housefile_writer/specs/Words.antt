-- Words of contracts between functions of this crate; no public statement needs them. The vertices and the facets of a file that is written, and what is answered.
use mathlib.Core.List.{List, flat_map}
use Rattle.std.specs.Prelude.{ℕ, Result, Ok, Err}
use Rattle.list_words.specs.Lists.{up_to}
use Rattle.solids.specs.Solids.{Solid, vertices, facets, vertex, corner}
use Rattle.solids.specs.declared.Answer.{Answer}
use Rattle.housefile.specs.declared.Written.{Written}
use Rattle.housefile.specs.declared.Record.TheVariants.{Vx, Fc}
use Rattle.housefile.specs.Records.{encoded}
use Rattle.housefile.specs.Writer.{nothing_written}

unfoldable pub vertex_part : Solid → List ℕ
vertex_part s = flat_map (λ i. encoded (Vx (vertex s i))) (up_to (vertices s))

unfoldable pub facet_part : Solid → List ℕ
facet_part s = flat_map (λ f. encoded (Fc (corner s f 0) (corner s f 1) (corner s f 2))) (up_to (facets s))

abbrev pub answered : Result Written Answer → Written
answered (Ok r) = r
answered (Err a) = nothing_written a
