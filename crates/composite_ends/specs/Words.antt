-- Words of contracts; no public statement needs them. What is kept of two solids, in the words of its lists: the rows of crossings, the table that they stand
-- for, what stands where on a composite edge, and the pieces and triangles that this makes.
use Rattle.std.specs.Prelude.{ℕ, ◌+◌, ◌*◌, ◌<◌}
use mathlib.Core.List.{List}
use Rattle.solids.specs.Solids.{Half}
use Rattle.results.specs.declared.End.{End}
use Rattle.results.specs.Triangles.{Triangle}
use Rattle.vertex_table.specs.Words as T
use Rattle.kept_lists.specs.Words as K
use Rattle.composite_ends.specs.declared.Crossed.{Crossed}
use Rattle.composite_ends.specs.declared.Kept.{Kept}

abbrev pub rows_of : Crossed → K.Rows
rows_of c = K.rows c.first.now c.crossed.now c.plan.base

abbrev pub dense_of : Kept → T.Table
dense_of k = K.dense k.crossings.plan.sizes k.inc.now k.num.now (rows_of k.crossings)

-- h is a half-edge, x a facet, and i a facet of the other solid
abbrev pub IsHalf : Crossed → ℕ → Type 0
IsHalf c h = h < 3 * (c.plan.sizes.fa + c.plan.sizes.fb)

abbrev pub IsFacet : Crossed → ℕ → Type 0
IsFacet c x = x < c.plan.sizes.fa + c.plan.sizes.fb

abbrev pub IsOther : Crossed → ℕ → ℕ → Type 0
IsOther c x i = i < T.others c.plan.sizes x

-- ---- ends of the crossings

abbrev pub line_end_of : Crossed → ℕ → ℕ → End
line_end_of c h i = K.line_end (rows_of c) c.halves.now c.plan.sizes h i

abbrev pub a_end_of : Crossed → ℕ → ℕ → End
a_end_of c g h = K.a_end (rows_of c) c.halves.now g h

abbrev pub b_end_of : Crossed → ℕ → ℕ → End
b_end_of c f h = K.b_end (rows_of c) c.halves.now c.plan.sizes f h

abbrev pub pair_ends_of : Crossed → ℕ → ℕ → List End
pair_ends_of c f g = K.pair_ends (rows_of c) c.halves.now c.plan.sizes f g

abbrev pub side_ends_of : Crossed → ℕ → ℕ → List End
side_ends_of c x i = K.side_ends (rows_of c) c.halves.now c.plan.sizes x i

-- ---- and of the edges

abbrev pub vertex_of : Kept → ℕ → End
vertex_of k i = K.vertex k.inc.now k.num.now i

abbrev pub start_of : Kept → ℕ → End
start_of k h = vertex_of k (K.corner_at k.crossings.halves.now k.crossings.plan.sizes h 1)

abbrev pub stop_of : Kept → ℕ → End
stop_of k h = vertex_of k (K.corner_at k.crossings.halves.now k.crossings.plan.sizes h 2)

abbrev pub line_ends_of : Kept → ℕ → List End
line_ends_of k h = let c = k.crossings in K.line_ends k.inc.now k.num.now (rows_of c) c.halves.now c.plan.sizes h (K.line_many c.plan.sizes h)

-- ---- pieces and triangles

abbrev pub pair_of : Crossed → ℕ → ℕ → List Half
pair_of c x i = K.pair (rows_of c) c.halves.now c.plan.sizes x i

abbrev pub row_of : Crossed → ℕ → List Half
row_of c x = K.row (rows_of c) c.halves.now c.plan.sizes x

abbrev pub half_of : Kept → ℕ → List Half
half_of k h = K.half k.inc.now k.num.now (rows_of k.crossings) k.crossings.halves.now k.crossings.plan.sizes h

abbrev pub round_of : Kept → ℕ → List Half
round_of k x = T.round (dense_of k) k.crossings.halves.now k.crossings.plan.sizes x

abbrev pub boundary_of : Kept → ℕ → List Half
boundary_of k x = T.boundary (dense_of k) k.crossings.halves.now k.crossings.plan.sizes x

abbrev pub fan_of : Kept → ℕ → List Triangle
fan_of k x = T.fan_of (dense_of k) k.crossings.halves.now k.crossings.plan.sizes x

abbrev pub triangles_of : Kept → List Triangle
triangles_of k = T.triangles (dense_of k) k.crossings.halves.now k.crossings.plan.sizes

-- ---- what is asked beside it

-- facets that are not marked have no pieces with each other
abbrev pub Pairs : Kept → Type 0
Pairs k = K.Pairs (rows_of k.crossings) k.crossings.halves.now k.crossings.plan.sizes k.marks.now

-- its composite edges can be counted without joining
abbrev pub Balanced : Kept → Type 0
Balanced k = K.Balanced k.crossings.halves.now k.crossings.plan.sizes k.inc.now k.num.now (rows_of k.crossings)
