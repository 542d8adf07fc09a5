-- Document 01, "Solids and admission": the checks on one solid, by number, and those on a point; with 2026-01, which splits 5 into 10 and 11 and says
-- where.
use Rattle.std.specs.Prelude.{ℕ, ◌%◌, ◌≡◌, Bool, false, not, ◌||◌, List, [], ◌∷◌, length, leb, ltb, eqb, pos, Float}
use Rattle.std.specs.Float.{fin}
use Rattle.std.specs.Float.Ieee.{lt, neg, is_nan}
use Rattle.list_words.specs.Lists.{any, turned}
use Rattle.points.specs.declared.Point.{Point}
use Rattle.points.specs.Points.{coordinates}
use Rattle.solids.specs.declared.Answer.{Answer}
use Rattle.solids.specs.Refusals.{Verdict, answer, on_solid, on_point, given, in_order, at_each}
use Rattle.solids.specs.Solids.{Solid, Half, vertices, facets, vertex, corner, facet_half_edges, half_edges, number_of, pairs}

-- 1: "a list's length is not a multiple of three"
unfoldable pub uneven : Solid → Bool
uneven s = not (eqb (length s.points % 3) 0) || not (eqb (length s.corners % 3) 0)

unfoldable pub check_lengths : Solid → Verdict
check_lengths s = given (on_solid 1 0) (uneven s)

-- 2: "more than 128 vertices or 256 facets"
unfoldable pub too_many : Solid → Bool
too_many s = ltb 128 (vertices s) || ltb 256 (facets s)

unfoldable pub check_sizes : Solid → Verdict
check_sizes s = given (on_solid 2 0) (too_many s)

-- 3: "some coordinate is a NaN (a blank)", told with "the first blank .. vertex"
abbrev pub blank : Point → Bool
blank v = any is_nan (coordinates v)

unfoldable pub check_blanks : Solid → Verdict
check_blanks s = at_each (vertices s) (λ i. given (on_solid 3 i) (blank (vertex s i)))

-- 4: "some coordinate is above 1,048,576 or below -1,048,576, infinities included", told with the first such vertex. The limit is 1 · 2 ^ 20
abbrev pub limit : Float
limit = fin false 1 (pos 20)

unfoldable pub beyond : Float → Bool
beyond x = lt limit x || lt x (neg limit)

abbrev pub out_of_range : Point → Bool
out_of_range v = any beyond (coordinates v)

unfoldable pub check_limit : Solid → Verdict
check_limit s = at_each (vertices s) (λ i. given (on_solid 4 i) (out_of_range (vertex s i)))

-- 10: "a corner number is not below the vertex count"
unfoldable pub too_high : ℕ → ℕ → ℕ → ℕ → Bool
too_high n p q r = leb n p || leb n q || leb n r

abbrev pub high : Solid → ℕ → Bool
high s f = too_high (vertices s) (corner s f 0) (corner s f 1) (corner s f 2)

-- 11: "a facet names a vertex twice"
unfoldable pub named_twice : ℕ → ℕ → ℕ → Bool
named_twice p q r = eqb p q || eqb q r || eqb r p

abbrev pub twice : Solid → ℕ → Bool
twice s f = named_twice (corner s f 0) (corner s f 1) (corner s f 2)

-- "a facet being tested for 10 first; the lower facet number wins"
unfoldable pub check_facet : Solid → ℕ → Verdict
check_facet s f = in_order (given (on_solid 10 f) (high s f) ∷ given (on_solid 11 f) (twice s f) ∷ [])

unfoldable pub check_corners : Solid → Verdict
check_corners s = at_each (facets s) (check_facet s)

-- 6: "for some P and Q the half-edges P→Q and Q→P differ in number"
unfoldable pub differ : List Half → Half → Bool
differ hs h = not (eqb (number_of h hs) (number_of (turned h) hs))

-- "a facet with a half-edge whose two directions differ in number"
abbrev pub unmatched : Solid → ℕ → Bool
unmatched s f = any (differ (half_edges s)) (facet_half_edges s f)

unfoldable pub check_half_edges : Solid → ℕ → Verdict
check_half_edges s f = given (on_solid 6 f) (unmatched s f)

-- told with the first such facet: crates/solids/specs/Places.antt says that there is one
unfoldable pub check_closure : Solid → Verdict
check_closure s =
    given (on_solid 6 (answer (at_each (facets s) (check_half_edges s))).place) (any (differ (half_edges s)) (pairs (vertices s)))

-- "Checks on one solid, in this order"
unfoldable pub admission : Solid → Verdict
admission s =
    in_order (check_lengths s ∷ check_sizes s ∷ check_blanks s ∷ check_limit s ∷ check_corners s ∷ check_closure s ∷ [])

-- what the call promises of its verdict v, and for C of its answer r
abbrev pub Judged : Solid → Verdict → Type 0
Judged s v = v ≡ admission s

abbrev pub Admit : Solid → Answer → Type 0
Admit s r = r ≡ answer (admission s)

-- "A point count checks the point by 3 and 4"
unfoldable pub point_admission : Point → Verdict
point_admission v = in_order (given (on_point 3) (blank v) ∷ given (on_point 4) (out_of_range v) ∷ [])

-- what the call promises of its verdict r
abbrev pub AdmitPoint : Point → Verdict → Type 0
AdmitPoint v r = r ≡ point_admission v
