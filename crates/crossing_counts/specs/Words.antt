-- Words of contracts; no public statement needs them. Of a crossing of a vertex with an edge only y and z are asked for beyond its count: y by the
-- pairings that it is a lower one of, and z by S of those.
use Rattle.std.specs.Prelude.{Bool, true, false, cond, List, [], ◌∷◌, ℤ, pos, negsuc, neg_ℤ, ◌+ℤ◌}
use Rattle.std.specs.Float.{binary64}
use Rattle.std.specs.Float.Ieee.{le, sub}
use Rattle.list_words.specs.Lists.{nonzero}
use Rattle.points.specs.declared.PointPair.{PointPair}
use Rattle.points.specs.Points.{share, interpolated}
use Rattle.crossings.specs.declared.Crossing.{Crossing}
use Rattle.crossings.specs.declared.Crossing.TheVariants.{Miss, Cross}
use Rattle.crossings.specs.Crossings.{count, points}
use Rattle.crossing_counts.specs.Values.{Slim}
use Rattle.crossing_counts.specs.declared.Sum.{Sum}

abbrev pub slim : Crossing → Slim
slim c = record { n = count c; ay = (points c).a.y; by = (points c).b.y; az = (points c).a.z; bz = (points c).b.z }

-- the two lower pairings of a vertex with an edge: by `rising`, minus that of the start and that of the end, or that of the start and minus that of the end
abbrev pub ends : Bool → PointPair → PointPair → List Crossing
ends true p q = Cross (negsuc 0) p ∷ Cross (pos 1) q ∷ []
ends false p q = Cross (pos 1) p ∷ Cross (negsuc 0) q ∷ []

abbrev pub turned : Slim → Slim
turned c = record { n = neg_ℤ c.n; ay = c.ay; by = c.by; az = c.az; bz = c.bz }

abbrev pub turned_if : Bool → Slim → Slim
turned_if t c = cond t (turned c) c

-- ---- the sum of S by y, the first plus and the first minus, gathered from the last to the first
abbrev pub nothing : Sum
nothing = record { n = pos 0; plus = slim Miss; minus = slim Miss }

unfoldable pub with : Slim → Sum → Sum
with c g =
    cond (nonzero c.n)
    (cond (le c.ay c.by) (record { n = c.n +ℤ g.n; plus = c; minus = g.minus }) (record { n = g.n; plus = g.plus; minus = c }))
    g

unfoldable pub gathered : List Slim → Sum
gathered [] = nothing
gathered (c ∷ cs) = with c (gathered cs)

-- what one adds to the sum
abbrev pub counted : Slim → ℤ
counted c = cond (le c.ay c.by) c.n (pos 0)

-- B at least A, by z, at the points of the crossing that they give
abbrev pub reaches : Sum → Bool
reaches g =
    let p = g.plus in
    let m = g.minus in
    let t = share (sub binary64 p.by p.ay) (sub binary64 m.by m.ay) in
    le (interpolated t p.az m.az) (interpolated t p.bz m.bz)

-- S by z of that crossing
unfoldable pub shade : Sum → ℤ
shade g = cond (nonzero g.n) (cond (reaches g) g.n (pos 0)) (pos 0)

-- ---- the pairings
abbrev pub signed : Bool → ℤ → ℤ
signed along n = cond along n (neg_ℤ n)

unfoldable pub three : Bool → Slim → Bool → Slim → Bool → Slim → ℤ
three tx x ty y tz z = shade (gathered (turned_if tx x ∷ turned_if ty y ∷ turned_if tz z ∷ []))

unfoldable pub four : Slim → Slim → Slim → Slim → ℤ
four s t u v = shade (gathered (turned s ∷ t ∷ turned u ∷ v ∷ []))

-- of a half-edge, whose edge starts and ends at the two the other way round where it runs against it
abbrev pub side_B : Bool → Slim → Slim → Slim → Slim → ℤ
side_B along s t from to = cond along (four s t from to) (neg_ℤ (four s t to from))

abbrev pub side_A : Bool → Slim → Slim → Slim → Slim → ℤ
side_A along from to s t = cond along (four from to s t) (neg_ℤ (four to from s t))
