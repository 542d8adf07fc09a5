-- Request 2026-02: the box solid of six bounds, by the request's rule.
use Rattle.std.specs.Prelude.{ℕ, ◌/◌, ◌%◌, Bool, cond, get_or, eqb, ltb, ℤ, pos, ◌-ℤ◌, ◌*ℤ◌, Float}
use mathlib.Core.List.{List, [], ◌∷◌, ◌++◌, flat_map}
use Rattle.list_words.specs.Lists.{up_to, keep, above, below}
use Rattle.points.specs.declared.Point.{Point}
use Rattle.points.specs.declared.Axis.{Axis}
use Rattle.points.specs.declared.Axis.TheVariants.{X, Y, Z}
use Rattle.points.specs.Points.{coordinate, coordinates}
use Rattle.solids.specs.Solids.{Solid, solid}
use Rattle.outage_rows.specs.declared.Span.{Span}
use Rattle.outage_rows.specs.Bounds.{axes}

-- ---- "numbers its corners by x + 2y + 4z with 1 for high"

abbrev pub weight : Axis → ℕ
weight X = 1
weight Y = 2
weight Z = 4

-- a corner's x, y or z in that sum
abbrev pub digit : Axis → ℕ → ℕ
digit k n = n / weight k % 2

abbrev pub corner_coordinate : Span → ℕ → Axis → Float
corner_coordinate b n k = cond (eqb (digit k n) 1) (coordinate k b.high) (coordinate k b.low)

abbrev pub corner_point : Span → ℕ → Point
corner_point b n = record { x = corner_coordinate b n X; y = corner_coordinate b n Y; z = corner_coordinate b n Z }

-- ---- "Faces come low before high for x, y, z"

-- an axis, and 0 for the low face or 1 for the high one
abbrev pub Face : Type 0
Face = Axis × ℕ

unfoldable pub faces : List Face
faces = flat_map (λ k. (k, 0) ∷ (k, 1) ∷ []) axes

-- its four corners, the lowest first
unfoldable pub face_corners : Face → List ℕ
face_corners f = keep (λ n. eqb (digit f.0 n) f.1) (up_to 8)

-- ---- "each turned outward and starting at its lowest corner"

abbrev pub next : Axis → Axis
next X = Y
next Y = Z
next Z = X

-- the way from corner p to corner q, on an axis
abbrev pub way : Axis → ℕ → ℕ → ℤ
way k p q = pos (digit k q) -ℤ pos (digit k p)

-- on axis k, the cross product of the ways from p to q and from p to r
abbrev pub normal : Axis → ℕ → ℕ → ℕ → ℤ
normal k p q r = way (next k) p q *ℤ way (next (next k)) p r -ℤ way (next (next k)) p q *ℤ way (next k) p r

-- it points up from a high face, and down from a low one
abbrev pub outward : Face → ℕ → ℕ → ℕ → Bool
outward f p q r = let n = normal f.0 p q r in cond (eqb f.1 1) (ltb 0 (above n)) (ltb 0 (below n))

unfoldable pub triangle : Face → ℕ → ℕ → ℕ → List ℕ
triangle f p q r = cond (outward f p q r) (p ∷ q ∷ r ∷ []) (p ∷ r ∷ q ∷ [])

-- "each is cut by the diagonal through its lowest corner, the triangle with the face's second-lowest corner first": the diagonal ends at the highest
unfoldable pub cut : Face → List ℕ
cut f =
    let c : ℕ → ℕ = λ i. get_or (face_corners f) i 0 in
    triangle f (c 0) (c 1) (c 3) ++ triangle f (c 0) (c 2) (c 3)

unfoldable pub box : Span → Solid
box b = solid (flat_map (λ n. coordinates (corner_point b n)) (up_to 8)) (flat_map cut faces)
