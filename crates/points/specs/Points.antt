-- Document 01, "Crossing counts": a point's coordinates, the one test "B at least A", and the points worked out from plus and minus.
-- `sub`, `mul` and `div` of lib.Ieee are f64's, "each of these operations rounded once"; `le` is f64's comparison, false at a NaN.
use Rattle.std.specs.Prelude.{Bool, false, ◌&&◌, ◌||◌, cond, List, [], ◌∷◌, pos, Float}
use Rattle.std.specs.Float.{fin, binary64}
use Rattle.std.specs.Float.Ieee.{le, sub, mul, div}
use Rattle.points.specs.declared.Point.{Point}
use Rattle.points.specs.declared.PointPair.{PointPair}
use Rattle.points.specs.declared.Axis.{Axis}
use Rattle.points.specs.declared.Axis.TheVariants.{X, Y, Z}

abbrev pub coordinate : Axis → Point → Float
coordinate X v = v.x
coordinate Y v = v.y
coordinate Z v = v.z

-- a point's three numbers as they stand in a solid's list
abbrev pub coordinates : Point → List Float
coordinates v = v.x ∷ v.y ∷ v.z ∷ []

-- "B's coordinate at the pair of points is at least A's"
unfoldable pub at_least : Axis → PointPair → Bool
at_least k w = le (coordinate k w.a) (coordinate k w.b)

-- "D+ and D- as B's coordinate less A's"
unfoldable pub gap : Axis → PointPair → Float
gap k w = sub binary64 (coordinate k w.b) (coordinate k w.a)

-- "t = D+ / (D+ - D-)"
unfoldable pub share : Float → Float → Float
share plus minus = div binary64 plus (sub binary64 plus minus)

-- does v lie "between p and m, ends included"
unfoldable pub between : Float → Float → Float → Bool
between p m v = (le p v && le v m) || (le m v && le v p)

-- "If the number lies between p and m, ends included, it stands; otherwise p is taken."
unfoldable pub held : Float → Float → Float → Float
held p m v = cond (between p m v) v p

-- "Each coordinate of A's point is p - t*(p - m)"
unfoldable pub interpolated : Float → Float → Float → Float
interpolated t p m = held p m (sub binary64 p (mul binary64 t (sub binary64 p m)))

unfoldable pub point_at : Float → Point → Point → Point
point_at t p m = record { x = interpolated t p.x m.x; y = interpolated t p.y m.y; z = interpolated t p.z m.z }

-- "with p and m from A's plus and minus points; B's likewise"
unfoldable pub pair_at : Float → PointPair → PointPair → PointPair
pair_at t plus minus = record { a = point_at t plus.a minus.a; b = point_at t plus.b minus.b }

unfoldable pub placed : Axis → PointPair → PointPair → PointPair
placed k plus minus = pair_at (share (gap k plus) (gap k minus)) plus minus

-- What stands where no number or point is given. No admitted solid and no crossing is ever asked for it.
abbrev pub zero_number : Float
zero_number = fin false 0 (pos 0)

abbrev pub zero_point : Point
zero_point = record { x = zero_number; y = zero_number; z = zero_number }

abbrev pub zero_pair : PointPair
zero_pair = record { a = zero_point; b = zero_point }
