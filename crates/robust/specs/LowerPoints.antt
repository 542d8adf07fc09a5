-- "Every crossing but that of two vertices has the two lower points it is worked out from."
use Rattle.std.specs.Prelude.{◌≡◌, ◌≢◌, true, false, List, pos}
use Rattle.points.specs.declared.Point.{Point}
use Rattle.points.specs.declared.Axis.{Axis}
use Rattle.points.specs.declared.Axis.TheVariants.{X, Y, Z}
use Rattle.points.specs.Points.{placed}
use Rattle.crossings.specs.declared.Edge.{Edge}
use Rattle.crossings.specs.declared.Facet.{Facet}
use Rattle.crossings.specs.declared.Crossing.{Crossing}
use Rattle.crossings.specs.declared.Crossing.TheVariants.{Miss}
use Rattle.crossings.specs.Crossings.{count, points, lies, first, ve, ev, vf, fv, ee, ef, fe, lower_ve, lower_ev, lower_vf, lower_fv, lower_ee, lower_ef, lower_fe}

-- c is worked out from its lower pairings: the first plus is a crossing with B at least A, the first minus one with B below A, neither has count 0,
-- and c's two points are those placed between these two. c itself, which is no miss, has not count 0 either
pub record WorkedOut (k : Axis) (lower : List Crossing) (c : Crossing) : Type 0 where
  pub crosses : count c ≢ pos 0
  pub plus : lies k true (first k true lower) ≡ true
  pub plus_crosses : count (first k true lower) ≢ pos 0
  pub minus : lies k false (first k false lower) ≡ true
  pub minus_crosses : count (first k false lower) ≢ pos 0
  pub between : points c ≡ placed k (points (first k true lower)) (points (first k false lower))

-- for all points, edges and facets, whatever their numbers are
pub record LowerPoints : Type 0 where
  pub of_ve : (v : Point) (e : Edge) → ve v e ≢ Miss → WorkedOut X (lower_ve v e) (ve v e)
  pub of_ev : (e : Edge) (v : Point) → ev e v ≢ Miss → WorkedOut X (lower_ev e v) (ev e v)
  pub of_vf : (v : Point) (f : Facet) → vf v f ≢ Miss → WorkedOut Y (lower_vf v f) (vf v f)
  pub of_fv : (f : Facet) (v : Point) → fv f v ≢ Miss → WorkedOut Y (lower_fv f v) (fv f v)
  pub of_ee : (a b : Edge) → ee a b ≢ Miss → WorkedOut Y (lower_ee a b) (ee a b)
  pub of_ef : (e : Edge) (f : Facet) → ef e f ≢ Miss → WorkedOut Z (lower_ef e f) (ef e f)
  pub of_fe : (f : Facet) (e : Edge) → fe f e ≢ Miss → WorkedOut Z (lower_fe f e) (fe f e)
