-- Demand 3: of every crossing, and of the result that `operation` defines, for any two admitted solids and any operation, with room.
use Rattle.std.specs.Prelude.{◌≡◌, ◌≢◌, false, ℕ, ◌<◌, ◌≤◌, ℤ, pos, ◌+ℤ◌, Float, Some}
use mathlib.Core.List.{List, [], ◌∷◌, Memᴰ}
use Rattle.std.specs.Float.Ieee.{is_nan}
use Rattle.list_words.specs.Lists.{turned}
use Rattle.solids.specs.Refusals.{accepted}
use Rattle.solids.specs.Solids.{Solid, Half, vertices, facets, corner, half_edges, number_of, edges}
use Rattle.solids.specs.Admission.{beyond, admission}
use Rattle.results.specs.declared.Operation.{Operation}
use Rattle.results.specs.declared.Operation.TheVariants.{Intersection, Difference}
use Rattle.results.specs.Inclusion.{Key, vA, eAfB, fAeB, vB, chosen, inclusion}
use Rattle.results.specs.Pieces.{SignedEnd, ends_of_eA}
use Rattle.results.specs.Triangles.{Result, result}
use Rattle.results.specs.Operation.{Lent, too_short, success, operation}
use Rattle.robust.specs.LowerPoints.{LowerPoints}

-- a result as a solid: its origins set aside
abbrev pub solid_of : Result → Solid
solid_of r = record { points = r.points; corners = r.corners }

-- "every triangle has three different corners", each below the vertex count
pub record ThreeCorners (s : Solid) (t : ℕ) : Type 0 where
  pub below_0 : corner s t 0 < vertices s
  pub below_1 : corner s t 1 < vertices s
  pub below_2 : corner s t 2 < vertices s
  pub apart_01 : corner s t 0 ≢ corner s t 1
  pub apart_12 : corner s t 1 ≢ corner s t 2
  pub apart_20 : corner s t 2 ≢ corner s t 0

-- three lists of ends with the same keys in the same order, and in the third the sum of the other two's counts
abbrev pub AddUp : List SignedEnd → List SignedEnd → List SignedEnd → Type 0
AddUp [] [] [] = Unit {0}
AddUp [] [] (r ∷ rs) = ⊥
AddUp [] (q ∷ qs) rs = ⊥
AddUp (p ∷ ps) [] rs = ⊥
AddUp (p ∷ ps) (q ∷ qs) [] = ⊥
AddUp (p ∷ ps) (q ∷ qs) (r ∷ rs) = (p.key ≡ r.key) × (q.key ≡ r.key) × (p.count +ℤ q.count ≡ r.count) × AddUp ps qs rs

-- "that edge's own two ends": as if A's vertices were all there is. So -1 at the start, 1 at the end, 0 at each crossing
abbrev pub own : Key → ℤ
own (vA i) = pos 1
own (eAfB e f) = pos 0
own (fAeB f e) = pos 0
own (vB i) = pos 0

-- of the result of an operation on A and B
pub record RobustResult (code : ℕ) (op : Operation) (a b : Solid) : Type 0 where
  -- it is the result that the call gives, with room
  pub given : (l : Lent) → too_short l (result op a b) ≡ false → operation code a b l ≡ success (result op a b) l
  -- "each step P→Q in the result is met by as many Q→P"
  pub closed : (h : Half) → number_of h (half_edges (solid_of (result op a b))) ≡ number_of (turned h) (half_edges (solid_of (result op a b)))
  pub corners : (t : ℕ) → t < facets (solid_of (result op a b)) → ThreeCorners (solid_of (result op a b)) t
  -- "every coordinate is within the limit"
  pub present : (x : Float) → Memᴰ x (result op a b).points → is_nan x ≡ false
  pub within : (x : Float) → Memᴰ x (result op a b).points → beyond x ≡ false
  -- "so the result is admitted wherever its sizes are"
  pub admitted :
      vertices (solid_of (result op a b)) ≤ 128 → facets (solid_of (result op a b)) ≤ 256 → admission (solid_of (result op a b)) ≡ accepted
  -- "For each edge of A, the signed ends kept by difference and by intersection add up, vertex by vertex and crossing by crossing"
  pub ends :
      (e : Half) → Memᴰ e (edges a)
      → AddUp (ends_of_eA (inclusion Difference a b) b e) (ends_of_eA (inclusion Intersection a b) b e) (ends_of_eA own b e)

-- the whole of demand 3
pub record Robust : Type 0 where
  pub lower_points : LowerPoints
  -- "For any two admitted solids and any operation"
  pub of_result :
      (code : ℕ) (op : Operation) → chosen code ≡ Some op → (a b : Solid) → admission a ≡ accepted → admission b ≡ accepted → RobustResult code op a b
