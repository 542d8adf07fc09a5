-- Words of contracts; no public statement needs them. Boxes, by themselves and in a list of six numbers each.
use Rattle.std.specs.Prelude.{◌≡◌, Bool, false, ◌||◌, cond, not, List, [], ◌∷◌, ℕ, zero, suc, ◌+◌, ◌*◌, ◌<◌, ◌≤◌, Float, length, get_or, take}
use Rattle.std.specs.Float.Ieee.{le, lt, is_nan, neg}
use Rattle.std.specs.Float.{nan}
use Rattle.list_words.specs.Lists.{keep}
use Rattle.points.specs.declared.Point.{Point}
use Rattle.points.specs.declared.Axis.{Axis}
use Rattle.points.specs.declared.Axis.TheVariants.{X, Y, Z}
use Rattle.points.specs.Points.{coordinate}
use Rattle.crossings.specs.declared.Edge.{Edge}
use Rattle.crossings.specs.declared.Facet.{Facet}
use Rattle.solids.specs.Solids.{Solid, solid, vertices, facets, edges, vertex, edge, facet}
use Rattle.solids.specs.Admission.{limit}
use Rattle.edges.specs.Words.{edge_numbered}
use Rattle.bounds.specs.declared.Bounds.{Bounds}
use Rattle.bounds.specs.declared.Far.{Far}
use Rattle.bounds.specs.declared.Far.TheVariants.{Apart, Below, Above}
use Rattle.bounds.specs.declared.Thing.{Thing}
use Rattle.bounds.specs.declared.Thing.TheVariants.{Edges, Facets}

-- ---- boxes round points, whether two are apart, and which are left out for what lies in one

unfoldable pub lower : Float → Float → Float
lower a b = cond (le a b) a b

unfoldable pub higher : Float → Float → Float
higher a b = cond (le a b) b a

unfoldable pub lowest : Point → Point → Point
lowest p q = record { x = lower p.x q.x; y = lower p.y q.y; z = lower p.z q.z }

unfoldable pub highest : Point → Point → Point
highest p q = record { x = higher p.x q.x; y = higher p.y q.y; z = higher p.z q.z }

-- no coordinate is a blank
abbrev pub Present : Point → Type 0
Present v = (k : Axis) → is_nan (coordinate k v) ≡ false

-- the box of one point, and the box round two boxes
abbrev pub dot : Point → Bounds
dot v = record { low = v; high = v }

unfoldable pub joined : Bounds → Bounds → Bounds
joined a b = record { low = lowest a.low b.low; high = highest a.high b.high }

unfoldable pub round_edge : Edge → Bounds
round_edge e = joined (dot e.start) (dot e.end)

unfoldable pub round_facet : Facet → Bounds
round_facet f = joined (joined (dot f.p) (dot f.q)) (dot f.r)

-- the one ends before the other begins, by one axis
unfoldable pub apart_on : Axis → Bounds → Bounds → Bool
apart_on k a b = lt (coordinate k a.high) (coordinate k b.low) || lt (coordinate k b.high) (coordinate k a.low)

-- by x or y
unfoldable pub beside : Bounds → Bounds → Bool
beside a b = apart_on X a b || apart_on Y a b

-- by x, y or z
unfoldable pub apart : Bounds → Bounds → Bool
apart a b = beside a b || apart_on Z a b

-- b is left out for what lies in a: by any axis, or by x, y and one way of z
unfoldable pub far : Far → Bounds → Bounds → Bool
far Apart a b = apart a b
far Below a b = beside a b || lt b.high.z a.low.z
far Above a b = beside a b || lt a.high.z b.low.z

-- ---- the boxes of a solid's edges or facets, the box round all its vertices, and which boxes are near another

abbrev pub many : Thing → Solid → ℕ
many Edges s = length (edges s)
many Facets s = facets s

unfoldable pub box_of : Thing → Solid → ℕ → Bounds
box_of Edges s i = round_edge (edge s (edge_numbered s i))
box_of Facets s i = round_facet (facet s i)

-- a box that ends before it begins, so that what is joined to it stands
abbrev pub nowhere : Bounds
nowhere = record { low = record { x = limit; y = limit; z = limit }; high = record { x = neg limit; y = neg limit; z = neg limit } }

-- the box round n boxes, from number `from` on
unfoldable pub span : (ℕ → Bounds) → ℕ → ℕ → Bounds
span box from zero = nowhere
span box from (suc n) = joined (span box from n) (box (from + n))

-- round points of a list, and round all vertices of a solid
abbrev pub hull : List Float → ℕ → ℕ → Bounds
hull points from n = span (λ i. dot (vertex (solid points []) i)) from n

abbrev pub whole : Solid → Bounds
whole s = hull s.points 0 (vertices s)

-- ---- in a list
abbrev pub six : Bounds → List Float
six b = b.low.x ∷ b.low.y ∷ b.low.z ∷ b.high.x ∷ b.high.y ∷ b.high.z ∷ []

abbrev pub box_at : List Float → ℕ → Bounds
box_at l i =
    record {
      low = record { x = get_or l (6 * i) nan; y = get_or l (6 * i + 1) nan; z = get_or l (6 * i + 2) nan };
      high = record { x = get_or l (6 * i + 3) nan; y = get_or l (6 * i + 4) nan; z = get_or l (6 * i + 5) nan };
    }

-- the box of each edge or facet, at its number
pub record Boxed (boxes : List Float) (t : Thing) (s : Solid) : Type 0 where
  pub room : 6 * many t s ≤ length boxes
  pub own : (c : ℕ) → c < many t s → box_at boxes c ≡ box_of t s c

-- ---- columns: numbers of edges or facets
pub record Among (columns : List ℕ) (t : Thing) (s : Solid) : Type 0 where
  pub few : length columns ≤ 384
  pub there : (k : ℕ) → k < length columns → get_or columns k 0 < many t s

-- those whose boxes are not far from b
unfoldable pub near_to : Far → Bounds → (ℕ → Bounds) → List ℕ → List ℕ
near_to w b box columns = keep (λ c. not (far w b (box c))) columns

-- they are the first k of a list
pub record Narrowed (few : List ℕ) (w : Far) (b : Bounds) (box : ℕ → Bounds) (columns : List ℕ) (k : ℕ) : Type 0 where
  pub fits : k ≤ length columns
  pub room : k ≤ length few
  pub front : take k few ≡ near_to w b box columns
