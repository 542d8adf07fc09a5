-- What the hold keeps: a number held between p and m lies within all bounds that p and m keep, whatever it was before, a NaN too.
-- So a set of points that is given by bounds on coordinates keeps, with two points, every point that is worked out from them.
use mathlib.Core.Path.{◌≡◌, refl}
use mathlib.Core.Logic.{inl, inr}
use mathlib.Core.Bool.{Bool, true, false, ◌&&◌, cond}
use lib.Ieee.{Float, le}
use Rattle.list_words.proofs.Tests.{and_true, or_true}
use Rattle.points.specs.declared.Point.{Point}
use Rattle.points.specs.declared.PointPair.{PointPair}
use Rattle.points.specs.declared.Axis.{Axis}
use Rattle.points.specs.declared.Axis.TheVariants.{X, Y, Z}
use Rattle.points.specs.Points.{coordinate, between, held, interpolated, point_at, pair_at, placed}
use Rattle.points.proofs.Order.{le_trans}

-- low ≤ c ≤ high, so none of the three is a NaN
pub record Within (low high c : Float) : Type 0 where
  pub from : le low c ≡ true
  pub to : le c high ≡ true

pub within_trans : (low p v m high : Float) → le low p ≡ true → le p v ≡ true → le v m ≡ true → le m high ≡ true → Within low high v
within_trans low p v m high a b c d = record { from = le_trans low p v a b; to = le_trans v m high c d }

pub between_within : (low high p m v : Float) → Within low high p → Within low high m → between p m v ≡ true → Within low high v
unfolding between
between_within low high p m v a b h = elim (or_true (le p v && le v m) (le m v && le v p) h) [
  | inl c ↦ let (d, e) = and_true (le p v) (le v m) c in within_trans low p v m high a.from d e b.to
  | inr c ↦ let (d, e) = and_true (le m v) (le v p) c in within_trans low m v p high b.from d e a.to
]

pub held_within : (low high p m v : Float) → Within low high p → Within low high m → Within low high (held p m v)
unfolding held
held_within low high p m v a b = go (between p m v) refl
  where
    go : (w : Bool) → between p m v ≡ w → Within low high (cond w v p)
    go true e = between_within low high p m v a b e
    go false e = a

pub interpolated_within : (low high t p m : Float) → Within low high p → Within low high m → Within low high (interpolated t p m)
unfolding interpolated
interpolated_within low high t p m a b = held_within low high p m _ a b

-- ---- sets of points that the hold does not leave
abbrev pub Held : (Point → Type 0) → Type 0
Held P = (t : Float) (p m : Point) → P p → P m → P (point_at t p m)

-- between two bounds on one axis
abbrev pub Slab : Axis → Float → Float → Point → Type 0
Slab k low high v = Within low high (coordinate k v)

pub slab_held : (k : Axis) (low high : Float) → Held (Slab k low high)
unfolding point_at
slab_held X low high t p m a b = interpolated_within low high t p.x m.x a b
slab_held Y low high t p m a b = interpolated_within low high t p.y m.y a b
slab_held Z low high t p m a b = interpolated_within low high t p.z m.z a b

-- between two bounds on all three
pub record InBox (low high v : Point) : Type 0 where
  pub on_x : Slab X low.x high.x v
  pub on_y : Slab Y low.y high.y v
  pub on_z : Slab Z low.z high.z v

pub box_held : (low high : Point) → Held (InBox low high)
box_held low high t p m a b =
    record {
      on_x = slab_held X low.x high.x t p m a.on_x b.on_x;
      on_y = slab_held Y low.y high.y t p m a.on_y b.on_y;
      on_z = slab_held Z low.z high.z t p m a.on_z b.on_z;
    }

-- any point, where only the other solid's points are spoken of
abbrev pub Anywhere : Point → Type 0
Anywhere v = Unit {0}

pub anywhere_held : Held Anywhere
anywhere_held t p m a b = tt

-- ---- a pair of points: A's in P, B's in Q
abbrev pub PairIn : (Point → Type 0) → (Point → Type 0) → PointPair → Type 0
PairIn P Q w = P w.a × Q w.b

module _ (P Q : Point → Type 0) (held_P : Held P) (held_Q : Held Q) (plus minus : PointPair) (a : PairIn P Q plus) (b : PairIn P Q minus) where
  pub pair_in : (t : Float) → PairIn P Q (pair_at t plus minus)
  unfolding pair_at
  pair_in t = (held_P t plus.a minus.a a.0 b.0, held_Q t plus.b minus.b a.1 b.1)

  pub placed_in : (k : Axis) → PairIn P Q (placed k plus minus)
  unfolding placed
  placed_in k = pair_in _
