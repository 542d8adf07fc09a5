-- A box that holds a point: what is joined to a box keeps it, and takes nothing from it. None of the coordinates is a NaN.
use mathlib.Core.Path.{◌≡◌, refl}
use mathlib.Core.Bool.{Bool, true, false, cond}
use lib.Ieee.{Float, le, is_nan}
use Rattle.points.specs.declared.Point.{Point}
use Rattle.points.specs.declared.Axis.{Axis}
use Rattle.points.specs.declared.Axis.TheVariants.{X, Y, Z}
use Rattle.points.specs.Points.{coordinate}
use Rattle.points.proofs.Order.{le_trans, le_self, le_of_lt, not_le, left_number, right_number}
use Rattle.points.proofs.Hold.{Slab}
use Rattle.crossings.specs.declared.Edge.{Edge}
use Rattle.crossings.specs.declared.Facet.{Facet}
use Rattle.crossings.proofs.Each.{InEdge, InFacet}
use Rattle.bounds.specs.declared.Bounds.{Bounds}
use Rattle.bounds.specs.Words.{lower, higher, lowest, highest, dot, joined, round_edge, round_facet}

-- ---- two numbers
lower_left : (a b v : Float) → is_nan b ≡ false → le a v ≡ true → le (lower a b) v ≡ true
unfolding lower
lower_left a b v n h = go (le a b) refl
  where
    go : (w : Bool) → le a b ≡ w → le (cond w a b) v ≡ true
    go true e = h
    go false e = le_trans b a v (le_of_lt b a (not_le b a n (left_number a v h) e)) h

lower_right : (a b v : Float) → le b v ≡ true → le (lower a b) v ≡ true
unfolding lower
lower_right a b v h = go (le a b) refl
  where
    go : (w : Bool) → le a b ≡ w → le (cond w a b) v ≡ true
    go true e = le_trans a b v e h
    go false e = h

higher_left : (a b v : Float) → le v a ≡ true → le v (higher a b) ≡ true
unfolding higher
higher_left a b v h = go (le a b) refl
  where
    go : (w : Bool) → le a b ≡ w → le v (cond w b a) ≡ true
    go true e = le_trans v a b h e
    go false e = h

higher_right : (a b v : Float) → is_nan a ≡ false → le v b ≡ true → le v (higher a b) ≡ true
unfolding higher
higher_right a b v n h = go (le a b) refl
  where
    go : (w : Bool) → le a b ≡ w → le v (cond w b a) ≡ true
    go true e = h
    go false e = le_trans v b a h (le_of_lt b a (not_le b a (right_number v b h) n e))

lower_number : (a b : Float) → is_nan a ≡ false → is_nan b ≡ false → is_nan (lower a b) ≡ false
unfolding lower
lower_number a b m n = go (le a b)
  where
    go : (w : Bool) → is_nan (cond w a b) ≡ false
    go true = m
    go false = n

higher_number : (a b : Float) → is_nan a ≡ false → is_nan b ≡ false → is_nan (higher a b) ≡ false
unfolding higher
higher_number a b m n = go (le a b)
  where
    go : (w : Bool) → is_nan (cond w b a) ≡ false
    go true = n
    go false = m

-- ---- points
abbrev pub Number : Point → Type 0
Number v = (k : Axis) → is_nan (coordinate k v) ≡ false

at_lowest : (k : Axis) (p q : Point) → coordinate k (lowest p q) ≡ lower (coordinate k p) (coordinate k q)
unfolding lowest
at_lowest X p q = refl
at_lowest Y p q = refl
at_lowest Z p q = refl

at_highest : (k : Axis) (p q : Point) → coordinate k (highest p q) ≡ higher (coordinate k p) (coordinate k q)
unfolding highest
at_highest X p q = refl
at_highest Y p q = refl
at_highest Z p q = refl

-- ---- boxes
abbrev pub In : Bounds → Point → Type 0
In b v = (k : Axis) → Slab k (coordinate k b.low) (coordinate k b.high) v

-- its sides are numbers
pub record Sound (b : Bounds) : Type 0 where
  pub low : Number b.low
  pub high : Number b.high

pub dot_in : (v : Point) → Number v → In (dot v) v
dot_in v n k = record { from = le_self (coordinate k v) (n k); to = le_self (coordinate k v) (n k) }

pub dot_sound : (v : Point) → Number v → Sound (dot v)
dot_sound v n = record { low = n; high = n }

module _ (a b : Bounds) where
  pub joined_left : Sound b → (v : Point) → In a v → In (joined a b) v
  unfolding joined
  joined_left s v h k =
      record {
        from = rw (at_lowest k a.low b.low) (lower_left (coordinate k a.low) (coordinate k b.low) (coordinate k v) (s.low k) (h k).from);
        to = rw (at_highest k a.high b.high) (higher_left (coordinate k a.high) (coordinate k b.high) (coordinate k v) (h k).to);
      }

  pub joined_right : Sound a → (v : Point) → In b v → In (joined a b) v
  unfolding joined
  joined_right s v h k =
      record {
        from = rw (at_lowest k a.low b.low) (lower_right (coordinate k a.low) (coordinate k b.low) (coordinate k v) (h k).from);
        to = rw (at_highest k a.high b.high) (higher_right (coordinate k a.high) (coordinate k b.high) (coordinate k v) (s.high k) (h k).to);
      }

  pub joined_sound : Sound a → Sound b → Sound (joined a b)
  unfolding joined
  joined_sound s t =
      record {
        low = λ k. rw (at_lowest k a.low b.low) (lower_number (coordinate k a.low) (coordinate k b.low) (s.low k) (t.low k));
        high = λ k. rw (at_highest k a.high b.high) (higher_number (coordinate k a.high) (coordinate k b.high) (s.high k) (t.high k));
      }

-- ---- edges and facets
module _ (e : Edge) (n : InEdge Number e) where
  pub sound_round_edge : Sound (round_edge e)
  unfolding round_edge
  sound_round_edge = joined_sound (dot e.start) (dot e.end) (dot_sound e.start n.0) (dot_sound e.end n.1)

  pub in_round_edge : InEdge (In (round_edge e)) e
  unfolding round_edge
  in_round_edge = (
    joined_left (dot e.start) (dot e.end) (dot_sound e.end n.1) e.start (dot_in e.start n.0),
    joined_right (dot e.start) (dot e.end) (dot_sound e.start n.0) e.end (dot_in e.end n.1),
  )

module _ (f : Facet) (n : InFacet Number f) where
  two : Bounds
  two = joined (dot f.p) (dot f.q)

  sound_two : Sound two
  unfolding two
  sound_two = joined_sound (dot f.p) (dot f.q) (dot_sound f.p n.0) (dot_sound f.q n.1)

  pub sound_round_facet : Sound (round_facet f)
  unfolding round_facet two
  sound_round_facet = joined_sound two (dot f.r) sound_two (dot_sound f.r n.2)

  pub in_round_facet : InFacet (In (round_facet f)) f
  unfolding round_facet two
  in_round_facet =
      let third = dot_sound f.r n.2 in (
        joined_left two (dot f.r) third f.p (joined_left (dot f.p) (dot f.q) (dot_sound f.q n.1) f.p (dot_in f.p n.0)),
        joined_left two (dot f.r) third f.q (joined_right (dot f.p) (dot f.q) (dot_sound f.p n.0) f.q (dot_in f.q n.1)),
        joined_right two (dot f.r) sound_two f.r (dot_in f.r n.2),
      )
