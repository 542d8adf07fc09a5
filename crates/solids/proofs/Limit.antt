-- Within the limit: what checks 3 and 4 say of one coordinate, and so of a vertex.
use mathlib.Core.Path.{◌≡◌, refl, sym, ◌∙◌}
use mathlib.Core.Bool.{false}
use mathlib.Core.List.{List, [], ◌∷◌}
use Prim.Native.Nat.{ℕ, zero, suc}
use lib.ListN.{get_or}
use lib.Ieee.{Float, le, lt, neg, is_nan}
use Rattle.list_words.proofs.Sums.{All}
use Rattle.list_words.proofs.Tests.{or-false, not_false}
use Rattle.points.specs.declared.Point.{Point}
use Rattle.points.specs.Points.{zero_number, coordinates}
use Rattle.points.proofs.Order.{right_number, lt_not_le}
use Rattle.points.proofs.Hold.{Within, Held, InBox, box_held}
use Rattle.solids.specs.Solids.{Solid, vertex}
use Rattle.solids.specs.Admission.{limit, beyond}

abbrev pub Near : Float → Type 0
Near x = Within (neg limit) limit x

limit_number : is_nan limit ≡ false
unfolding is_nan
limit_number = refl

low_number : is_nan (neg limit) ≡ false
unfolding is_nan neg
low_number = refl

pub near : (x : Float) → is_nan x ≡ false → beyond x ≡ false → Near x
unfolding beyond
near x n e =
    let r = or-false (lt limit x) (lt x (neg limit)) e in
    record {
      from = not_false (le (neg limit) x) (sym (lt_not_le x (neg limit) n low_number) ∙ r.1);
      to = not_false (le x limit) (sym (lt_not_le limit x limit_number n) ∙ r.0);
    }

pub near_number : (x : Float) → Near x → is_nan x ≡ false
near_number x h = right_number (neg limit) x h.from

pub near_within : (x : Float) → Near x → beyond x ≡ false
unfolding beyond
near_within x h =
    rw (lt_not_le limit x limit_number (near_number x h), lt_not_le x (neg limit) (near_number x h) low_number, h.from, h.to)

near_zero : Near zero_number
unfolding le lt neg
near_zero = record { from = refl; to = refl }

-- ---- points
abbrev lowest : Point
lowest = record { x = neg limit; y = neg limit; z = neg limit }

abbrev highest : Point
highest = record { x = limit; y = limit; z = limit }

abbrev pub Limited : Point → Type 0
Limited v = InBox lowest highest v

pub limited_held : Held Limited
limited_held = box_held lowest highest

pub limited_coordinates : (v : Point) → Limited v → All Near (coordinates v)
limited_coordinates v h = (h.on_x, (h.on_y, (h.on_z, tt)))

near_get_or : (xs : List Float) → All Near xs → (i : ℕ) → Near (get_or xs i zero_number)
near_get_or [] h i = near_zero
near_get_or (x ∷ xs) h zero = h.0
near_get_or (x ∷ xs) h (suc i) = near_get_or xs h.1 i

-- of every number, also beyond the list: what stands there is 0
pub limited_vertex : (s : Solid) → All Near s.points → (i : ℕ) → Limited (vertex s i)
limited_vertex s h i = record { on_x = near_get_or s.points h _; on_y = near_get_or s.points h _; on_z = near_get_or s.points h _ }
