-- Request 2026-02, as a statement: what the box of an accepted row is, and which points it contains. Proved in proofs/Boxes.antt.
use Rattle.std.specs.Prelude.{ℕ, ◌*◌, ◌≡◌, Bool, ◌&&◌, cond, take, pos, Float}
use mathlib.Core.List.{List, [], ◌∷◌, Memᴰ}
use Rattle.std.specs.Float.Ieee.{lt, le, is_nan}
use Rattle.list_words.specs.Lists.{every}
use Rattle.points.specs.declared.Point.{Point}
use Rattle.points.specs.Points.{coordinate}
use Rattle.solids.specs.Refusals.{accepted, no_refusal}
use Rattle.solids.specs.Solids.{Solid, solid}
use Rattle.solids.specs.Admission.{admission, point_admission}
use Rattle.solids.specs.Containment.{count_as_B}
use Rattle.outage_rows.specs.declared.Bound.{Bound}
use Rattle.outage_rows.specs.declared.Span.{Span}
use Rattle.outage_rows.specs.Row.{row}
use Rattle.outage_rows.specs.Bounds.{bounds_of, bounds, axes}
use Rattle.outage_rows.specs.Box.{box}
use Rattle.outage_rows.specs.Boxed.{Boxing, check_row, box_of, boxed}

-- "low < c and c <= high on each axis"
unfoldable pub inside : Span → Point → Bool
inside b v = every (λ k. lt (coordinate k b.low) (coordinate k v) && le (coordinate k v) (coordinate k b.high)) axes

-- the solid that stands in the fronts of the lent lists after a call
abbrev pub solid_boxed : Boxing → Solid
solid_boxed r = solid (take (3 * r.vertices) r.points) (take (3 * r.facets) r.corners)

pub record Boxes : Type 0 where
  -- no blank is taken for open, and nothing open has a value: in an accepted row a bound is blank exactly if its flag is set
  pub blank_if_open : (bs : List ℕ) → check_row bs ≡ accepted → (b : Bound) → Memᴰ b (bounds_of (row bs)) → is_nan b.value ≡ b.flag
  -- a call that answers 0 was given an accepted row, and leaves its box
  pub box_given : (bs : List ℕ) (ps : List Float) (cs : List ℕ) → (boxed bs ps cs).answer.number ≡ 0
      → (check_row bs ≡ accepted) × (solid_boxed (boxed bs ps cs) ≡ box_of bs)
  pub box_admitted : (bs : List ℕ) → check_row bs ≡ accepted → admission (box_of bs) ≡ accepted
  -- "as B it contains a point once exactly if low < c and c <= high on each axis, and otherwise not at all"
  pub box_contains : (bs : List ℕ) → check_row bs ≡ accepted → (v : Point) → point_admission v ≡ accepted
      → count_as_B v (box_of bs) ≡ record { answer = no_refusal; count = cond (inside (bounds (row bs)) v) (pos 1) (pos 0) }
  -- the twelve facets that the rule gives
  pub box_facets : (b : Span) → (box b).corners
      ≡ 0 ∷ 6 ∷ 2 ∷ 0 ∷ 4 ∷ 6
      ∷ 1 ∷ 3 ∷ 7 ∷ 1 ∷ 7 ∷ 5
      ∷ 0 ∷ 1 ∷ 5 ∷ 0 ∷ 5 ∷ 4
      ∷ 2 ∷ 7 ∷ 3 ∷ 2 ∷ 6 ∷ 7
      ∷ 0 ∷ 3 ∷ 1 ∷ 0 ∷ 2 ∷ 3
      ∷ 4 ∷ 5 ∷ 7 ∷ 4 ∷ 7 ∷ 6
      ∷ []
