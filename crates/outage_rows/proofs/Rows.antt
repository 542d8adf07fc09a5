-- What an accepted row gives: six bounds within the limit, on each axis the low one below the high one. And that a box of such bounds is admitted.
use mathlib.Core.Path.{◌≡◌, refl, sym, ◌∙◌}
use mathlib.Core.Bool.{Bool, true, false, not, ◌&&◌, cond, true≢false}
use mathlib.Core.List.{List}
use Prim.Native.Nat.{ℕ}
use lib.ListN.{length}
use lib.Dec.{eqb}
use lib.Ieee.{Float, le, lt, neg, is_nan}
use borrow.Author.Tests.{eqb-true}
use Rattle.list_words.specs.Lists.{up_to, any, times}
use Rattle.list_words.proofs.Sums.{All, all_mono, all_flat_map}
use Rattle.list_words.proofs.Tests.{not_false, or-false, any_false, false_any}
use Rattle.list_words.proofs.UpTo.{all_up_to}
use Rattle.numbers.specs.Numbers.{number, number_at, bit}
use Rattle.points.specs.declared.Axis.{Axis}
use Rattle.points.specs.declared.Axis.TheVariants.{X, Y, Z}
use Rattle.points.specs.Points.{coordinate, coordinates}
use Rattle.solids.specs.Refusals.{accepted, in_order}
use Rattle.solids.specs.Solids.{vertices, vertex, half_edges, pairs}
use Rattle.solids.specs.Admission.{limit, beyond, uneven, too_many, too_high, named_twice, differ, check_blanks, check_limit, check_facet, check_corners, check_closure, admission}
use Rattle.solids.proofs.Admitted.{by_vertex}
use Rattle.solids.proofs.Checks.{given_none}
use Rattle.solids.proofs.Limit.{Near, near, near_number, near_within}
use Rattle.solids.proofs.Orders.{last_6}
use Rattle.outage_rows.specs.declared.Bound.{Bound}
use Rattle.outage_rows.specs.declared.Span.{Span}
use Rattle.outage_rows.specs.Row.{mark_RW, flags, row, no_row}
use Rattle.outage_rows.specs.Bounds.{missing, too_far, low_bound, high_bound, bounds, axes, not_below}
use Rattle.outage_rows.specs.Box.{digit, corner_coordinate, corner_point, box}
use Rattle.outage_rows.specs.Boxed.{check_row}
use Rattle.outage_rows.proofs.Computing.{the_rule}
use Rattle.outage_rows.proofs.Contains.{end}
use Rattle.outage_rows.proofs.Refusals.{passed}

pub record Fine (b : Span) : Type 0 where
  pub near : (w : Bool) (k : Axis) → Near (coordinate k (end b w))
  pub up : (k : Axis) → lt (coordinate k b.low) (coordinate k b.high) ≡ true

-- ---- one bound: neither blank without its flag nor too far
near_limit : Near limit
unfolding le lt neg
near_limit = record { from = refl; to = refl }

near_low_limit : Near (neg limit)
unfolding le lt neg
near_low_limit = record { from = refl; to = refl }

near_if : (w : Bool) (x y : Float) → Near x → (w ≡ false → Near y) → Near (cond w x y)
near_if true x y h k = h
near_if false x y h k = k refl

near_value : (b : Bound) → missing b ≡ false → too_far b ≡ false → b.flag ≡ false → Near b.value
unfolding missing
near_value b no_3 no_4 e = near b.value (go (is_nan b.value) b.flag no_3 e) no_4
  where
    go : (blank flag : Bool) → blank && not flag ≡ false → flag ≡ false → blank ≡ false
    go true true e f = absurd (true≢false f)
    go true false e f = e
    go false flag e f = refl

-- whichever limit stands for an open bound
near_bound : (b : Bound) → missing b ≡ false → too_far b ≡ false → Near (low_bound b) × Near (high_bound b)
unfolding low_bound high_bound
near_bound b no_3 no_4 = (
  near_if b.flag _ b.value (search (near_limit, near_low_limit)) (near_value b no_3 no_4),
  near_if b.flag _ b.value (search (near_limit, near_low_limit)) (near_value b no_3 no_4),
)

-- ---- a row
pub whole : (bs : List ℕ) → no_row bs ≡ false → length bs ≡ 53
unfolding no_row
whole bs e =
    let (e6, no_7) = or-false _ (bit 7 (flags bs)) e in
    let (em, no_6) = or-false _ (bit 6 (flags bs)) e6 in
    eqb-true (length bs) 53 (not_false _ (or-false _ (not (eqb (number_at 0 2 bs) (number mark_RW))) em).0)

pub fine : (bs : List ℕ) → check_row bs ≡ accepted → Fine (bounds (row bs))
unfolding bounds not_below
fine bs e =
    let r = row bs in
    let h = passed bs e in
    let (a0, (a1, (a2, (a3, (a4, (a5, end3)))))) = any_false missing _ h.no_3 in
    let (b0, (b1, (b2, (b3, (b4, (b5, end4)))))) = any_false too_far _ h.no_4 in
    let (ux, (uy, (uz, end13))) = any_false _ axes h.no_13 in
    record {
      near = λ w k. elim w as (λ u. Near (coordinate k (end (bounds r) u))) [
        | true ↦ elim k as (λ j. Near (coordinate j (bounds r).high)) [ X ↦ (near_bound r.x.high a1 b1).1 | Y ↦ (near_bound r.y.high a3 b3).1 | Z ↦ (near_bound r.z.high a5 b5).1 ]
        | false ↦ elim k as (λ j. Near (coordinate j (bounds r).low)) [ X ↦ (near_bound r.x.low a0 b0).0 | Y ↦ (near_bound r.y.low a2 b2).0 | Z ↦ (near_bound r.z.low a4 b4).0 ]
      ];
      up = λ k. elim k as (λ j. lt (coordinate j (bounds r).low) (coordinate j (bounds r).high) ≡ true) [ X ↦ not_false _ ux | Y ↦ not_false _ uy | Z ↦ not_false _ uz ];
    }

-- ---- the box of fine bounds
module _ (b : Span) (h : Fine b) where
  near_corner : (n : ℕ) (k : Axis) → Near (corner_coordinate b n k)
  near_corner n k = go (eqb (digit k n) 1)
    where
      go : (w : Bool) → Near (cond w (coordinate k b.high) (coordinate k b.low))
      go true = h.near true k
      go false = h.near false k

  near_points : All Near (box b).points
  unfolding box
  near_points =
      all_flat_map Near (λ n. coordinates (corner_point b n)) (up_to 8)
      (all_up_to _ 8 (λ n l. (near_corner n X, (near_corner n Y, (near_corner n Z, tt)))))

  none : (p : Float → Bool) → ((x : Float) → Near x → p x ≡ false) → any (λ i. any p (coordinates (vertex (box b) i))) (up_to (vertices (box b))) ≡ false
  unfolding the_rule
  none p near_not = sym (by_vertex (box b) p refl) ∙ false_any p (box b).points (all_mono Near (λ x. p x ≡ false) (box b).points near_not near_points)

  no_3 : check_blanks (box b) ≡ accepted
  unfolding check_blanks
  no_3 = given_none _ _ (vertices (box b)) (none is_nan near_number)

  no_4 : check_limit (box b) ≡ accepted
  unfolding check_limit
  no_4 = given_none _ _ (vertices (box b)) (none beyond near_within)

  -- the lengths, the corners and the half-edges are computed
  pub admitted : admission (box b) ≡ accepted
  unfolding the_rule uneven too_many check_facet check_corners check_closure in_order too_high named_twice differ any half_edges pairs times
  admitted = last_6 (box b) refl refl no_3 no_4 refl accepted refl
