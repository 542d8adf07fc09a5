-- Request 2026-02, shown: what the box of an accepted row is, and which points it contains.
use mathlib.Core.Path.{◌≡◌, refl, ap, ◌∙◌}
use mathlib.Core.Bool.{false, cond}
use mathlib.Core.List.{List, [], ◌∷◌}
use Prim.Native.Nat.{ℕ}
use lib.IntN.{pos}
use lib.Ieee.{Float, is_nan}
use Rattle.points.specs.declared.Point.{Point}
use Rattle.points.specs.declared.Axis.{Axis}
use Rattle.points.specs.declared.Axis.TheVariants.{X, Y, Z}
use Rattle.points.specs.Points.{coordinate}
use Rattle.solids.specs.Refusals.{Verdict, accepted, nobody, answer, answer_of, no_refusal, given, in_order}
use Rattle.std.specs.Prelude.{Ok, Err}
use Rattle.solids.specs.Admission.{point_admission}
use Rattle.solids.specs.Containment.{count_as_B}
use Rattle.solids.proofs.Admitted.{point_passed}
use Rattle.solids.proofs.Checks.{all_accepted}
use Rattle.solids.proofs.Limit.{near_number}
use Rattle.housefile.specs.Reader.{too_short}
use Rattle.housefile.proofs.Refusals.{in_order_numbered, given_numbered}
use Rattle.housefile.proofs.RoundTrip.{solid_back}
use Rattle.outage_rows.specs.Row.{row}
use Rattle.outage_rows.specs.Bounds.{bounds}
use Rattle.outage_rows.specs.Boxed.{boxing, check_row, box_of, boxed}
use Rattle.outage_rows.specs.Boxes.{Boxes, inside, solid_boxed}
use Rattle.outage_rows.proofs.Computing.{the_rule}
use Rattle.outage_rows.proofs.Contains.{box_count}
use Rattle.outage_rows.proofs.Open.{blank_if_open}
use Rattle.outage_rows.proofs.Refusals.{row_numbered}
use Rattle.outage_rows.proofs.Rows.{fine, admitted}

-- ---- answer 0 is given for no refusal
module _ (bs : List ℕ) where
  abbrev checks : List Float → List ℕ → List Verdict
  checks ps cs = check_row bs ∷ given (answer_of 8) (too_short ps cs (box_of bs)) ∷ []

  given_box : (ps : List Float) (cs : List ℕ) → (boxed bs ps cs).answer.number ≡ 0 → (check_row bs ≡ accepted) × (solid_boxed (boxed bs ps cs) ≡ box_of bs)
  unfolding the_rule boxed answer
  given_box ps cs z =
      let a = in_order_numbered (checks ps cs) (row_numbered bs, (given_numbered 7 nobody 0 (too_short ps cs (box_of bs)), tt)) (told (in_order (checks ps cs)) z) in (
        (all_accepted (checks ps cs) a).0,
        ap (λ v. solid_boxed (boxing v (row bs).unit (box_of bs) ps cs)) a ∙ solid_back 0 (box_of bs) ps cs refl refl,
      )
    where
      told : (v : Verdict) → (boxing v (row bs).unit (box_of bs) ps cs).answer.number ≡ 0 → (answer v).number ≡ 0
      told (Ok u) e = refl
      told (Err a) e = e

-- ---- an admitted point
there : (v : Point) → point_admission v ≡ accepted → (k : Axis) → is_nan (coordinate k v) ≡ false
there v e = let (x, (y, (z, end))) = (point_passed v e).present in λ k. elim k as (λ j. is_nan (coordinate j v) ≡ false) [ X ↦ x | Y ↦ y | Z ↦ z ]

contains : (bs : List ℕ) → check_row bs ≡ accepted → (v : Point) → point_admission v ≡ accepted
    → count_as_B v (box_of bs) ≡ record { answer = no_refusal; count = cond (inside (bounds (row bs)) v) (pos 1) (pos 0) }
unfolding count_as_B in_order
contains bs e v p =
    let h = fine bs e in
    rw (p, admitted _ h) (λ j. record { answer = no_refusal; count = box_count v (there v p) (bounds (row bs)) (λ w k. near_number _ (h.near w k)) h.up j })

pub boxes : Boxes
unfolding the_rule
boxes = record { blank_if_open = blank_if_open; box_given = given_box; box_admitted = λ bs e. admitted _ (fine bs e); box_contains = contains; box_facets = λ b. refl }
