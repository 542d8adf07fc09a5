-- "Refusals: 9 (also for flag bits 6 and 7), 3, 4, then 12 (flag set, value present), 13 (low not below high), and last 8.": what `boxed` gives, refusal
-- by refusal, whatever else is wrong. Then what acceptance says.
use mathlib.Core.Path.{◌≡◌}
use mathlib.Core.Bool.{true, false}
use mathlib.Core.List.{List}
use Prim.Native.Nat.{ℕ}
use lib.Ieee.{Float}
use Rattle.list_words.specs.Lists.{any, onto}
use Rattle.solids.specs.Refusals.{accepted, nobody, answer, answer_of, no_refusal, in_order}
use Rattle.solids.specs.Solids.{vertices, facets}
use Rattle.solids.proofs.Checks.{all_accepted, not_given}
use Rattle.housefile.specs.Reader.{too_short}
use Rattle.housefile.proofs.Refusals.{in_order_numbered, given_numbered}
use Rattle.outage_rows.specs.Row.{row, no_row}
use Rattle.outage_rows.specs.Bounds.{bounds_of, missing, too_far, present, bounds, not_below}
use Rattle.outage_rows.specs.Boxed.{Boxing, check_row, box_of, boxed}

module _ (bs : List ℕ) (ps : List Float) (cs : List ℕ) where
  -- zero counts, and the lent lists as they were
  abbrev pub refusal : ℕ → Boxing
  refusal n = record { answer = answer_of n; vertices = 0; facets = 0; unit = 0; points = ps; corners = cs }

  pub first_9 : no_row bs ≡ true → boxed bs ps cs ≡ refusal 9
  unfolding boxed check_row in_order
  first_9 e = rw e

  module _ (no_9 : no_row bs ≡ false) where
    pub then_3 : any missing (bounds_of (row bs)) ≡ true → boxed bs ps cs ≡ refusal 3
    unfolding boxed check_row in_order
    then_3 e = rw (no_9, e)

    module _ (no_3 : any missing (bounds_of (row bs)) ≡ false) where
      pub then_4 : any too_far (bounds_of (row bs)) ≡ true → boxed bs ps cs ≡ refusal 4
      unfolding boxed check_row in_order
      then_4 e = rw (no_9, no_3, e)

      module _ (no_4 : any too_far (bounds_of (row bs)) ≡ false) where
        pub then_12 : any present (bounds_of (row bs)) ≡ true → boxed bs ps cs ≡ refusal 12
        unfolding boxed check_row in_order
        then_12 e = rw (no_9, no_3, no_4, e)

        module _ (no_12 : any present (bounds_of (row bs)) ≡ false) where
          pub then_13 : not_below (bounds (row bs)) ≡ true → boxed bs ps cs ≡ refusal 13
          unfolding boxed check_row in_order
          then_13 e = rw (no_9, no_3, no_4, no_12, e)

          module _ (no_13 : not_below (bounds (row bs)) ≡ false) where
            pub last_8 : too_short ps cs (box_of bs) ≡ true → boxed bs ps cs ≡ refusal 8
            unfolding boxed check_row in_order
            last_8 e = rw (no_9, no_3, no_4, no_12, no_13, e)

            pub else_boxed : too_short ps cs (box_of bs) ≡ false
                → boxed bs ps cs
                ≡ record {
                  answer = no_refusal;
                  vertices = vertices (box_of bs);
                  facets = facets (box_of bs);
                  unit = (row bs).unit;
                  points = onto (box_of bs).points ps;
                  corners = onto (box_of bs).corners cs;
                }
            unfolding boxed check_row in_order
            else_boxed e = rw (no_9, no_3, no_4, no_12, no_13, e)

-- ---- what an accepted row has passed
pub record Passed (bs : List ℕ) : Type 0 where
  pub no_9 : no_row bs ≡ false
  pub no_3 : any missing (bounds_of (row bs)) ≡ false
  pub no_4 : any too_far (bounds_of (row bs)) ≡ false
  pub no_12 : any present (bounds_of (row bs)) ≡ false
  pub no_13 : not_below (bounds (row bs)) ≡ false

pub passed : (bs : List ℕ) → check_row bs ≡ accepted → Passed bs
unfolding check_row
passed bs e =
    let (c9, (c3, (c4, (c12, (c13, end))))) = all_accepted _ e in
    record { no_9 = not_given _ _ c9; no_3 = not_given _ _ c3; no_4 = not_given _ _ c4; no_12 = not_given _ _ c12; no_13 = not_given _ _ c13 }

-- ---- no check of a row refuses with the number 0
pub row_numbered : (bs : List ℕ) → (answer (check_row bs)).number ≡ 0 → check_row bs ≡ accepted
unfolding check_row
row_numbered bs =
    let r = row bs in
    in_order_numbered _ (
      given_numbered 8 nobody 0 (no_row bs),
      (
        given_numbered 2 nobody 0 (any missing (bounds_of r)),
        (
          given_numbered 3 nobody 0 (any too_far (bounds_of r)),
          (given_numbered 11 nobody 0 (any present (bounds_of r)), (given_numbered 12 nobody 0 (not_below (bounds r)), tt)),
        ),
      ),
    )
