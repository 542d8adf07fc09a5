-- "Checks on one solid, in this order": what admission answers, refusal by refusal, whatever else is wrong. Then the checks of a point, and of the
-- two calls that count.
use mathlib.Core.Path.{◌≡◌, refl}
use mathlib.Core.Bool.{Bool, true, false}
use mathlib.Core.List.{[], ◌∷◌}
use lib.IntN.{pos}
use Rattle.points.specs.declared.Point.{Point}
use Rattle.solids.specs.declared.Answer.{Answer}
use Rattle.solids.specs.Refusals.{Verdict, accepted, in_order, on_solid, on_point, no_refusal}
use Rattle.std.specs.Prelude.{Ok, Err}
use Rattle.solids.specs.Solids.{Solid}
use Rattle.solids.specs.Admission.{uneven, too_many, blank, out_of_range, check_lengths, check_sizes, check_blanks, check_limit, check_corners, check_closure, admission, point_admission}
use Rattle.solids.specs.declared.Counted.{Counted}
use Rattle.solids.specs.Containment.{in_A, in_B, counted, count_as_A, count_as_B}
use Rattle.solids.specs.Words.{contained, count_as}
use Rattle.solids.proofs.Checks.{early, all_accepted, not_given}

-- ---- the checks on one solid
module _ (s : Solid) where
  pub first_1 : uneven s ≡ true → admission s ≡ Err (on_solid 1 0)
  unfolding admission in_order check_lengths
  first_1 e = rw e

  -- 1 and 2 together look at lengths alone
  abbrev pub check_lists : Verdict
  check_lists = in_order (check_lengths s ∷ check_sizes s ∷ [])

  pub first_lists : (a : Answer) → check_lists ≡ Err a → admission s ≡ Err a
  unfolding admission
  first_lists a e = early (check_lengths s ∷ check_sizes s ∷ []) _ a e

  pub lists_fine : check_lists ≡ accepted → (uneven s ≡ false) × (too_many s ≡ false)
  unfolding check_lengths check_sizes
  lists_fine e = let (c1, (c2, end)) = all_accepted _ e in (not_given _ _ c1, not_given _ _ c2)

  module _ (no_1 : uneven s ≡ false) where
    pub then_2 : too_many s ≡ true → admission s ≡ Err (on_solid 2 0)
    unfolding admission in_order check_lengths check_sizes
    then_2 e = rw (no_1, e)

    module _ (no_2 : too_many s ≡ false) where
      pub then_3 : (a : Answer) → check_blanks s ≡ Err a → admission s ≡ Err a
      unfolding admission in_order check_lengths check_sizes
      then_3 a e = rw (no_1, no_2, e)

      module _ (no_3 : check_blanks s ≡ accepted) where
        pub then_4 : (a : Answer) → check_limit s ≡ Err a → admission s ≡ Err a
        unfolding admission in_order check_lengths check_sizes
        then_4 a e = rw (no_1, no_2, no_3, e)

        module _ (no_4 : check_limit s ≡ accepted) where
          pub then_10_and_11 : (a : Answer) → check_corners s ≡ Err a → admission s ≡ Err a
          unfolding admission in_order check_lengths check_sizes
          then_10_and_11 a e = rw (no_1, no_2, no_3, no_4, e)

          module _ (no_10_and_11 : check_corners s ≡ accepted) where
            pub last_6 : (v : Verdict) → check_closure s ≡ v → admission s ≡ v
            unfolding admission in_order check_lengths check_sizes
            last_6 (Ok u) e = rw (no_1, no_2, no_3, no_4, no_10_and_11, e)
            last_6 (Err a) e = rw (no_1, no_2, no_3, no_4, no_10_and_11, e)

-- ---- the checks on a point: 3, then 4
module _ (v : Point) where
  pub point_first_3 : blank v ≡ true → point_admission v ≡ Err (on_point 3)
  unfolding point_admission in_order
  point_first_3 e = rw e

  module _ (no_3 : blank v ≡ false) where
    pub point_then_4 : out_of_range v ≡ true → point_admission v ≡ Err (on_point 4)
    unfolding point_admission in_order
    point_then_4 e = rw (no_3, e)

    pub point_else_accepted : out_of_range v ≡ false → point_admission v ≡ accepted
    unfolding point_admission in_order
    point_else_accepted e = rw (no_3, e)

-- ---- "A point count checks the point by 3 and 4, then the solid by 1 to 6"
abbrev pub no_count : Answer → Counted
no_count a = record { answer = a; count = pos 0 }

module _ (v : Point) (s : Solid) where
  pub count_point_first : (n : Answer) → point_admission v ≡ Err n → (count_as_A v s ≡ no_count n) × (count_as_B v s ≡ no_count n)
  unfolding count_as_A count_as_B in_order
  count_point_first n e = (rw e, rw e)

  module _ (fine : point_admission v ≡ accepted) where
    pub count_then_solid : (n : Answer) → admission s ≡ Err n → (count_as_A v s ≡ no_count n) × (count_as_B v s ≡ no_count n)
    unfolding count_as_A count_as_B in_order
    count_then_solid n e = (rw (fine, e), rw (fine, e))

    pub count_else : admission s ≡ accepted
        → (count_as_A v s ≡ record { answer = no_refusal; count = in_A s v }) × (count_as_B v s ≡ record { answer = no_refusal; count = in_B v s })
    unfolding count_as_A count_as_B in_order
    count_else e = (rw (fine, e), rw (fine, e))

-- a count with its two verdicts, with the solid as A or as B
pub count_as_is : (as_b : Bool) (v : Point) (s : Solid) → count_as as_b v s ≡ counted (in_order (point_admission v ∷ admission s ∷ [])) (contained as_b v s)
unfolding count_as contained count_as_A count_as_B
count_as_is true v s = refl
count_as_is false v s = refl
