-- Words of contracts; no public statement needs them. What a test computes of a bound, and the checks on all six.
use Rattle.std.specs.Prelude.{Bool, ◌≡◌, [], ◌∷◌}
use Rattle.list_words.specs.Lists.{any}
use Rattle.solids.specs.Refusals.{Verdict, answer_of, given, in_order}
use Rattle.outage_rows.specs.declared.Bound.{Bound}
use Rattle.outage_rows.specs.declared.Row.{Row}
use Rattle.outage_rows.specs.Bounds.{bounds_of, missing, too_far, present, bounds, not_below}

-- each answer that a test may give of a bound is what p says of it
abbrev pub Computes : (Bound → Bool → Type 0) → (Bound → Bool) → Type 0
Computes Gives p = (b : Bound) (said : Bool) → Gives b said → said ≡ p b

unfoldable pub check_bounds : Row → Verdict
check_bounds r =
    in_order
    (given (answer_of 3) (any missing (bounds_of r))
    ∷ given (answer_of 4) (any too_far (bounds_of r))
    ∷ given (answer_of 12) (any present (bounds_of r))
    ∷ given (answer_of 13) (not_below (bounds r))
    ∷ [])
