-- `make` meets its contract: the checks on the bounds, 8, then both lists.
use mathlib.Core.Path.{◌≡◌, sym, ap, ap₂, ◌∙◌}
use mathlib.Core.Logic.{◌⊎◌, inl, inr}
use mathlib.Core.Bool.{Bool, true, false, ◌||◌}
use lib.Dec.{ltb}
use borrow.Author.Tests.{lt-ltb, le-ltb}
use mathlib.Core.List.{List, [], ◌∷◌}
use Prim.Native.Nat.{ℕ, ◌<◌, ◌≤◌}
use lib.Ieee.{Float}
use Rattle.solids.specs.Refusals.{Verdict, answer_of, given, in_order}
use Rattle.list_words.proofs.Handed.{handed_on}
use Rattle.housefile.specs.Reader.{too_short}
use Rattle.outage_rows.specs.declared.Row.{Row}
use Rattle.outage_rows.specs.Bounds.{bounds}
use Rattle.outage_rows.specs.Box.{box}
use Rattle.outage_rows.specs.Boxed.{Boxing, boxing}
use Rattle.outage_rows.proofs.Computing.{the_rule}
use Rattle.outage_boxes.proofs.make.Goals as goal

-- what is made, by what the checks on the bounds say and whether a list is too short
abbrev checked : Row → List Float → List ℕ → Verdict → Bool → Boxing
checked r ps cs v short = boxing (in_order (v ∷ given (answer_of 8) short ∷ [])) r.unit (box (bounds r)) ps cs

pub returns-in_err-check : goal.returns-in_err-check
unfolding in_order
returns-in_err-check c =
    let a = c.args in
    let ps = a.points.now in
    let cs = a.corners.now in
    rw (handed_on c.from_residual.result _ c.from_residual.ensures.1)
    (sym (ap (λ v. checked a.r ps cs v (too_short ps cs (box (bounds a.r)))) (sym c.check.ensures ∙ c.in_err-check.was)))

short : (n m : ℕ) → (n < 24) ⊎ ((24 ≤ n) × (m < 36)) → ltb n 24 || ltb m 36 ≡ true
short n m (inl h) = rw (lt-ltb n 24 h)
short n m (inr (k, h)) = rw (le-ltb n 24 k, lt-ltb m 36 h)

long : (n m : ℕ) → 24 ≤ n → 36 ≤ m → ltb n 24 || ltb m 36 ≡ false
long n m k h = rw (le-ltb n 24 k, le-ltb m 36 h)

pub returns-then-points-lt-COORDINATES : goal.returns-then-points-lt-COORDINATES
unfolding in_order too_short the_rule
returns-then-points-lt-COORDINATES c =
    let a = c.args in
    rw c.on_nobody.ensures
    (sym (ap₂ (checked a.r a.points.now a.corners.now) (sym c.check.ensures ∙ c.in_ok-check.was) (short _ _ c.then-points-lt-COORDINATES.either)))

pub returns : goal.returns
unfolding in_order too_short the_rule
returns c =
    let a = c.args in
    rw (c.put_facets.ensures, c.put_points.ensures, c.bounds-b.ensures)
    (sym (ap₂ (checked a.r a.points.now a.corners.now) (sym c.check.ensures ∙ c.in_ok-check.was) (long _ _ c.if-points-lt-COORDINATES.false c.if-corners-lt-CORNERS.false)))
