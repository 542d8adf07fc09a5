-- A blank is never taken for open: in an accepted row a bound is blank exactly if its flag is set.
use mathlib.Core.Path.{◌≡◌, refl}
use mathlib.Core.Bool.{Bool, true, false, not, ◌&&◌, true≢false}
use mathlib.Core.List.{List, Memᴰ}
use Prim.Native.Nat.{ℕ}
use lib.Ieee.{is_nan}
use Rattle.list_words.proofs.Sums.{all_at}
use Rattle.list_words.proofs.Tests.{any_false}
use Rattle.solids.specs.Refusals.{accepted}
use Rattle.outage_rows.specs.declared.Bound.{Bound}
use Rattle.outage_rows.specs.Row.{row}
use Rattle.outage_rows.specs.Bounds.{bounds_of, missing, present}
use Rattle.outage_rows.specs.Boxed.{check_row}
use Rattle.outage_rows.proofs.Refusals.{passed}

-- neither 3 nor 12
flagged : (b : Bound) → missing b ≡ false → present b ≡ false → is_nan b.value ≡ b.flag
unfolding missing present
flagged b = go (is_nan b.value) b.flag
  where
    go : (blank flag : Bool) → blank && not flag ≡ false → flag && not blank ≡ false → blank ≡ flag
    go true true no_3 no_12 = refl
    go true false no_3 no_12 = absurd (true≢false no_3)
    go false true no_3 no_12 = absurd (true≢false no_12)
    go false false no_3 no_12 = refl

pub blank_if_open : (bs : List ℕ) → check_row bs ≡ accepted → (b : Bound) → Memᴰ b (bounds_of (row bs)) → is_nan b.value ≡ b.flag
blank_if_open bs e b m =
    let h = passed bs e in
    let all = bounds_of (row bs) in
    flagged b (all_at (λ b. missing b ≡ false) m (any_false missing all h.no_3)) (all_at (λ b. present b ≡ false) m (any_false present all h.no_12))
