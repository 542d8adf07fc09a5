-- `three` meets its contract: where the sum is 0, S is 0.
use mathlib.Core.Path.{◌≡◌, sym, ap, ap₂, ◌∙◌}
use mathlib.Core.List.{[], ◌∷◌}
use lib.IntN.{ℤ, pos, ◌+ℤ◌}
use mir.Syntax.{w32}
use mir.Val.{to_z, of_z}
use borrow.Author.Rules.{rules}
use Rattle.list_words.specs.Lists.{sum_of, nonzero}
use Rattle.crossings.proofs.Fits.{zero_not}
use Rattle.crossing_counts.specs.Words.{turned_if, three}
use Rattle.crossing_counts.proofs.Slims.{shade_none}
use Rattle.crossing_counts.proofs.three.Goals as goal

pub returns-then-n-eq0-clause-value : goal.returns-then-n-eq0-clause-value
unfolding three sum_of
returns-then-n-eq0-clause-value c =
    let a = c.args in
    let hx : to_z w32 (of_z w32 c.counted_if.result) ≡ c.counted_if.result = search rules in
    let hy : to_z w32 (of_z w32 c.counted_if-2.result) ≡ c.counted_if-2.result = search rules in
    let hz : to_z w32 (of_z w32 c.counted_if-3.result) ≡ c.counted_if-3.result = search rules in
    let e =
    (rw (hx, hy, hz) at c.added-n.ensures)
    ∙ ap₂ ◌+ℤ◌ c.counted_if.ensures.value (ap₂ ◌+ℤ◌ c.counted_if-2.ensures.value (ap (λ (n : ℤ). n +ℤ pos 0) c.counted_if-3.ensures.value)) in
    let none = ap nonzero (sym e) ∙ zero_not c.added-n.result (search rules) c.if-n-eq0.true in
    sym (shade_none (turned_if a.tx a.x ∷ turned_if a.ty a.y ∷ turned_if a.tz a.z ∷ []) none)
