-- `four` meets its contract: where the sum is 0, S is 0.
use mathlib.Core.Path.{◌≡◌, sym, ap, ap₂, ◌∙◌}
use mathlib.Core.List.{[], ◌∷◌}
use lib.IntN.{◌+ℤ◌, +ℤ_idr}
use mir.Syntax.{w32}
use mir.Val.{to_z, of_z}
use borrow.Author.Rules.{rules}
use Rattle.list_words.specs.Lists.{sum_of, nonzero}
use Rattle.crossings.proofs.Fits.{zero_not}
use Rattle.crossing_counts.specs.Words.{turned, counted, four}
use Rattle.crossing_counts.proofs.Slims.{shade_none}
use Rattle.crossing_counts.proofs.four.Goals as goal

pub returns-then-n-eq0-clause-value : goal.returns-then-n-eq0-clause-value
unfolding four sum_of
returns-then-n-eq0-clause-value c =
    let a = c.args in
    let hs : to_z w32 (of_z w32 c.counted_if.result) ≡ c.counted_if.result = search rules in
    let ht : to_z w32 (of_z w32 c.counted.result) ≡ c.counted.result = search rules in
    let hu : to_z w32 (of_z w32 c.counted_if-2.result) ≡ c.counted_if-2.result = search rules in
    let hv : to_z w32 (of_z w32 c.counted-2.result) ≡ c.counted-2.result = search rules in
    let e =
    (rw (hs, ht, hu, hv) at c.added-n.ensures)
    ∙ ap₂ ◌+ℤ◌ c.counted_if.ensures.value (ap₂ ◌+ℤ◌ c.counted.ensures.value (ap₂ ◌+ℤ◌ c.counted_if-2.ensures.value (c.counted-2.ensures.value ∙ sym (+ℤ_idr (counted a.v))))) in
    let none = ap nonzero (sym e) ∙ zero_not c.added-n.result (search rules) c.if-n-eq0.true in
    sym (shade_none (turned a.s ∷ a.t ∷ turned a.u ∷ a.v ∷ []) none)
