-- `ev` meets its contract: it misses where both ends lie on one side, and is the pairing of its lower pairings elsewhere.
use mathlib.Core.Path.{sym, ap, ap₂, ◌∙◌}
use mathlib.Core.List.{[], ◌∷◌}
use Rattle.points.specs.declared.Axis.TheVariants.{X}
use Rattle.crossings.specs.Crossings.{against, paired, ev}
use Rattle.crossings.proofs.Sizes.{small_ev}
use Rattle.vertex_edge.proofs.Apart.{alike, miss_ev}
use Rattle.vertex_edge.proofs.ev.Goals as goal

pub returns-then-past-clause-value : goal.returns-then-past-clause-value
returns-then-past-clause-value c =
    let a = c.args in
    sym (miss_ev c.past.result a.e a.v (sym c.past.ensures) (sym c.past-2.ensures ∙ alike c.past.result c.past-2.result c.if-past.true))

pub returns : goal.returns
unfolding ev
returns c =
    let a = c.args in
    let e = c.paired.ensures ∙ ap₂ (λ s t. paired X (s ∷ t ∷ [])) c.vv-start.ensures.value (c.against-end.ensures.value ∙ ap against c.vv.ensures.value) in
    record { value = e; small = rw e (small_ev a.e a.v) }
