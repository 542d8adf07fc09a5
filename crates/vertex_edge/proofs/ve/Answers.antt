-- `ve` meets its contract: it misses where both ends lie on one side, and is the pairing of its lower pairings elsewhere.
use mathlib.Core.Path.{sym, ap, ap₂, ◌∙◌}
use mathlib.Core.List.{[], ◌∷◌}
use Rattle.points.specs.declared.Axis.TheVariants.{X}
use Rattle.crossings.specs.Crossings.{against, paired, ve}
use Rattle.crossings.proofs.Sizes.{small_ve}
use Rattle.vertex_edge.proofs.Apart.{alike, miss_ve}
use Rattle.vertex_edge.proofs.ve.Goals as goal

pub returns-then-past-clause-value : goal.returns-then-past-clause-value
returns-then-past-clause-value c =
    let a = c.args in
    sym (miss_ve c.past.result a.v a.e (sym c.past.ensures) (sym c.past-2.ensures ∙ alike c.past.result c.past-2.result c.if-past.true))

pub returns : goal.returns
unfolding ve
returns c =
    let a = c.args in
    let e = c.paired.ensures ∙ ap₂ (λ s t. paired X (s ∷ t ∷ [])) (c.against-start.ensures.value ∙ ap against c.vv.ensures.value) c.vv-end.ensures.value in
    record { value = e; small = rw e (small_ve a.v a.e) }
