-- `ee` meets its contract: it is the pairing of its lower pairings.
use mathlib.Core.Path.{refl, ap, ap₂, ◌∙◌}
use mathlib.Core.List.{◌∷◌}
use Rattle.points.specs.declared.Axis.TheVariants.{Y}
use Rattle.crossings.specs.Crossings.{against, paired, ee}
use Rattle.crossings.proofs.Sizes.{small_ee}
use Rattle.edge_facet.proofs.ee.Goals as goal

pub returns : goal.returns
unfolding ee
returns c =
    let a = c.args in
    let s = c.against-start_a.ensures.value ∙ ap against c.ve.ensures.value in
    let u = c.against-start_b.ensures.value ∙ ap against c.ev.ensures.value in
    let e = c.paired.ensures ∙ ap (paired Y) (ap₂ ◌∷◌ s (ap₂ ◌∷◌ c.ve-end_a.ensures.value (ap₂ ◌∷◌ u (ap₂ ◌∷◌ c.ev-end_b.ensures.value refl)))) in
    record { value = e; small = rw e (small_ee a.a a.b) }
