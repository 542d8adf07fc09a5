-- `s_near` meets its contract.
use mathlib.Core.Path.{sym, ap, ap₂, ◌∙◌}
use Rattle.edges.specs.Readers.{solid_of}
use Rattle.solids.proofs.Admitted.{passed}
use Rattle.bounds.specs.declared.Thing.TheVariants.{Facets}
use Rattle.bounds.specs.Words.{dot, far, box_of}
use Rattle.inclusions.proofs.Beside.{none_idle}
use Rattle.inclusions.proofs.s_near.Goals as goal

pub returns-then-far_at-clause-value : goal.returns-then-far_at-clause-value
returns-then-far_at-clause-value c =
    let near = c.args.near.now in
    let b = solid_of near.solid in
    let f = c.args.f in
    let own = rw c.requires.facet.0 at near.boxed in
    let w = c.idle in
    let e = ap (λ w. far w (dot c.args.v) (box_of Facets b f)) (sym w.ensures) ∙ ap₂ (far w.result) (sym c.dot.ensures) (sym (own.own f c.requires.facet.1)) ∙ sym c.far_at.ensures ∙ c.if-far_at.true in
    sym (none_idle c.args.as_b c.args.v b (passed b near.admitted) c.requires.present f e)
