-- `fe` meets its contract: it is the pairing of its lower pairings.
use mathlib.Core.Path.{refl, ap, ap₂, ◌∙◌}
use mathlib.Core.List.{◌∷◌}
use Rattle.points.specs.declared.Axis.TheVariants.{Z}
use Rattle.crossings.specs.Crossings.{against, paired, ee, fe}
use Rattle.crossings.proofs.Halves.{half_less}
use Rattle.crossings.proofs.Sizes.{two_fe}
use Rattle.edge_facet.proofs.fe.Goals as goal

pub returns : goal.returns
unfolding fe
returns c =
    let a = c.args in
    let pq = half_less (λ h. ee h a.e) a.f.pq a.f.p a.f.q c.edge_pq.ensures c.ee.ensures.value c.signed.ensures.value c.against-pq.ensures.value in
    let qr = half_less (λ h. ee h a.e) a.f.qr a.f.q a.f.r c.edge_qr.ensures c.ee-2.ensures.value c.signed-2.ensures.value c.against-qr.ensures.value in
    let rp = half_less (λ h. ee h a.e) a.f.rp a.f.r a.f.p c.edge_rp.ensures c.ee-3.ensures.value c.signed-3.ensures.value c.against-rp.ensures.value in
    let start = c.against-start.ensures.value ∙ ap against c.fv.ensures.value in
    let e = c.paired.ensures ∙ ap (paired Z) (ap₂ ◌∷◌ pq (ap₂ ◌∷◌ qr (ap₂ ◌∷◌ rp (ap₂ ◌∷◌ start (ap₂ ◌∷◌ c.fv-end.ensures.value refl))))) in
    record { value = e; small = rw e (two_fe a.f a.e) }
