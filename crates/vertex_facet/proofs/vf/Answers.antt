-- `vf` meets its contract: it misses where all corners lie on one side, and is the pairing of its lower pairings elsewhere.
use mathlib.Core.Path.{refl, sym, ap, ap₂, ◌∙◌}
use mathlib.Core.List.{◌∷◌}
use Rattle.points.specs.declared.Axis.TheVariants.{Y}
use Rattle.crossings.specs.Crossings.{paired, vf, ve}
use Rattle.crossings.proofs.Halves.{half_less}
use Rattle.crossings.proofs.Sizes.{small_vf}
use Rattle.vertex_edge.proofs.Apart.{alike, miss_vf}
use Rattle.vertex_facet.proofs.vf.Goals as goal

pub returns-then-side-past-2-clause-value : goal.returns-then-side-past-2-clause-value
returns-then-side-past-2-clause-value c =
    let a = c.args in
    let s = c.past-side in
    let q = sym c.past.ensures ∙ alike s.result c.past.result c.if-side-past.true in
    let r = sym c.past-then-side-past.ensures ∙ alike s.result c.past-then-side-past.result c.if-side-past-2.true in
    sym (miss_vf s.result a.v a.f (sym s.ensures) q r)

pub returns : goal.returns
unfolding vf
returns c =
    let a = c.args in
    let pq = half_less (ve a.v) a.f.pq a.f.p a.f.q c.edge_pq.ensures c.ve.ensures.value c.signed.ensures.value c.against-pq.ensures.value in
    let qr = half_less (ve a.v) a.f.qr a.f.q a.f.r c.edge_qr.ensures c.ve-2.ensures.value c.signed-2.ensures.value c.against-qr.ensures.value in
    let rp = half_less (ve a.v) a.f.rp a.f.r a.f.p c.edge_rp.ensures c.ve-3.ensures.value c.signed-3.ensures.value c.against-rp.ensures.value in
    let e = c.paired.ensures ∙ ap (paired Y) (ap₂ ◌∷◌ pq (ap₂ ◌∷◌ qr (ap₂ ◌∷◌ rp refl))) in
    record { value = e; small = rw e (small_vf a.v a.f) }
