-- `fv` meets its contract: it misses where all corners lie on one side, and is the pairing of its lower pairings elsewhere.
use mathlib.Core.Path.{refl, sym, ap, ap₂, ◌∙◌}
use mathlib.Core.List.{◌∷◌}
use Rattle.points.specs.declared.Axis.TheVariants.{Y}
use Rattle.crossings.specs.Crossings.{paired, fv, ev}
use Rattle.crossings.proofs.Halves.{half_is}
use Rattle.crossings.proofs.Sizes.{small_fv}
use Rattle.vertex_edge.proofs.Apart.{alike, miss_fv}
use Rattle.vertex_facet.proofs.fv.Goals as goal

pub returns-then-side-past-2-clause-value : goal.returns-then-side-past-2-clause-value
returns-then-side-past-2-clause-value c =
    let a = c.args in
    let s = c.past-side in
    let q = sym c.past.ensures ∙ alike s.result c.past.result c.if-side-past.true in
    let r = sym c.past-then-side-past.ensures ∙ alike s.result c.past-then-side-past.result c.if-side-past-2.true in
    sym (miss_fv s.result a.f a.v (sym s.ensures) q r)

pub returns : goal.returns
unfolding fv
returns c =
    let a = c.args in
    let pq = half_is (λ h. ev h a.v) a.f.pq a.f.p a.f.q c.edge_pq.ensures c.ev.ensures.value c.signed-pq.ensures.value in
    let qr = half_is (λ h. ev h a.v) a.f.qr a.f.q a.f.r c.edge_qr.ensures c.ev-2.ensures.value c.signed-qr.ensures.value in
    let rp = half_is (λ h. ev h a.v) a.f.rp a.f.r a.f.p c.edge_rp.ensures c.ev-3.ensures.value c.signed-rp.ensures.value in
    let e = c.paired.ensures ∙ ap (paired Y) (ap₂ ◌∷◌ pq (ap₂ ◌∷◌ qr (ap₂ ◌∷◌ rp refl))) in
    record { value = e; small = rw e (small_fv a.f a.v) }
