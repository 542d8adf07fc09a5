-- `vf_s` meets its contract: S by z, from the vertex with the facet's three edges.
use mathlib.Core.Path.{◌≡◌, ap, ◌∙◌}
use mir.Syntax.{w32}
use mir.Val.{to_z, of_z}
use borrow.Author.Rules.{rules}
use Rattle.points.specs.declared.Axis.TheVariants.{Z}
use Rattle.crossings.specs.Crossings.{ve, vf}
use Rattle.crossings.proofs.Sizes.{S_size, small_vf}
use Rattle.crossing_counts.specs.Words.{slim}
use Rattle.crossing_counts.proofs.Pairs.{vf_is, three_same}
use Rattle.crossing_counts.proofs.vf_s.Goals as goal

pub returns : goal.returns
returns c =
    let v = c.args.v in
    let f = c.args.f in
    let x = c.ve-pq.ensures ∙ ap (λ h. slim (ve v h)) c.edge_pq.ensures in
    let y = c.ve-qr.ensures ∙ ap (λ h. slim (ve v h)) c.edge_qr.ensures in
    let z = c.ve-rp.ensures ∙ ap (λ h. slim (ve v h)) c.edge_rp.ensures in
    let e = c.three.ensures.value ∙ three_same f.pq f.qr f.rp x y z ∙ vf_is v f in
    let h : to_z w32 (of_z w32 c.three.result) ≡ c.three.result = search rules in
    rw h (record { value = e; small = rw e (S_size Z 1 (vf v f) (small_vf v f)) })
