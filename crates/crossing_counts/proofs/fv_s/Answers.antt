-- `fv_s` meets its contract: S by z, from the vertex with the facet's three edges.
use mathlib.Core.Path.{◌≡◌, ap, ◌∙◌}
use mathlib.Core.Bool.{not}
use mir.Syntax.{w32}
use mir.Val.{to_z, of_z}
use borrow.Author.Rules.{rules}
use Rattle.points.specs.declared.Axis.TheVariants.{Z}
use Rattle.crossings.specs.Crossings.{ev, fv}
use Rattle.crossings.proofs.Sizes.{S_size, small_fv}
use Rattle.crossing_counts.specs.Words.{slim}
use Rattle.crossing_counts.proofs.Pairs.{fv_is, three_same}
use Rattle.crossing_counts.proofs.fv_s.Goals as goal

pub returns : goal.returns
returns c =
    let v = c.args.v in
    let f = c.args.f in
    let x = c.ev-pq.ensures ∙ ap (λ h. slim (ev h v)) c.edge_pq.ensures in
    let y = c.ev-qr.ensures ∙ ap (λ h. slim (ev h v)) c.edge_qr.ensures in
    let z = c.ev-rp.ensures ∙ ap (λ h. slim (ev h v)) c.edge_rp.ensures in
    let e = c.three.ensures.value ∙ three_same (not f.pq) (not f.qr) (not f.rp) x y z ∙ fv_is f v in
    let h : to_z w32 (of_z w32 c.three.result) ≡ c.three.result = search rules in
    rw h (record { value = e; small = rw e (S_size Z 1 (fv f v) (small_fv f v)) })
