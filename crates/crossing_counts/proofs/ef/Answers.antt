-- `ef` meets its contract.
use mathlib.Core.Path.{◌≡◌, sym, ap, ◌∙◌}
use mir.Syntax.{w32}
use mir.Val.{to_z, of_z}
use borrow.Author.Rules.{rules}
use Rattle.crossings.specs.Crossings.{ve}
use Rattle.crossings.proofs.Sizes.{two_ef}
use Rattle.crossing_counts.specs.Words.{slim}
use Rattle.crossing_counts.proofs.Pairs.{vf_is, side_B_is, count_ef_is, three_same, side_B_same, total_same}
use Rattle.crossing_counts.proofs.ef.Goals as goal

pub returns : goal.returns
returns c =
    let e = c.args.e in
    let f = c.args.f in
    let v1 = c.ve-s1.ensures ∙ ap (λ h. slim (ve e.start h)) c.edge_pq-pq.ensures in
    let v2 = c.ve-s2.ensures ∙ ap (λ h. slim (ve e.start h)) c.edge_qr-qr.ensures in
    let v3 = c.ve-s3.ensures ∙ ap (λ h. slim (ve e.start h)) c.edge_rp-rp.ensures in
    let w1 = c.ve-t1.ensures ∙ ap (λ h. slim (ve e.end h)) c.edge_pq-pq.ensures in
    let w2 = c.ve-t2.ensures ∙ ap (λ h. slim (ve e.end h)) c.edge_qr-qr.ensures in
    let w3 = c.ve-t3.ensures ∙ ap (λ h. slim (ve e.end h)) c.edge_rp-rp.ensures in
    let p = c.ev-p.ensures in
    let q = c.ev-q.ensures in
    let r = c.ev-r.ensures in
    let a = c.three-start.ensures.value ∙ three_same f.pq f.qr f.rp v1 v2 v3 ∙ vf_is e.start f in
    let b = c.three-end.ensures.value ∙ three_same f.pq f.qr f.rp w1 w2 w3 ∙ vf_is e.end f in
    let x = c.side_b-x.ensures.value ∙ side_B_same f.pq v1 w1 p q ∙ side_B_is e f.pq f.p f.q in
    let y = c.side_b-y.ensures.value ∙ side_B_same f.qr v2 w2 q r ∙ side_B_is e f.qr f.q f.r in
    let z = c.side_b-z.ensures.value ∙ side_B_same f.rp v3 w3 r p ∙ side_B_is e f.rp f.r f.p in
    let ha : to_z w32 (of_z w32 c.three-start.result) ≡ c.three-start.result = search rules in
    let hb : to_z w32 (of_z w32 c.three-end.result) ≡ c.three-end.result = search rules in
    let hx : to_z w32 (of_z w32 c.side_b-x.result) ≡ c.side_b-x.result = search rules in
    let hy : to_z w32 (of_z w32 c.side_b-y.result) ≡ c.side_b-y.result = search rules in
    let hz : to_z w32 (of_z w32 c.side_b-z.result) ≡ c.side_b-z.result = search rules in
    let g = c.total.ensures ∙ total_same (ha ∙ a) (hb ∙ b) (hx ∙ x) (hy ∙ y) (hz ∙ z) ∙ sym (count_ef_is e f) in
    let h : to_z w32 (of_z w32 c.total.result) ≡ c.total.result = search rules in
    rw h (record { value = g; small = rw g (two_ef e f) })
