-- `fe` meets its contract.
use mathlib.Core.Path.{◌≡◌, sym, ap, ◌∙◌}
use mathlib.Core.Bool.{not}
use mir.Syntax.{w32}
use mir.Val.{to_z, of_z}
use borrow.Author.Rules.{rules}
use Rattle.crossings.specs.Crossings.{ev}
use Rattle.crossings.proofs.Sizes.{two_fe}
use Rattle.crossing_counts.specs.Words.{slim}
use Rattle.crossing_counts.proofs.Pairs.{fv_is, side_A_is, count_fe_is, three_same, side_A_same, total_same}
use Rattle.crossing_counts.proofs.fe.Goals as goal

pub returns : goal.returns
returns c =
    let e = c.args.e in
    let f = c.args.f in
    let v1 = c.ev-s1.ensures ∙ ap (λ h. slim (ev h e.start)) c.edge_pq-pq.ensures in
    let v2 = c.ev-s2.ensures ∙ ap (λ h. slim (ev h e.start)) c.edge_qr-qr.ensures in
    let v3 = c.ev-s3.ensures ∙ ap (λ h. slim (ev h e.start)) c.edge_rp-rp.ensures in
    let w1 = c.ev-t1.ensures ∙ ap (λ h. slim (ev h e.end)) c.edge_pq-pq.ensures in
    let w2 = c.ev-t2.ensures ∙ ap (λ h. slim (ev h e.end)) c.edge_qr-qr.ensures in
    let w3 = c.ev-t3.ensures ∙ ap (λ h. slim (ev h e.end)) c.edge_rp-rp.ensures in
    let p = c.ve-p.ensures in
    let q = c.ve-q.ensures in
    let r = c.ve-r.ensures in
    let a = c.three-start.ensures.value ∙ three_same (not f.pq) (not f.qr) (not f.rp) v1 v2 v3 ∙ fv_is f e.start in
    let b = c.three-end.ensures.value ∙ three_same (not f.pq) (not f.qr) (not f.rp) w1 w2 w3 ∙ fv_is f e.end in
    let x = c.side_a-x.ensures.value ∙ side_A_same f.pq p q v1 w1 ∙ side_A_is e f.pq f.p f.q in
    let y = c.side_a-y.ensures.value ∙ side_A_same f.qr q r v2 w2 ∙ side_A_is e f.qr f.q f.r in
    let z = c.side_a-z.ensures.value ∙ side_A_same f.rp r p v3 w3 ∙ side_A_is e f.rp f.r f.p in
    let ha : to_z w32 (of_z w32 c.three-start.result) ≡ c.three-start.result = search rules in
    let hb : to_z w32 (of_z w32 c.three-end.result) ≡ c.three-end.result = search rules in
    let hx : to_z w32 (of_z w32 c.side_a-x.result) ≡ c.side_a-x.result = search rules in
    let hy : to_z w32 (of_z w32 c.side_a-y.result) ≡ c.side_a-y.result = search rules in
    let hz : to_z w32 (of_z w32 c.side_a-z.result) ≡ c.side_a-z.result = search rules in
    let g = c.total.ensures ∙ total_same (hb ∙ b) (ha ∙ a) (hx ∙ x) (hy ∙ y) (hz ∙ z) ∙ sym (count_fe_is f e) in
    let h : to_z w32 (of_z w32 c.total.result) ≡ c.total.result = search rules in
    rw h (record { value = g; small = rw g (two_fe f e) })
