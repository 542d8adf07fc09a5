-- `row` meets its contract.
use Rattle.std.proofs.Common.{◌≡◌, suc, ◌+◌, ◌-◌, ◌*◌, ◌<◌, ◌≤◌, [], ◌++◌, refl, ap, ◌∙◌, arith}
use mathlib.Core.List.{flat_map}
use Rattle.list_words.specs.Lists.{up_to}
use Rattle.list_words.proofs.UpTo.{flat_up_to_suc}
use Rattle.joined_ends.proofs.Flat.{behind_none, behind_more, room_next}
use Rattle.vertex_table.specs.Words.{others}
use Rattle.kept_lists.specs.Words.{row, facet_row}
use Rattle.kept_lists.proofs.Skips.{none, row_skip}
use Rattle.composite_ends.specs.Words.{pair_of}
use Rattle.result_triangles.proofs.boundary.row.Goals as goal

pub loop-i-init : goal.loop-i-init
loop-i-init c =
    let a = c.args in
    let k = a.kept.now.crossings in
    let P = pair_of k a.x in
    let f = c.facet_row-from in
    let n = rw (c.others.ensures, f.ensures) at c.first-i.ensures in
    let r = 256 * facet_row a.kept.now.crossings.plan.sizes a.x in
    let z : r - r ≡ 0 = omega arith in
    let e : flat_map P (up_to (c.first-i.result - r)) ≡ [] = row_skip c.requires.pairs a.x r c.first-i.result c.requires.facet (omega arith) n ∙ none (r - r) z P in
    (c.first-i.ensures.low, c.first-i.ensures.high, refl, rw (f.ensures, e) (behind_none a.list.now a.to))

pub pair_at-k-requires-clause-i_in_bounds : goal.pair_at-k-requires-clause-i_in_bounds
unfolding row
pair_at-k-requires-clause-i_in_bounds c =
    let a = c.args in
    let k = a.kept.now.crossings in
    let P = pair_of k a.x in
    let l = c.loop-i in
    let from = 256 * c.facet_row-from.result in
    let h : l.i - from < others a.kept.now.crossings.plan.sizes a.x = omega (arith, c.others.ensures, c.loop-i-test.true, l.invariant.0) in
    omega (arith, room_next P (l.i - from) (others a.kept.now.crossings.plan.sizes a.x) h, c.requires.x_in_bounds, l.invariant.3.next, l.invariant.2)

pub loop-i-preserved : goal.loop-i-preserved
loop-i-preserved c =
    let a = c.args in
    let k = a.kept.now.crossings in
    let P = pair_of k a.x in
    let l = c.loop-i in
    let p = c.pair_at-k in
    let f = c.facet_row-from in
    let n = rw (c.others.ensures, f.ensures) at c.next-i.ensures in
    let r = 256 * facet_row a.kept.now.crossings.plan.sizes a.x in
    let low : r ≤ l.i = omega (arith, l.invariant.0, f.ensures) in
    let d : (l.i + 1) - r ≡ suc (l.i - r) = omega arith in
    let e : flat_map P (up_to (c.next-i.result - r)) ≡ flat_map P (up_to (l.i - r)) ++ P (l.i - r) =
    row_skip c.requires.pairs a.x (l.i + 1) c.next-i.result c.requires.facet (omega arith) n ∙ ap (λ m. flat_map P (up_to m)) d ∙ flat_up_to_suc P (l.i - r) in
    (omega (arith, c.next-i.ensures.low, l.invariant.0), c.next-i.ensures.high, omega arith, rw (f.ensures, e) (behind_more (flat_map P (up_to (l.i - r))) (P (l.i - r)) (rw f.ensures at l.invariant.3) (rw f.ensures at p.ensures)))

pub returns : goal.returns
unfolding row
returns c =
    let l = c.loop-i in
    let a = c.args in
    let e : l.i - 256 * c.facet_row-from.result ≡ others a.kept.now.crossings.plan.sizes a.x = omega (arith, l.invariant.1, c.loop-i-test.false, c.others.ensures, l.invariant.0) in
    rw e at l.invariant.3
