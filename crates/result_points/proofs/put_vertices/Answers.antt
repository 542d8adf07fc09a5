-- `put_vertices` meets its contract: the kept ones of the first i vertices are stored.
use mathlib.Core.List.{[]}
use Prim.Native.Nat.{◌+◌}
use native.Mathlib.Omega.{arith}
use lib.IntN.{pos}
use lib.ListN.{get_or}
use mir.Syntax.{w16}
use mir.Val.{SFits}
use Rattle.solids.specs.Solids.{solid}
use Rattle.result_points.proofs.Kept.{is_kept, is_left, kept_none, kept_long, kept_room, kept_yes, kept_no, kept_all}
use borrow.Author.Rules.{rules}
use Rattle.result_points.proofs.put_vertices.Goals.{then-n-ne0, else-n-ne0}
use Rattle.result_points.proofs.put_vertices.Goals as goal

pub loop-i-init : goal.loop-i-init
loop-i-init c =
    let a = c.args in
    kept_none (solid a.vs.now []) a.inc.now a.from a.list.now a.at

pub put_point-requires : goal.put_point-requires
put_point-requires c =
    let x = get_or c.args.inc.now (c.args.from + c.loop-i.i) (pos 0) in
    let f : SFits w16 x = search rules in
    kept_room c.loop-i.invariant c.loop-i-test.true (is_kept x f c.if-n-ne0.true) c.requires.from_in_bounds

pub overflow_add-next : goal.overflow_add-next
overflow_add-next c =
    let x = get_or c.args.inc.now (c.args.from + c.loop-i.i) (pos 0) in
    let f : SFits w16 x = search rules in
    omega (arith, kept_room c.loop-i.invariant c.loop-i-test.true (is_kept x f c.if-n-ne0.true) c.requires.from_in_bounds, kept_long c.loop-i.invariant)

pub loop-i-preserved : goal.loop-i-preserved
loop-i-preserved c =
    let l = c.loop-i in
    let t = c.loop-i-test.true in
    let x = get_or c.args.inc.now (c.args.from + l.i) (pos 0) in
    let f : SFits w16 x = search rules in
    elim c.if-n-ne0.branch [
      | then-n-ne0 w ↦ rw (w.list-is, w.next-is) (kept_yes l.invariant t (is_kept x f w.if-n-ne0.true) w.vertex.ensures w.put_point.ensures)
      | else-n-ne0 w ↦ rw (w.list-is, w.next-is) (kept_no l.invariant t (is_left x f w.if-n-ne0.false))
    ]

pub returns : goal.returns
returns c = let r = kept_all c.loop-i.invariant c.loop-i-test.false in record { put = r.0; next = r.1 }
