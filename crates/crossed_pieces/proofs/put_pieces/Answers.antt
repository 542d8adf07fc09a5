-- `put_pieces` meets its contract. The loop's invariant: the marks were looked at up to i, and of the ends that came so far some are joined and the others
-- stand in the array. The measure is what is left of the edge's marks.
use mathlib.Core.Path.{◌≡◌, refl, ◌∙◌}
use mathlib.Core.List.{[]}
use Prim.Native.Nat.{◌-◌, ◌*◌, ◌<◌}
use native.Mathlib.Omega.{arith}
use Rattle.joined_ends.proofs.Joined.{laid_none}
use Rattle.composite_ends.specs.Words.{rows_of}
use Rattle.kept_lists.proofs.Gathered.{gathered_none, gathered_first, gathered_after}
use Rattle.crossed_pieces.proofs.Eights.{Going, going_joined, going_last}
use Rattle.crossed_pieces.proofs.put_pieces.Goals as goal
use Rattle.crossed_pieces.proofs.put_pieces.Goals.{then-n-eq8, else-n-eq8}

pub loop-i-init : goal.loop-i-init
loop-i-init c =
    let a = c.args in
    let k = a.kept.now in
    let w = rows_of k.crossings in
    let ea = c.against-against.ensures in
    let g =
    gathered_none k.inc.now k.num.now w k.crossings.halves.now k.crossings.plan.sizes a.h 8 _ c.start.result c.stop.result refl refl (rw ea at c.start.ensures) (rw ea at c.stop.ensures) in (
      c.first-i.ensures.low,
      c.first-i.ensures.high,
      record {
        done = [];
        laid = laid_none a.list.now a.to;
        gathered =
            gathered_first k.inc.now k.num.now w k.crossings.halves.now k.crossings.plan.sizes a.h k.crossings.named k.marked c.requires.half _ _ c.line_row-row.ensures c.line_many.ensures g
            c.first-i.ensures;
        room = omega arith;
      },
    )

pub loop-i-preserved : goal.loop-i-preserved
loop-i-preserved c =
    let a = c.args in
    let k = a.kept.now in
    let w = rows_of k.crossings in
    let l = c.loop-i in
    let g = l.invariant.2 in
    let j = c.if-n-eq8 in
    -- where the array was full it is joined: it has room
    let f : (j.n < 8) × Going k.inc.now k.num.now w k.crossings.halves.now k.crossings.plan.sizes a.h a.list.now a.to j.list j.c l.all j.n (l.i - 256 * c.line_row-row.result) =
    elim j.branch [
      | then-n-eq8 v ↦ rw (v.n-is, v.list-is, v.c-is) (
        omega arith,
        going_joined k.inc.now k.num.now w k.crossings.halves.now k.crossings.plan.sizes a.h (rw v.if-n-eq8.true at g) v.join_first-c.new.list v.join_first-c.result (omega arith)
            v.join_first-c.auto.list v.join_first-c.ensures,
      )
      | else-n-eq8 v ↦ rw (v.n-is, v.list-is, v.c-is) (omega (arith, v.if-n-eq8.false, g.room), g)
    ] in (
      omega (arith, c.next-i.ensures.low),
      c.next-i.ensures.high,
      record {
        done = f.1.done;
        laid = f.1.laid;
        gathered =
            gathered_after k.inc.now k.num.now w k.crossings.halves.now k.crossings.plan.sizes a.h k.crossings.named k.marked c.requires.half _ _ c.line_row-row.ensures c.line_many.ensures
            {done = f.1.done} f.1.gathered c.line_end.result (rw c.against-against.ensures at c.line_end.ensures) f.0 l.invariant.0 c.next-i.ensures;
        room = omega (arith, f.0);
      },
    )

pub next_place-requires : goal.next_place-requires
next_place-requires c =
    let a = c.args in
    let j = c.join_first-c-2 in
    let k = a.kept.now in
    let w = rows_of k.crossings in
    let e : c.loop-i.i - 256 * c.line_row-row.result ≡ c.line_many.result = omega arith in
    let b =
    going_last k.inc.now k.num.now w k.crossings.halves.now k.crossings.plan.sizes a.h c.loop-i.invariant.2 j.new.list j.result (omega arith) j.auto.list j.ensures
    (e ∙ c.line_many.ensures) c.requires.h_in_bounds in
    omega (arith, b.next)

pub returns : goal.returns
returns c =
    let a = c.args in
    let j = c.join_first-c-2 in
    let k = a.kept.now in
    let w = rows_of k.crossings in
    let e : c.loop-i.i - 256 * c.line_row-row.result ≡ c.line_many.result = omega arith in
    rw c.next_place.ensures
    (going_last k.inc.now k.num.now w k.crossings.halves.now k.crossings.plan.sizes a.h c.loop-i.invariant.2 j.new.list j.result (omega arith) j.auto.list j.ensures
    (e ∙ c.line_many.ensures) c.requires.h_in_bounds)
