-- `put_row` meets its contract: the crossings before place k are stored.
use native.Mathlib.Omega.{arith}
use Rattle.edges.specs.Readers.{solid_of}
use Rattle.crossing_points.specs.Words.{point_on}
use Rattle.crossing_points.proofs.Stretches.{stretched_none, stretched_long, stretched_room, stretched_next, stretched_all}
use Rattle.crossing_points.proofs.put_row.Goals as goal

pub loop-k-init : goal.loop-k-init
loop-k-init c =
    let a = c.args in
    stretched_none (point_on a.row (solid_of a.b)) a.crossed.now a.from a.to a.list.now a.at

pub put_point-requires : goal.put_point-requires
put_point-requires c = stretched_room c.loop-k.invariant c.loop-k-test.true c.requires.to_in_bounds_2

pub overflow_add-next : goal.overflow_add-next
overflow_add-next c = omega (arith, stretched_room c.loop-k.invariant c.loop-k-test.true c.requires.to_in_bounds_2, stretched_long c.loop-k.invariant)

pub loop-k-preserved : goal.loop-k-preserved
loop-k-preserved c = stretched_next c.loop-k.invariant c.loop-k-test.true c.column.ensures c.point_on-v.ensures c.put_point.ensures

pub returns : goal.returns
returns c = let r = stretched_all c.loop-k.invariant c.loop-k-test.false in record { put = r.0; next = r.1 }
