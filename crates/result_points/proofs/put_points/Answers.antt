-- `put_points` meets its contract: three parts, each stored behind the one before it.
use Rattle.edges.specs.Readers.{solid_of}
use Rattle.result_points.specs.Words.{of_vertices}
use Rattle.result_points.proofs.Three.{roomy, there_a, there_b, room_a, room_between, room_b, all_placed}
use Rattle.result_points.proofs.put_points.Goals as goal

pub put_vertices-behind_a-requires : goal.put_vertices-behind_a-requires
unfolding of_vertices
put_vertices-behind_a-requires c =
    let x = c.args in
    let z = c.requires.z_value in
    let g = roomy (solid_of x.a) (solid_of x.b) x.inc.now x.first.now x.crossed.now x.points.now z.0 z.2 c.requires.crossed_in_bounds in
    record { vs_in_bounds = there_a g; from_in_bounds = room_a g }

pub put_rows-behind_rows-requires : goal.put_rows-behind_rows-requires
unfolding of_vertices
put_rows-behind_rows-requires c =
    let x = c.args in
    let z = c.requires.z_value in
    let g = roomy (solid_of x.a) (solid_of x.b) x.inc.now x.first.now x.crossed.now x.points.now z.0 z.2 c.requires.crossed_in_bounds in
    let p = c.put_vertices-behind_a.ensures in
    record { z_value = (z.0, z.1); crossed_in_bounds = room_between g p.put p.next }

pub put_vertices-requires : goal.put_vertices-requires
unfolding of_vertices
put_vertices-requires c =
    let x = c.args in
    let z = c.requires.z_value in
    let g = roomy (solid_of x.a) (solid_of x.b) x.inc.now x.first.now x.crossed.now x.points.now z.0 z.2 c.requires.crossed_in_bounds in
    let p = c.put_vertices-behind_a.ensures in
    let q = c.put_rows-behind_rows.ensures in
    record { vs_in_bounds = there_b g; from_in_bounds = room_b g p.put p.next q.put q.next }

pub returns : goal.returns
unfolding of_vertices
returns c =
    let x = c.args in
    let z = c.requires.z_value in
    let g = roomy (solid_of x.a) (solid_of x.b) x.inc.now x.first.now x.crossed.now x.points.now z.0 z.2 c.requires.crossed_in_bounds in
    let p = c.put_vertices-behind_a.ensures in
    let q = c.put_rows-behind_rows.ensures in
    all_placed g p.put p.next q.put q.next c.put_vertices.ensures.put
