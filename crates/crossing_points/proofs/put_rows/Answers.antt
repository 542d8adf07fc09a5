-- `put_rows` meets its contract: the first r rows are stored.
use Rattle.edges.specs.Readers.{solid_of}
use Rattle.crossing_points.proofs.Rowwise.{row_columns, rowed_none, rowed_room, rowed_next, rowed_all}
use Rattle.crossing_points.proofs.put_rows.Goals as goal

pub loop-r-init : goal.loop-r-init
loop-r-init c =
    let a = c.args in
    rowed_none (solid_of a.a) (solid_of a.b) a.first.now a.crossed.now a.list.now a.at

pub put_row-next-requires : goal.put_row-next-requires
put_row-next-requires c =
    let a = c.args in
    let e = c.requires.z_value.0 in
    let h = c.loop-r-test.true in
    let q = c.row_at-row.ensures in
    record {
      to_in_bounds = row_columns (solid_of a.a) (solid_of a.b) a.first.now a.crossed.now e c.requires.z_value.1 h q;
      to_in_bounds_2 = rowed_room c.loop-r.invariant (rw e at h) q c.requires.crossed_in_bounds;
    }

pub loop-r-preserved : goal.loop-r-preserved
loop-r-preserved c =
    let p = c.put_row-next.ensures in
    rowed_next c.loop-r.invariant (rw c.requires.z_value.0 at c.loop-r-test.true) c.row_at-row.ensures p.put p.next

pub returns : goal.returns
returns c = let r = rowed_all c.loop-r.invariant (rw c.requires.z_value.0 at c.loop-r-test.false) in record { put = r.0; next = r.1 }
