-- `ready` meets its contract: half-edges are counted, edges listed from the counts, and half-edges put by the edges' numbers.
use native.Mathlib.Omega.{arith}
use Rattle.ready_solids.specs.Words.{solid_of}
use Rattle.solids.proofs.Admitted.{passed}
use Rattle.solids.proofs.Tally.{tallied_none}
use Rattle.edges.proofs.Edges.{listed_own}
use Rattle.half_edges.proofs.Fill.{numbered, passed_low, own_put}
use Rattle.ready_solids.proofs.Prepared.{few_corners, listed_none, made_ready}
use Rattle.ready_solids.proofs.ready.Goals as goal

pub tally-requires : goal.tally-requires
tally-requires c =
    let p = passed _ c.args.s.admitted in
    (passed_low _ p, few_corners p, tallied_none)

pub overflow_cast-s : goal.overflow_cast-s
overflow_cast-s c = omega (arith, (passed _ c.args.s.admitted).few_vertices)

pub list_edges-many-requires-clause-n_bound : goal.list_edges-many-requires-clause-n_bound
list_edges-many-requires-clause-n_bound c = (passed _ c.args.s.admitted).few_vertices

pub list_edges-many-requires-clause-listed : goal.list_edges-many-requires-clause-listed
list_edges-many-requires-clause-listed c = listed_none c.requires.ends_len

pub put_halves-requires : goal.put_halves-requires
put_halves-requires c = (passed_low _ (passed _ c.args.s.admitted), c.requires.corners_in_bounds)

pub returns : goal.returns
returns c =
    let points = c.args.s.points in
    let corners = c.args.s.corners in
    let s = solid_of c.args.s in
    let p = passed s c.args.s.admitted in
    let listed = c.list_edges-many.ensures in
    record {
      ready = made_ready points.now corners.now p (listed_own s listed);
      halves = own_put s c.args.halves.now c.args.at _ p (numbered s listed) c.put_halves.ensures;
      count = (listed_own s listed).many;
    }
