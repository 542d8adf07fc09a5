-- `attempt` meets its contract: the lists are gathered, or there is no room for the crossings; what is measured decides 8; then the result is written.
use mathlib.Core.Path.{sym, ap, ◌∙◌}
use native.Mathlib.Omega.{arith}
use Rattle.solids.specs.Solids.{solid}
use Rattle.results.specs.Operation.{lists, called, nothing_made}
use Rattle.result_sizes.proofs.Vertices.{zeros}
use Rattle.result_sizes.proofs.Measures.{vertices_there, columns_there}
use Rattle.result_lists.proofs.Results.{points_fit, done_short, done_made}
use Rattle.result_lists.proofs.attempt.Goals as goal

pub gather-requires : goal.gather-requires
gather-requires c = (c.requires, zeros 256)

pub returns-then-too_short : goal.returns-then-too_short
returns-then-too_short c =
    let op = c.args.op in
    let a = solid c.args.a.points.now c.args.a.corners.now in
    let b = solid c.args.b.points.now c.args.b.corners.now in
    let lent = lists c.args.points.now c.args.corners.now c.args.origins.now in
    let l = c.in_ok-z.ensures.told.0 in
    let m = c.measure-n in
    ap (λ r. called r lent) (c.from.ensures ∙ ap nothing_made c.on_nobody.ensures) ∙ done_short op a b c.args.a.admitted c.args.b.admitted l (m.ensures.numbered op a b l) lent m.result.triangles m.ensures.counted (sym c.too_short.ensures ∙ c.if-too_short.true)

pub lay_points-requires-clause-z_value : goal.lay_points-requires-clause-z_value
lay_points-requires-clause-z_value c =
    let op = c.args.op in
    let a = solid c.args.a.points.now c.args.a.corners.now in
    let b = solid c.args.b.points.now c.args.b.corners.now in
    let t = c.in_ok-z.ensures.told in
    (t.0.of_z_list, columns_there op a b c.args.a.admitted c.args.b.admitted t.0 (omega (arith, t.3)), vertices_there op a b c.args.a.admitted c.args.b.admitted t.0)

pub lay_points-requires-clause-crossed_in_bounds : goal.lay_points-requires-clause-crossed_in_bounds
lay_points-requires-clause-crossed_in_bounds c =
    let op = c.args.op in
    let a = solid c.args.a.points.now c.args.a.corners.now in
    let b = solid c.args.b.points.now c.args.b.corners.now in
    let lent = lists c.args.points.now c.args.corners.now c.args.origins.now in
    let l = c.in_ok-z.ensures.told.0 in
    let m = c.measure-n in
    points_fit op a b c.args.a.admitted c.args.b.admitted l (m.ensures.numbered op a b l) lent m.result.triangles m.ensures.counted (sym c.too_short.ensures ∙ c.if-too_short.false)

pub returns : goal.returns
returns c =
    let op = c.args.op in
    let a = solid c.args.a.points.now c.args.a.corners.now in
    let b = solid c.args.b.points.now c.args.b.corners.now in
    let lent = lists c.args.points.now c.args.corners.now c.args.origins.now in
    let l = c.in_ok-z.ensures.told.0 in
    let m = c.measure-n in
    done_made op a b c.args.a.admitted c.args.b.admitted l (m.ensures.numbered op a b l) lent m.result.triangles m.ensures.counted
    (sym c.too_short.ensures ∙ c.if-too_short.false)
    c.lay_points.ensures
    c.lay_triangles.ensures
