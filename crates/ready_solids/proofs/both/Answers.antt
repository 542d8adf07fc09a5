-- `both` meets its contract: A, then B behind it.
use mathlib.Core.Path.{◌≡◌, sym, ap, ◌∙◌, subst}
use mathlib.Core.List.{List}
use Prim.Native.Nat.{ℕ}
use native.Mathlib.Omega.{arith}
use lib.ListN.{length, drop, length-drop}
use lib.Seq.{length-sets, length-take-le}
use Rattle.ready_solids.specs.Words.{solid_of}
use Rattle.edges.specs.Words.{Ready}
use Rattle.layouts.specs.Words.{half_list}
use Rattle.half_edges.proofs.Fill.{front_halves}
use Rattle.ready_solids.proofs.Prepared.{few_halves, first_part, second_part}
use Rattle.ready_solids.proofs.both.Goals as goal

-- B's part of the list
rest : (ends : List ℕ) → length ends ≡ 1536 → length (drop 768 ends) ≡ 768
rest ends h = length-drop 768 ends ∙ omega (arith, h)

pub slice_bounds-ready-end-2 : goal.slice_bounds-ready-end-2
slice_bounds-ready-end-2 c = sym (length-take-le 768 c.args.ends.now (omega (arith, c.requires.ends_len.0)))

pub ready-ea-requires-clause-ends_len : goal.ready-ea-requires-clause-ends_len
ready-ea-requires-clause-ends_len c = length-take-le 768 c.args.ends.now (omega (arith, c.requires.ends_len.0))

pub ready-ea-requires-clause-corners_in_bounds : goal.ready-ea-requires-clause-corners_in_bounds
ready-ea-requires-clause-corners_in_bounds c =
    omega (arith, few_halves (solid_of c.args.a) (solid_of c.args.b) c.args.a.admitted c.args.b.admitted, c.requires.ends_len.1)

pub ready-eb-requires-clause-corners_in_bounds : goal.ready-eb-requires-clause-corners_in_bounds
ready-eb-requires-clause-corners_in_bounds c =
    let a = solid_of c.args.a in
    let e = ap length c.ready-ea.ensures.halves ∙ length-sets c.args.halves.now 0 (half_list a) in
    omega (arith, e, few_halves a (solid_of c.args.b) c.args.a.admitted c.args.b.admitted, c.requires.ends_len.1)

pub returns-clause-ready_a : goal.returns-clause-ready_a
returns-clause-ready_a c =
    let x = c.ready-ea in
    let y = c.ready-eb in
    let ends = c.args.ends.now in
    subst (Ready c.args.a.points.now c.args.a.corners.now)
    (sym (first_part x.new.ends y.new.ends (drop 768 ends) x.ensures.ready.room y.ensures.ready.room (rest ends c.requires.ends_len.0))) x.ensures.ready

pub returns-clause-ready_b : goal.returns-clause-ready_b
returns-clause-ready_b c =
    let x = c.ready-ea in
    let y = c.ready-eb in
    let ends = c.args.ends.now in
    subst (Ready c.args.b.points.now c.args.b.corners.now)
    (sym (second_part x.new.ends y.new.ends (drop 768 ends) x.ensures.ready.room y.ensures.ready.room (rest ends c.requires.ends_len.0))) y.ensures.ready

pub returns-clause-front : goal.returns-clause-front
returns-clause-front c =
    let a = solid_of c.args.a in
    let b = solid_of c.args.b in
    rw c.sizes.ensures
    (front_halves a b c.args.halves.now (omega (arith, few_halves a b c.args.a.admitted c.args.b.admitted, c.requires.ends_len.1)) c.ready-ea.ensures.halves c.ready-eb.ensures.halves)
