-- `put_triangles` meets its contract: the triangles of the first x facets are stored.
use Rattle.std.proofs.Common.{refl, ℕ, ◌≤◌, length, arith, add-one}
use mathlib.Core.List.{flat_map}
use native.Mathlib.Nat.{le_antisymm}
use Rattle.list_words.specs.Lists.{up_to}
use Rattle.list_words.proofs.UpTo.{flat_up_to_suc}
use Rattle.joined_ends.specs.Words.{flat}
use Rattle.joined_ends.proofs.Flat.{firsts_behind}
use Rattle.fans.proofs.Fans.{laid_none, laid_more}
use Rattle.vertex_table.specs.Words as T
use Rattle.vertex_table.proofs.Bound.{boundary_short}
use Rattle.kept_lists.proofs.Dense.{good_dense}
use Rattle.composite_ends.specs.declared.Kept.{Kept}
use Rattle.composite_ends.specs.Words.{IsFacet, rows_of, boundary_of, fan_of}
use Rattle.composite_ends.proofs.Parts.{ready}
use Rattle.result_triangles.proofs.put_triangles.Goals as goal

short : (k : Kept) (x : ℕ) → IsFacet k.crossings x → length (flat (boundary_of k x)) ≤ 6150
short k = boundary_short (good_dense k.crossings.plan.sizes k.inc.now k.num.now (rows_of k.crossings) (ready k))

pub loop-x-init : goal.loop-x-init
unfolding flat_map up_to
loop-x-init c = let a = c.args in (omega arith, refl, laid_none a.corners.now a.origins.now 0)

pub boundary-m-requires-clause-x_in_bounds : goal.boundary-m-requires-clause-x_in_bounds
boundary-m-requires-clause-x_in_bounds c =
    let l = c.loop-x in
    omega (arith, short c.args.kept.now l.x c.loop-x-test.true, c.requires.room, l.invariant.1)

pub put_fan-k-requires : goal.put_fan-k-requires
put_fan-k-requires c =
    let k = c.args.kept.now in
    let l = c.loop-x in
    let b = c.boundary-m in
    let h = c.loop-x-test.true in
    let r = short k l.x h in
    (omega (arith, b.ensures.next, r, l.invariant.1, c.requires.room), omega (arith, b.ensures.next, r, l.invariant.0, h, k.crossings.named.sized.fa, k.crossings.named.sized.fb))

pub loop-x-preserved : goal.loop-x-preserved
unfolding T.fan_of
loop-x-preserved c =
    let k = c.args.kept.now in
    let l = c.loop-x in
    let b = c.boundary-m in
    let p = c.put_fan-k in
    let r = short k l.x c.loop-x-test.true in
    let e = firsts_behind (boundary_of k l.x) l.list b.new.list b.result (omega (arith, b.ensures.next, r, l.invariant.1, c.requires.room)) b.ensures in (
      omega (arith, p.ensures.small, b.ensures.next, r, l.invariant.0),
      omega arith,
      rw (add-one l.x, flat_up_to_suc (fan_of k) l.x) (laid_more l.invariant.2 (rw e.0 at p.ensures.laid)),
    )

pub returns-clause-laid : goal.returns-clause-laid
unfolding T.triangles
returns-clause-laid c =
    let l = c.loop-x in
    rw (← le_antisymm l.auto.x-end c.loop-x-test.false) l.invariant.2
