-- `count_triangles` meets its contract: the triangles of the first x facets are counted, and no facet has more than 3075.
use mathlib.Core.Path.{refl}
use mathlib.Core.List.{flat_map}
use Prim.Native.Nat.{ℕ, ◌≤◌}
use native.Mathlib.Numerals.{add-one}
use native.Mathlib.Nat.{le_antisymm}
use native.Mathlib.Omega.{arith}
use lib.ListN.{length, length-append}
use Rattle.list_words.specs.Lists.{up_to}
use Rattle.list_words.proofs.UpTo.{flat_up_to_suc}
use Rattle.joined_ends.proofs.Flat.{two_each}
use Rattle.vertex_table.specs.Words as T
use Rattle.vertex_table.proofs.Bound.{boundary_short}
use Rattle.kept_lists.proofs.Dense.{good_dense}
use Rattle.kept_lists.proofs.Counted.{fan_short}
use Rattle.composite_ends.specs.declared.Kept.{Kept}
use Rattle.composite_ends.specs.Words.{IsFacet, rows_of, boundary_of, fan_of}
use Rattle.composite_ends.proofs.Parts.{ready}
use Rattle.triangle_count.proofs.count_triangles.Goals as goal

few : (k : Kept) (x : ℕ) → IsFacet k.crossings x → length (fan_of k x) ≤ 3075
unfolding T.fan_of
few k x h =
    let b = boundary_of k x in
    omega (arith, fan_short x b, two_each b, boundary_short (good_dense k.crossings.plan.sizes k.inc.now k.num.now (rows_of k.crossings) (ready k)) x h)

pub loop-x-init : goal.loop-x-init
unfolding flat_map up_to
loop-x-init c = (omega arith, refl)

pub overflow_add-k : goal.overflow_add-k
overflow_add-k c =
    let k = c.args.kept.now in
    let n = few k c.loop-x.x c.loop-x-test.true in
    record { fits = omega (arith, n, c.fan_size-k.ensures, k.crossings.named.sized.fa, k.crossings.named.sized.fb) }

pub loop-x-preserved : goal.loop-x-preserved
loop-x-preserved c =
    let k = c.args.kept.now in
    let l = c.loop-x in
    let n = few k l.x c.loop-x-test.true in
    (omega (arith, n, c.fan_size-k.ensures), rw (add-one l.x, flat_up_to_suc (fan_of k) l.x, length-append) (omega (arith, l.invariant.1, c.fan_size-k.ensures)))

pub returns-clause-counted : goal.returns-clause-counted
unfolding T.triangles
returns-clause-counted c = rw (← le_antisymm c.loop-x.auto.x-end c.loop-x-test.false) c.loop-x.invariant.1
