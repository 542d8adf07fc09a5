-- `put_fan` meets its contract: the triangles of the first i pieces are stored.
use mathlib.Core.Path.{◌≡◌}
use Prim.Native.Nat.{◌*◌}
use native.Mathlib.Nat.{le_antisymm}
use native.Mathlib.Omega.{arith}
use lib.Seq.{length-take-le}
use Rattle.fans.proofs.Fans.{laid_none, laid_more, fan_first, fan_none, fan_start, fan_next}
use Rattle.fans.proofs.fan.put_fan.Goals as goal

pub returns-in_default-clause-laid : goal.returns-in_default-clause-laid
returns-in_default-clause-laid c =
    let a = c.args in
    let z : a.n ≡ 0 = omega (arith, length-take-le (2 * a.n) a.list.now c.requires.0, c.in_default.ensures) in
    rw (fan_none a.origin a.list.now a.n z) (laid_none a.corners.now a.origins.now a.at)

pub loop-i-init : goal.loop-i-init
loop-i-init c = let a = c.args in (omega arith, rw (fan_start a.origin c.in-Some.a a.list.now) (laid_none a.corners.now a.origins.now a.at))

pub loop-i-preserved : goal.loop-i-preserved
loop-i-preserved c =
    let a = c.args in (
      omega (arith, c.put_triangle-k.ensures.small),
      rw (fan_next a.origin c.in-Some.a a.list.now c.loop-i.i) (laid_more c.loop-i.invariant.1 c.put_triangle-k.ensures.laid),
    )

pub returns-clause-laid : goal.returns-clause-laid
returns-clause-laid c =
    let l = c.loop-i in
    let a = c.args in
    let e = le_antisymm c.loop-i-test.false l.auto.i-end in rw (fan_first a.origin c.in-Some.a a.list.now a.n c.requires.0 c.in-Some.ensures, e) l.invariant.1
