-- `weigh` meets its contract: the vertices below i are weighed.
use mathlib.Core.Path.{◌≡◌, ap, ◌∙◌}
use native.Mathlib.Omega.{arith}
use lib.IntN.{◌+ℤ◌, ◌*ℤ◌}
use Rattle.list_words.proofs.Widths.{back_16, back_32}
use Rattle.inclusions.specs.Words.{weight}
use Rattle.inclusions.proofs.Weighing.{weighed_next}
use Rattle.inclusions.proofs.weigh.Goals as goal

pub contained_near-x-requires : goal.contained_near-x-requires
contained_near-x-requires c =
    let l = c.loop-i in
    let f = c.requires.facing.0 in
    (omega arith, record { solid = f.solid; thing = f.thing; few = f.few; enough = λ i from to. f.enough i (omega arith) (omega arith) })

pub loop-i-preserved : goal.loop-i-preserved
unfolding weight
loop-i-preserved c =
    let l = c.loop-i in
    let side = c.args.side.now in
    let x = c.contained_near-x in
    let n = c.weighed in
    let value : n.result ≡ weight side l.i =
    n.ensures.value
    ∙ rw (back_32 side.alone (omega (arith, side.alone_small)), back_32 side.times (omega (arith, side.times_small)), back_32 x.result (omega (arith, x.ensures.small)))
    (ap (λ m. side.alone +ℤ side.times *ℤ m) x.ensures.value)
    in
    rw (back_16 n.result n.ensures.small)
    (λ old w. weighed_next side old l.inc l.i n.result (omega (arith, c.loop-i-test.true, l.auto.inc, c.requires.facing, c.requires.room)) value n.ensures.small (l.invariant old w))
