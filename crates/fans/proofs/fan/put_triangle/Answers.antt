-- `put_triangle` meets its contract: nothing is stored if a is p or q, else one triangle.
use Rattle.fans.proofs.Fans.{fan_at_p, fan_at_q, fan_apart, laid_none, laid_one}
use Rattle.fans.proofs.fan.put_triangle.Goals as goal
use Rattle.fans.proofs.fan.put_triangle.Goals.{then-a-p-via-then-a-p, then-a-p-via-else-a-p+then-a-q}

pub returns-then-a-p-clause-laid : goal.returns-then-a-p-clause-laid
returns-then-a-p-clause-laid c =
    let a = c.args in
    elim c.then-a-p.branch [
      | then-a-p-via-then-a-p w ↦ rw (fan_at_p a.origin a.a a.p a.q w.if-a-p.true) (laid_none a.corners.now a.origins.now a.k)
      | then-a-p-via-else-a-p+then-a-q w ↦ rw (fan_at_q a.origin a.a a.p a.q w.if-a-p.false w.if-a-q.true) (laid_none a.corners.now a.origins.now a.k)
    ]

pub returns-clause-laid : goal.returns-clause-laid
returns-clause-laid c =
    let a = c.args in
    rw (fan_apart a.origin a.a a.p a.q c.if-a-p.false c.if-a-q.false)
    (laid_one a.origin a.a a.p a.q a.corners.now a.origins.now a.k c.put_three.ensures c.store.ensures)
