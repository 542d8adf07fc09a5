use Rattle.edges.specs.Words.{edges_seen, Listed}
use Rattle.edges.proofs.put_row.Given as goal

abbrev pub invariant-loop-q : goal.invariant-loop-q
invariant-loop-q l = Listed (edges_seen l.t.corners.now l.n l.p l.q) l.ends l.numbers l.many
