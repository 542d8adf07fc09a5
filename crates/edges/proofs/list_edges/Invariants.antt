use Rattle.edges.specs.Words.{edges_seen, Listed}
use Rattle.edges.proofs.list_edges.Given as goal

abbrev pub invariant-loop-p : goal.invariant-loop-p
invariant-loop-p l = Listed (edges_seen l.t.corners.now l.n l.p 0) l.ends l.numbers l.many
