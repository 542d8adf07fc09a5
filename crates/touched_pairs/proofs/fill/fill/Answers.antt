-- `fill` meets its contract.
use native.Mathlib.Omega.{arith}
use Rattle.kept_lists.specs.Words.{rows, Edges}
use Rattle.kept_lists.proofs.Marked.{edges_of, edges_more, pairs_of}
use Rattle.touched_pairs.proofs.fill.fill.Goals as goal

pub returns : goal.returns
returns c =
    let e = c.fill_edges in
    let f = c.fill_facets in
    let a = c.args in
    λ base.
    let edges : Edges a.z (rows a.first.now a.crossed.now base) e.new.marks = edges_of (omega arith) (omega arith) e.ensures in
    record { edges = edges_more edges f.ensures.more f.auto.marks; pairs = pairs_of c.requires.columns.1 edges f.ensures.spread (omega arith) (omega arith) }
