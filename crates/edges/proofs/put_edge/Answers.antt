-- `put_edge` meets its contract: one edge more, or none.
use mathlib.Core.Path.{◌≡◌, sym, ◌∙◌}
use mathlib.Core.Bool.{true, false}
use mathlib.Core.List.{List, [], ◌∷◌, ◌++◌, append-nil}
use Prim.Native.Nat.{ℕ, ◌+◌, ◌<◌, ◌≤◌}
use native.Mathlib.Omega.{arith}
use Rattle.list_words.proofs.Sums.{All}
use Rattle.solids.specs.Solids.{Half, solid, half_edges, is_edge}
use Rattle.edges.specs.Words.{edges_seen}
use Rattle.edges.proofs.Edges.{edges_next, Earlier, edges_earlier, listed_next}
use Rattle.edges.proofs.put_edge.Goals as goal

-- what is known when the call begins
module _ (corners : List ℕ) (n p q : ℕ) (p_low : p < n) (q_low : q < n) (n_low : n ≤ 128) where
  abbrev so_far : List Half
  so_far = edges_seen corners n p q

  early : All (Earlier p q) so_far
  early = edges_earlier corners n p q n_low (omega arith)

  one_more : is_edge (half_edges (solid [] corners)) (p, q) ≡ true → edges_seen corners n p (q + 1) ≡ so_far ++ ((p, q) ∷ [])
  one_more e = edges_next corners n p q ∙ rw e

  no_more : is_edge (half_edges (solid [] corners)) (p, q) ≡ false → edges_seen corners n p (q + 1) ≡ so_far
  no_more e = edges_next corners n p q ∙ rw e (append-nil so_far)

pub returns-then-joins : goal.returns-then-joins
returns-then-joins c =
    let (a, b, m) = c.requires.p_lt_n in
    let cs = c.args.t.corners.now in
    let n = c.args.n in
    let p = c.args.p in
    let q = c.args.q in
    rw
    (one_more cs n p q a b m (sym c.joins.ensures ∙ c.if-joins.true), c.store-then-joins.ensures, c.store.ensures, c.place-at.ensures.value)
    (listed_next (edges_seen cs n p q) c.args.ends.now c.args.numbers.now c.args.k p q (omega arith) (omega arith) (early cs n p q a b m) c.requires.listed)

pub returns : goal.returns
returns c =
    let (a, b, m) = c.requires.p_lt_n in
    rw (no_more c.args.t.corners.now c.args.n c.args.p c.args.q a b m (sym c.joins.ensures ∙ c.if-joins.false)) c.requires.listed
