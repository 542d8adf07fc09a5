-- `round` meets its contract: one half-edge after the other.
use mathlib.Core.Path.{◌≡◌}
use mathlib.Core.List.{◌++◌}
use Prim.Native.Nat.{ℕ, ◌+◌, ◌*◌}
use native.Mathlib.Omega.{arith}
use lib.ListN.{length}
use Rattle.joined_ends.proofs.Flat.{behind_more, length_numbers}
use Rattle.joined_ends.specs.Words.{flat}
use Rattle.vertex_table.specs.Words.{round}
use Rattle.kept_lists.proofs.Same.{same_half}
use Rattle.composite_ends.specs.declared.Kept.{Kept}
use Rattle.composite_ends.specs.Words.{IsFacet, rows_of, half_of, round_of}
use Rattle.result_triangles.proofs.boundary.round.Goals as goal

-- the three half-edges, as the lists have them
module _ (k : Kept) (x : ℕ) (h : IsFacet k.crossings x) where
  round_is : round_of k x ≡ half_of k (3 * x) ++ (half_of k (3 * x + 1) ++ half_of k (3 * x + 2))
  unfolding round
  round_is =
      let same = same_half k.crossings.halves.now k.crossings.plan.sizes k.inc.now k.num.now (rows_of k.crossings) k.crossings.named in
      rw (same (3 * x) (omega arith), same (3 * x + 1) (omega arith), same (3 * x + 2) (omega arith))

  room : length (flat (round_of k x)) ≡ length (flat (half_of k (3 * x))) + (length (flat (half_of k (3 * x + 1))) + length (flat (half_of k (3 * x + 2))))
  room = rw (round_is, length_numbers, length_numbers (half_of k (3 * x + 1)))

pub half_pieces-p-requires-clause-h_in_bounds : goal.half_pieces-p-requires-clause-h_in_bounds
half_pieces-p-requires-clause-h_in_bounds c = let a = c.args in omega (arith, room a.kept.now a.x c.requires.facet, c.requires.x_in_bounds)

pub half_pieces-q-requires-clause-h_in_bounds : goal.half_pieces-q-requires-clause-h_in_bounds
half_pieces-q-requires-clause-h_in_bounds c =
    let a = c.args in
    let p = c.half_pieces-p in
    omega (arith, room a.kept.now a.x c.requires.facet, c.requires.x_in_bounds, p.ensures.next, p.auto.list)

pub half_pieces-requires-clause-h_in_bounds : goal.half_pieces-requires-clause-h_in_bounds
half_pieces-requires-clause-h_in_bounds c =
    let a = c.args in
    let p = c.half_pieces-p in
    let q = c.half_pieces-q in
    omega (arith, room a.kept.now a.x c.requires.facet, c.requires.x_in_bounds, p.ensures.next, p.auto.list, q.ensures.next, q.auto.list)

pub returns : goal.returns
returns c =
    let a = c.args in
    let half = half_of a.kept.now in
    rw (round_is a.kept.now a.x c.requires.facet)
    (behind_more (half (3 * a.x)) (half (3 * a.x + 1) ++ half (3 * a.x + 2)) c.half_pieces-p.ensures
    (behind_more (half (3 * a.x + 1)) (half (3 * a.x + 2)) c.half_pieces-q.ensures c.half_pieces.ensures))
