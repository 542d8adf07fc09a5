-- `boundary` meets its contract: half-edges and pairs, in the order of A's facets or of B's.
use Rattle.std.proofs.Common.{◌≡◌, ℕ, ◌+◌, ◌<◌, ◌≤◌, ◌++◌, length, arith}
use borrow.Author.Tests.{lt-ltb, le-ltb}
use Rattle.joined_ends.proofs.Flat.{behind_more, length_numbers}
use Rattle.joined_ends.specs.Words.{flat}
use Rattle.vertex_table.specs.Words.{boundary}
use Rattle.kept_lists.proofs.Same.{same_row}
use Rattle.composite_ends.specs.declared.Kept.{Kept}
use Rattle.composite_ends.specs.Words.{IsFacet, rows_of, row_of, round_of, boundary_of}
use Rattle.result_triangles.proofs.boundary.boundary.Goals as goal

-- the pieces of the half-edges and those with the other solid's facets, and how much room they take
module _ (k : Kept) (x : ℕ) (h : IsFacet k.crossings x) where
  of_A : x < k.crossings.plan.sizes.fa → boundary_of k x ≡ round_of k x ++ row_of k.crossings x
  unfolding boundary
  of_A l = rw (lt-ltb _ _ l, same_row k.crossings.halves.now k.crossings.plan.sizes k.inc.now k.num.now (rows_of k.crossings) k.crossings.named x h)

  of_B : k.crossings.plan.sizes.fa ≤ x → boundary_of k x ≡ row_of k.crossings x ++ round_of k x
  unfolding boundary
  of_B l = rw (le-ltb _ _ l, same_row k.crossings.halves.now k.crossings.plan.sizes k.inc.now k.num.now (rows_of k.crossings) k.crossings.named x h)

  room_A : x < k.crossings.plan.sizes.fa → length (flat (boundary_of k x)) ≡ length (flat (round_of k x)) + length (flat (row_of k.crossings x))
  room_A l = rw (of_A l, length_numbers)

  room_B : k.crossings.plan.sizes.fa ≤ x → length (flat (boundary_of k x)) ≡ length (flat (row_of k.crossings x)) + length (flat (round_of k x))
  room_B l = rw (of_B l, length_numbers)

pub round-k-requires-clause-x_in_bounds : goal.round-k-requires-clause-x_in_bounds
round-k-requires-clause-x_in_bounds c = let a = c.args in omega (arith, room_A a.kept.now a.x c.requires.facet c.if-x-kept.true)

pub row-requires-clause-x_in_bounds : goal.row-requires-clause-x_in_bounds
row-requires-clause-x_in_bounds c = let a = c.args in omega (arith, room_A a.kept.now a.x c.requires.facet c.if-x-kept.true)

pub returns-then-x-kept : goal.returns-then-x-kept
returns-then-x-kept c = let a = c.args in rw (of_A a.kept.now a.x c.requires.facet c.if-x-kept.true) (behind_more _ _ c.round-k.ensures c.row.ensures)

pub row-k-requires-clause-x_in_bounds : goal.row-k-requires-clause-x_in_bounds
row-k-requires-clause-x_in_bounds c = let a = c.args in omega (arith, room_B a.kept.now a.x c.requires.facet c.if-x-kept.false)

pub round-requires-clause-x_in_bounds : goal.round-requires-clause-x_in_bounds
round-requires-clause-x_in_bounds c = let a = c.args in omega (arith, room_B a.kept.now a.x c.requires.facet c.if-x-kept.false)

pub returns : goal.returns
returns c = let a = c.args in rw (of_B a.kept.now a.x c.requires.facet c.if-x-kept.false) (behind_more _ _ c.row-k.ensures c.round.ensures)
