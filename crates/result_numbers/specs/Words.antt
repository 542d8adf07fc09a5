-- Words of contracts; no public statement needs them. The numbers of the kept vertices: A's from 0 on, B's behind the crossings.
use Rattle.std.specs.Prelude.{List, ℕ}
use Rattle.solids.specs.Solids.{Solid, vertices}
use Rattle.results.specs.declared.Operation.{Operation}
use Rattle.fans.specs.Words.{Ranked}
use Rattle.layouts.specs.Words.{sizes}
use Rattle.vertex_table.specs.Words.{of_B, inclusions}

-- base is the number of the first crossing, n how many vertices there are
pub record Numbered (op : Operation) (a b : Solid) (num : List ℕ) (base n : ℕ) : Type 0 where
  pub of_A : Ranked (inclusions op a b) num 0 0 (vertices a) base
  pub of_B : Ranked (inclusions op a b) num (of_B (sizes a b) 0) (vertices a) (vertices b) n
