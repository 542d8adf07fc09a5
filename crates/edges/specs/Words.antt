-- Words of the contracts between functions of this crate; no public statement needs them.
use Rattle.std.specs.Prelude.{◌≡◌, ℕ, ◌*◌, ◌≤◌, Float, length, get_or, take}
use mathlib.Core.List.{List, [], ◌∷◌, ◌++◌, map, flat_map, Memᴰ}
use Rattle.list_words.specs.Lists.{up_to, keep, before}
use Rattle.solids.specs.Solids.{Solid, Half, solid, same_half, half_edges, pairs, is_edge, edges}
use Rattle.solids.specs.Words.{place, Named}

-- ---- the edges, listed row by row of the table

-- the pairs below n that come before p,q
unfoldable pub seen : ℕ → ℕ → ℕ → List Half
seen n p q = flat_map (λ r. map (λ s. (r, s)) (up_to n)) (up_to p) ++ map (λ s. (p, s)) (up_to q)

-- those of them that are edges, where the half-edges are those of the corners
unfoldable pub edges_seen : List ℕ → ℕ → ℕ → ℕ → List Half
edges_seen corners n p q = keep (is_edge (half_edges (solid [] corners))) (seen n p q)

-- an edge's number is its place in the list
abbrev pub edge_number : Half → List Half → ℕ
edge_number e es = length (before same_half e es)

abbrev pub two_each : List Half → List ℕ
two_each es = flat_map (λ (e : Half). e.0 ∷ e.1 ∷ []) es

-- Edges as code keeps them: k of them, two numbers each in a list with room for 384, and at each edge's place in a table like that of the counts its number
pub record Listed (es : List Half) (ends numbers : List ℕ) (k : ℕ) : Type 0 where
  pub many : k ≡ length es
  pub room : length ends ≡ 768
  pub size : length numbers ≡ 16384
  pub front : length es ≤ 384 → take (2 * length es) ends ≡ two_each es
  pub at : (e : Half) → Memᴰ e es → get_or numbers (place e) 0 ≡ edge_number e es

-- all edges among the first n vertices; for a solid of n vertices these are its edges
unfoldable pub edges_of : List ℕ → ℕ → List Half
edges_of corners n = keep (is_edge (half_edges (solid [] corners))) (pairs n)

-- ---- for who reads the list

-- the edge with a number
abbrev pub edge_numbered : Solid → ℕ → Half
edge_numbered s e = get_or (edges s) e (0, 0)

-- a solid's corners name its vertices, and its edges' ends stand in a list
pub record Ready (points : List Float) (corners ends : List ℕ) : Type 0 where
  pub named : Named points corners
  pub few_points : length points ≤ 384
  pub few : length corners ≤ 768
  pub room : length ends ≡ 768
  pub edges_few : length (edges (solid points corners)) ≤ 384
  pub front : take (2 * length (edges (solid points corners))) ends ≡ two_each (edges (solid points corners))
