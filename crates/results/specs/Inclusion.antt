-- Document 01, "The result": the operations and their three numbers, what can become a vertex of the result, and its inclusion.
use Rattle.std.specs.Prelude.{ℕ, zero, suc, ℤ, pos, negsuc, ◌+ℤ◌, ◌*ℤ◌, Option, Some, None}
use Rattle.points.specs.declared.Point.{Point}
use Rattle.crossings.specs.declared.Crossing.{Crossing}
use Rattle.crossings.specs.Crossings.{count, points, ef, fe}
use Rattle.solids.specs.Solids.{Solid, Half, vertex, edge, facet}
use Rattle.solids.specs.Containment.{in_A, in_B}
use Rattle.results.specs.declared.Operation.{Operation}
use Rattle.results.specs.declared.Operation.TheVariants.{Union, Intersection, Difference}
use Rattle.results.specs.declared.Numbers.{Numbers}

-- "operation code (0 union, 1 intersection, 2 difference)"
abbrev pub chosen : ℕ → Option Operation
chosen zero = Some Union
chosen (suc zero) = Some Intersection
chosen (suc (suc zero)) = Some Difference
chosen (suc (suc (suc n))) = None

-- "cA, cB, cI: union 1, 1, -1; intersection 0, 0, 1; difference 1, 0, -1"
abbrev pub numbers : Operation → Numbers
numbers Union = record { c_a = pos 1; c_b = pos 1; c_i = negsuc 0 }
numbers Intersection = record { c_a = pos 0; c_b = pos 0; c_i = pos 1 }
numbers Difference = record { c_a = pos 1; c_b = pos 0; c_i = negsuc 0 }

abbrev pub cA : Operation → ℤ
cA op = (numbers op).c_a

abbrev pub cB : Operation → ℤ
cB op = (numbers op).c_b

abbrev pub cI : Operation → ℤ
cI op = (numbers op).c_i

-- What can become a vertex of the result: a vertex of A, the crossing of an edge of A and a facet of B, that of a facet of A and an edge of B, a vertex of B.
pub data Key : Type 0 where
  vA : ℕ → Key
  eAfB : Half → ℕ → Key
  fAeB : ℕ → Half → Key
  vB : ℕ → Key

-- The one place where the crossings of edge and facet are asked for
unfoldable pub edge_facet : Solid → Solid → Half → ℕ → Crossing
edge_facet a b e f = ef (edge a e) (facet b f)

unfoldable pub facet_edge : Solid → Solid → ℕ → Half → Crossing
facet_edge a b f e = fe (facet a f) (edge b e)

-- "Inclusion: cA + cI·X(vA,B), cB + cI·X(A,vB), and cI·X for edge with facet."
unfoldable pub inclusion : Operation → Solid → Solid → Key → ℤ
inclusion op a b (vA i) = cA op +ℤ cI op *ℤ in_B (vertex a i) b
inclusion op a b (eAfB e f) = cI op *ℤ count (edge_facet a b e f)
inclusion op a b (fAeB f e) = cI op *ℤ count (facet_edge a b f e)
inclusion op a b (vB i) = cB op +ℤ cI op *ℤ in_A a (vertex b i)

-- "A new vertex in a result is A's point." The others are copied.
unfoldable pub place : Solid → Solid → Key → Point
place a b (vA i) = vertex a i
place a b (eAfB e f) = (points (edge_facet a b e f)).a
place a b (fAeB f e) = (points (facet_edge a b f e)).a
place a b (vB i) = vertex b i
