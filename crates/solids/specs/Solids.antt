-- Document 01, "Solids and admission" (what a solid is) and "Edges and signs".
use Rattle.std.specs.Prelude.{ℕ, ◌+◌, ◌*◌, ◌/◌, Bool, ◌&&◌, cond, length, get_or, ltb, eqb, ℤ, neg_ℤ, Float}
use mathlib.Core.List.{List, [], ◌∷◌, map, flat_map}
use Rattle.std.specs.Borrow.{Bor}
use Rattle.list_words.specs.Lists.{up_to, keep, times, turned}
use Rattle.points.specs.declared.Point.{Point}
use Rattle.points.specs.Points.{zero_number}
use Rattle.crossings.specs.declared.Edge.{Edge}
use Rattle.crossings.specs.declared.Facet.{Facet}

-- "A solid is a list of points (three coordinates each) and a list of facets (three vertex numbers each, counted from 0)."
pub record Solid : Type 0 where
  pub points : List Float
  pub corners : List ℕ

abbrev pub solid : List Float → List ℕ → Solid
solid points corners = record { points = points; corners = corners }

-- the solid that two lists hold which a caller lends
abbrev pub lent : Bor (List Float) → Bor (List ℕ) → Solid
lent points corners = solid points.now corners.now

-- "The solid with no vertices is admitted; it means nothing"
abbrev pub nothing : Solid
nothing = solid [] []

abbrev pub vertices : Solid → ℕ
vertices s = length s.points / 3

abbrev pub facets : Solid → ℕ
facets s = length s.corners / 3

abbrev pub vertex : Solid → ℕ → Point
vertex s i =
    record { x = get_or s.points (3 * i + 0) zero_number; y = get_or s.points (3 * i + 1) zero_number; z = get_or s.points (3 * i + 2) zero_number }

-- corner 0, 1 or 2 of facet f
abbrev pub corner : Solid → ℕ → ℕ → ℕ
corner s f k = get_or s.corners (3 * f + k) 0

-- ---- half-edges

-- from one vertex number to another
abbrev pub Half : Type 0
Half = ℕ × ℕ

abbrev pub same_half : Half → Half → Bool
same_half h k = eqb h.0 k.0 && eqb h.1 k.1

-- "A facet p,q,r has the half-edges p→q, q→r, r→p."
abbrev pub half_edges_of : ℕ → ℕ → ℕ → List Half
half_edges_of p q r = (p, q) ∷ (q, r) ∷ (r, p) ∷ []

abbrev pub facet_half_edges : Solid → ℕ → List Half
facet_half_edges s f = half_edges_of (corner s f 0) (corner s f 1) (corner s f 2)

unfoldable pub half_edges : Solid → List Half
half_edges s = flat_map (facet_half_edges s) (up_to (facets s))

-- the half-edges P→Q of a list, in number
abbrev pub number_of : Half → List Half → ℕ
number_of h hs = times same_half h hs

-- ---- edges

-- all pairs of numbers below n, "ordered by lower, then higher number"
unfoldable pub pairs : ℕ → List Half
pairs n = flat_map (λ p. map (λ q. (p, q)) (up_to n)) (up_to n)

-- "An edge joins two vertices that some half-edge joins; it starts at the lower number."
unfoldable pub is_edge : List Half → Half → Bool
is_edge hs e = ltb e.0 e.1 && ltb 0 (number_of e hs + number_of (turned e) hs)

unfoldable pub edges : Solid → List Half
edges s = let hs = half_edges s in keep (is_edge hs) (pairs (vertices s))

-- does a half-edge run along its edge, or against it
abbrev pub along : Half → Bool
along h = ltb h.0 h.1

abbrev pub edge_of : Half → Half
edge_of h = cond (along h) h (turned h)

-- "A half-edge against its edge has the negated value and the same points."
abbrev pub signed : Half → ℤ → ℤ
signed h n = cond (along h) n (neg_ℤ n)

-- ---- the things that are paired

abbrev pub edge : Solid → Half → Edge
edge s e = record { start = vertex s e.0; end = vertex s e.1 }

abbrev pub facet_with : Solid → ℕ → ℕ → ℕ → Facet
facet_with s p q r =
    record { p = vertex s p; q = vertex s q; r = vertex s r; pq = along (p, q); qr = along (q, r); rp = along (r, p) }

abbrev pub facet : Solid → ℕ → Facet
facet s f = facet_with s (corner s f 0) (corner s f 1) (corner s f 2)
