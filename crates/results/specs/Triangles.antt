-- Document 01, "The result": the boundary of each facet, its triangles with their origins, and the result's three lists.
use Rattle.std.specs.Prelude.{ℕ, ◌+◌, Bool, not, ◌||◌, eqb, ℤ, Float}
use mathlib.Core.List.{List, [], ◌∷◌, ◌++◌, map, flat_map}
use Rattle.list_words.specs.Lists.{up_to, keep, least, turned}
use Rattle.points.specs.Points.{coordinates}
use Rattle.solids.specs.Solids.{Solid, Half, facets, facet_half_edges, edge_of}
use Rattle.results.specs.declared.Operation.{Operation}
use Rattle.results.specs.Inclusion.{Key, inclusion, place}
use Rattle.results.specs.Vertices.{keys, kept, number}
use Rattle.results.specs.Pieces.{SignedEnd, ends_of_eA, ends_of_fAfB, ends_of_eB, gathered, pieces, as_half}

-- a triangle's corners in the result, and its origin
pub record Triangle : Type 0 where
  pub a : ℕ
  pub p : ℕ
  pub q : ℕ
  pub origin : ℕ

-- "let a be the smallest result number on that boundary"; an empty boundary has none
unfoldable pub smallest : List Half → ℕ
smallest [] = 0
smallest (h ∷ hs) = least h.0 (flat_map (λ (k : Half). k.0 ∷ k.1 ∷ []) (h ∷ hs))

abbrev pub at_end : ℕ → Half → Bool
at_end a h = eqb a h.0 || eqb a h.1

-- "each boundary half-edge p→q, in order, without a at either end gives the triangle a,p,q"
unfoldable pub fan : ℕ → List Half → List Triangle
fan origin hs =
    let a = smallest hs in
    map (λ (h : Half). record { a = a; p = h.0; q = h.1; origin = origin }) (keep (λ h. not (at_end a h)) hs)

module _ (inclusion : Key → ℤ) (number : Key → ℕ) (a b : Solid) where
  abbrev pub joined : List SignedEnd → List Half
  joined es = pieces (gathered number es)

  abbrev pub pieces_of_eA : Half → List Half
  pieces_of_eA e = joined (ends_of_eA inclusion b e)

  abbrev pub pieces_of_fAfB : ℕ → ℕ → List Half
  pieces_of_fAfB f g = joined (ends_of_fAfB inclusion a b f g)

  abbrev pub pieces_of_eB : Half → List Half
  pieces_of_eB e = joined (ends_of_eB inclusion a e)

  -- "A facet of A is bounded by the pieces of its half-edges, then by its pieces with each facet of B as joined."
  unfoldable pub boundary_A : ℕ → List Half
  boundary_A f =
      flat_map (λ h. as_half h (pieces_of_eA (edge_of h))) (facet_half_edges a f) ++ flat_map (λ g. pieces_of_fAfB f g) (up_to (facets b))

  -- "A facet of B is bounded by its pieces with each facet of A, turned round, then by the pieces of its half-edges."
  unfoldable pub boundary_B : ℕ → List Half
  boundary_B g =
      flat_map (λ f. map turned (pieces_of_fAfB f g)) (up_to (facets a))
      ++ flat_map (λ h. as_half h (pieces_of_eB (edge_of h))) (facet_half_edges b g)

  -- "A's facets come first, then B's." "its origin: A's facet number, or A's facet count plus B's"
  unfoldable pub triangles : List Triangle
  triangles =
      flat_map (λ f. fan f (boundary_A f)) (up_to (facets a)) ++ flat_map (λ g. fan (facets a + g) (boundary_B g)) (up_to (facets b))

-- ---- the three lists of a result

pub record Result : Type 0 where
  pub points : List Float
  pub corners : List ℕ
  pub origins : List ℕ

abbrev pub corners_of : Triangle → List ℕ
corners_of t = t.a ∷ t.p ∷ t.q ∷ []

unfoldable pub listed : Solid → Solid → List Key → List Triangle → Result
listed a b ks ts =
    record {
      points = flat_map (λ k. coordinates (place a b k)) ks;
      corners = flat_map corners_of ts;
      origins = map (λ (t : Triangle). t.origin) ts;
    }

unfoldable pub result : Operation → Solid → Solid → Result
result op a b =
    let inc = inclusion op a b in
    let ks = keys a b in
    listed a b (kept inc ks) (triangles inc (number inc ks) a b)
