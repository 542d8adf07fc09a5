-- Document 01, "The result": composite edges, the signed ends of their vertices, and the pieces that they are joined to.
use Rattle.std.specs.Prelude.{ℕ, cond, replicate, ℤ, neg_ℤ}
use mathlib.Core.List.{List, ◌∷◌, ◌++◌, map, flat_map, zip}
use Rattle.list_words.specs.Lists.{up_to, above, below, turned}
use Rattle.solids.specs.Solids.{Solid, Half, facets, facet_half_edges, along, edge_of, signed}
use Rattle.results.specs.declared.End.{End}
use Rattle.results.specs.Inclusion.{Key, vA, eAfB, fAeB, vB}

-- ---- "A composite edge gives its vertices a signed end count."

pub record SignedEnd : Type 0 where
  pub key : Key
  pub count : ℤ

abbrev pub minus : SignedEnd → SignedEnd
minus e = record { key = e.key; count = neg_ℤ e.count }

module _ (inclusion : Key → ℤ) where
  abbrev pub plain : Key → SignedEnd
  plain k = record { key = k; count = inclusion k }

  -- the inclusion, "signed as half-edges"
  abbrev pub signed_as : Half → Key → SignedEnd
  signed_as h k = record { key = k; count = signed h (inclusion k) }

  -- "start (minus its inclusion), end (its inclusion), then crossings"
  abbrev pub ends_along : Key → Key → List Key → List SignedEnd
  ends_along start end crossings = minus (plain start) ∷ plain end ∷ map plain crossings

  -- "Edge of A: .. then crossings by facet of B"
  unfoldable pub ends_of_eA : Solid → Half → List SignedEnd
  ends_of_eA b e = ends_along (vA e.0) (vA e.1) (map (eAfB e) (up_to (facets b)))

  -- "Facet of A with facet of B: A's three half-edges (minus the inclusion with B's facet, signed as half-edges), then B's three (the inclusion with
  -- A's facet, signed so)."
  unfoldable pub ends_of_fAfB : Solid → Solid → ℕ → ℕ → List SignedEnd
  ends_of_fAfB a b f g =
      map (λ h. minus (signed_as h (eAfB (edge_of h) g))) (facet_half_edges a f) ++ map (λ h. signed_as h (fAeB f (edge_of h))) (facet_half_edges b g)

  -- "Edge of B: start (minus), end (plus), then crossings by facet of A."
  unfoldable pub ends_of_eB : Solid → Half → List SignedEnd
  ends_of_eB a e = ends_along (vB e.0) (vB e.1) (map (λ f. fAeB f e) (up_to (facets a)))

-- ---- joining

-- "The ends of one composite edge are gathered in listing order", each with its vertex's number in the result
abbrev pub gathered : (Key → ℕ) → List SignedEnd → List End
gathered number es = map (λ (e : SignedEnd). record { vertex = number e.key; count = e.count }) es

-- "a count n above 0 is n ends, below 0 it is that many starts"
unfoldable pub starts : List End → List ℕ
starts es = flat_map (λ (e : End). replicate (below e.count) e.vertex) es

unfoldable pub stops : List End → List ℕ
stops es = flat_map (λ (e : End). replicate (above e.count) e.vertex) es

-- "The first start is joined to the first end, and so on."
unfoldable pub pieces : List End → List Half
pieces es = zip (starts es) (stops es)

-- "A half-edge against its edge has each piece turned round, in the same order."
abbrev pub as_half : Half → List Half → List Half
as_half h ps = cond (along h) ps (map turned ps)
