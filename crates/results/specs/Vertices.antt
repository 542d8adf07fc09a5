-- Document 01, "The result": which vertices are kept, in which order, and a vertex's number in the result.
use Rattle.std.specs.Prelude.{ℕ, Bool, length, ℤ}
use mathlib.Core.List.{List, [], ◌∷◌, ◌++◌, map, flat_map}
use Rattle.list_words.specs.Lists.{up_to, keep, before, nonzero, same}
use Rattle.solids.specs.Solids.{Solid, vertices, facets, edges}
use Rattle.results.specs.Inclusion.{Key, vA, eAfB, fAeB, vB}

-- "A's vertices; crossings by edge of A, then facet of B; crossings by facet of A, then edge of B; B's vertices"
unfoldable pub keys : Solid → Solid → List Key
keys a b =
    map vA (up_to (vertices a)) ++ (flat_map (λ e. map (eAfB e) (up_to (facets b))) (edges a)
    ++ (flat_map (λ f. map (fAeB f) (edges b)) (up_to (facets a)) ++ map vB (up_to (vertices b))))

-- a key as numbers: which of the four, then what it names
abbrev pub key_numbers : Key → List ℕ
key_numbers (vA i) = 0 ∷ i ∷ []
key_numbers (eAfB e f) = 1 ∷ e.0 ∷ e.1 ∷ f ∷ []
key_numbers (fAeB f e) = 2 ∷ f ∷ e.0 ∷ e.1 ∷ []
key_numbers (vB i) = 3 ∷ i ∷ []

unfoldable pub same_key : Key → Key → Bool
same_key k l = same (key_numbers k) (key_numbers l)

module _ (inclusion : Key → ℤ) where
  -- "each only if its inclusion is not 0, copied once"
  unfoldable pub kept : List Key → List Key
  kept ks = keep (λ k. nonzero (inclusion k)) ks

  -- so a vertex's number in the result is how many kept ones are listed before it
  unfoldable pub number : List Key → Key → ℕ
  number ks k = length (kept (before same_key k ks))
