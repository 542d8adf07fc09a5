-- Words of contracts; no public statement needs them. Ends as they are joined to pieces in a list.
use Rattle.std.specs.Prelude.{◌≡◌, ℕ, ◌+◌, ◌*◌, length, get_or, take}
use mathlib.Core.List.{List, [], ◌∷◌, ◌++◌, map, flat_map}
use Rattle.list_words.specs.Lists.{up_to}
use Rattle.solids.specs.Solids.{Half}
use Rattle.results.specs.declared.End.{End}
use Rattle.placed_ends.specs.declared.Counts.{Counts}
use Rattle.placed_ends.specs.Words.{placed}

-- ---- pieces as numbers of a list, two for each: where it starts and where it ends

-- the numbers of the pieces, and the first n pieces read from a list of numbers
unfoldable pub flat : List Half → List ℕ
flat hs = flat_map (λ (h : Half). h.0 ∷ h.1 ∷ []) hs

unfoldable pub firsts : List ℕ → ℕ → List Half
firsts l n = map (λ i. (get_or l (2 * i) 0, get_or l (2 * i + 1) 0)) (up_to n)

-- `ws` stands behind the first `at` numbers of the list that was `old` and now is `l`, and r is the next place. What follows there may be anything.
pub record Behind (ws old : List ℕ) (at : ℕ) (l : List ℕ) (r : ℕ) : Type 0 where
  pub front : take r l ≡ take at old ++ ws
  pub next : r ≡ at + length ws

-- ---- every end placed, behind what is placed already
abbrev pub all_placed : List ℕ × Counts → List End → List ℕ × Counts
all_placed s [] = s
all_placed s (e ∷ es) = all_placed (placed s e) es
