-- Words of contracts; no public statement needs them. Half-edges as three numbers each, where a table holds the edges' numbers.
use Rattle.std.specs.Prelude.{not, ℕ, ◌+◌, ◌*◌, get_or}
use mathlib.Core.List.{List, [], ◌∷◌, flat_map}
use Rattle.list_words.specs.Lists.{one_if}
use Rattle.solids.specs.Solids.{Half, along, edge_of}
use Rattle.solids.specs.Words.{place}

-- twice what stands at its edge's place, and 1 more if it runs against it; the edge's start; its end
abbrev pub three : List ℕ → Half → List ℕ
three numbers h = (2 * get_or numbers (place (edge_of h)) 0 + one_if (not (along h))) ∷ (edge_of h).0 ∷ (edge_of h).1 ∷ []

unfoldable pub threes : List ℕ → List Half → List ℕ
threes numbers hs = flat_map (three numbers) hs
