-- Every end: what is placed after some of them and then the rest.
use mathlib.Core.Path.{◌≡◌, refl}
use mathlib.Core.List.{List, [], ◌∷◌, ◌++◌}
use Prim.Native.Nat.{ℕ}
use Rattle.results.specs.declared.End.{End}
use Rattle.placed_ends.specs.declared.Counts.{Counts}
use Rattle.placed_ends.specs.Words.{placed}
use Rattle.joined_ends.specs.Words.{all_placed}

abbrev pub State : Type 0
State = List ℕ × Counts

-- from the front of the list on
abbrev pub joined : List End → List ℕ → State
joined es l = all_placed (l, record { starts = 0; stops = 0 }) es

pub placed_append : (s : State) (xs ys : List End) → all_placed s (xs ++ ys) ≡ all_placed (all_placed s xs) ys
placed_append s [] ys = refl
placed_append s (e ∷ xs) ys = placed_append (placed s e) xs ys
