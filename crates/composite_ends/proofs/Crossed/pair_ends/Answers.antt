-- `pair_ends` meets its contract.
use mathlib.Core.List.{[], ◌∷◌}
use Rattle.kept_lists.specs.Words.{pair_ends}
use Rattle.composite_ends.proofs.Crossed.pair_ends.Goals as goal

pub returns : goal.returns
unfolding pair_ends
returns c = λ j. c.a_end.ensures j ∷ c.a_end-2.ensures j ∷ c.a_end-3.ensures j ∷ c.b_end.ensures j ∷ c.b_end-2.ensures j ∷ c.b_end-3.ensures j ∷ []
