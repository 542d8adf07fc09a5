use mathlib.Core.Path.{◌≡◌}
use lib.ListN.{drop}
use Rattle.joined_ends.specs.Words.{all_placed}
use Rattle.joined_ends.proofs.join.Given as goal

-- the ends that are still to come, placed now, give what all of them give
abbrev pub invariant-loop-end : goal.invariant-loop-end
invariant-loop-end l = all_placed (l.list, l.c) (drop l.end-index l.ends) ≡ all_placed (l.initial.list, l.initial.c) l.ends
