-- `tally` meets its contract: the facets below f are counted.
use mathlib.Core.Path.{subst}
use native.Mathlib.Nat.{le_antisymm}
use Rattle.solids.specs.Solids.{half_edges}
use mathlib.Core.List.{flat_map}
use Rattle.list_words.specs.Lists.{up_to}
use Rattle.solids.specs.Words.{Tallied, counted}
use Rattle.tally.proofs.tally.Goals as goal

pub loop-f-init : goal.loop-f-init
unfolding counted up_to flat_map
loop-f-init c = c.requires.2

pub returns : goal.returns
unfolding half_edges counted
returns c = let l = c in let cs = l.args.corners.now in subst (λ n. Tallied l.loop-f.table (counted cs n)) (le_antisymm l.loop-f.auto.f-end c.loop-f-test.false) l.loop-f.invariant
