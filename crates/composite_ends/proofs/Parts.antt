-- What the lists promise together, from what the parts of `Kept` promise.
use Rattle.kept_lists.specs.Words as K
use Rattle.composite_ends.specs.declared.Kept.{Kept}
use Rattle.composite_ends.specs.Words.{rows_of}

pub ready : (k : Kept) → K.Ready k.crossings.halves.now k.crossings.plan.sizes k.inc.now k.num.now (rows_of k.crossings)
ready k = record { halves = k.crossings.named; vertices = k.numbered; crossings = k.crossings.listed }
