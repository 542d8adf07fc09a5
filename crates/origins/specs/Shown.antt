-- What an origin shows, put into the front of a lent list: no reference into the caller's lists can be handed back to C.
use Rattle.std.specs.Prelude.{ℕ, ◌≡◌, List, length, ltb}
use Rattle.solids.specs.Refusals.{answer_of, given}
use Rattle.results.specs.Origin.{Part, shown}
use Rattle.housefile.specs.declared.Written.{Written}
use Rattle.housefile.specs.Writer.{Writing, writing, outcome}

-- 8: "a lent list is too short for the answer"
unfoldable pub show : Part → Part → ℕ → List ℕ → Writing
show a b origin lent = let new = (shown a b origin).numbers in writing (given (answer_of 8) (ltb (length lent) (length new))) new lent

-- what the call promises of its answer and of the lent list as it then is
abbrev pub ShownCopied : Part → Part → ℕ → List ℕ → Written × List ℕ → Type 0
ShownCopied a b origin lent r = outcome r.0 r.1 ≡ show a b origin lent
