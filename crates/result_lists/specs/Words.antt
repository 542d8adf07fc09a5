-- Words of contracts; no public statement needs them. What an attempt with a list of crossings of some length leaves.
use Rattle.std.specs.Prelude.{◌≡◌, ℕ, ◌≤◌, Result, Ok, Err}
use Rattle.solids.specs.declared.Answer.{Answer}
use Rattle.solids.specs.Solids.{Solid}
use Rattle.results.specs.declared.Made.{Made}
use Rattle.results.specs.declared.Operation.{Operation}
use Rattle.results.specs.Operation.{Lent, called, operate, nothing_made}
use Rattle.crossing_rows.specs.declared.Full.{Full}

-- what an operation answers where it may be refused
abbrev pub told : Result Made Answer → Made
told (Ok made) = made
told (Err a) = nothing_made a

-- THE OPERATION'S EQUATION: what is answered, with the lent lists as they then are
abbrev pub Operated : Operation → Solid → Solid → Lent → Made → Lent → Type 0
Operated op a b old made new = called made new ≡ operate op a b old

-- `Full`: nothing was written, and there is not room for 196,608 crossings
abbrev pub Attempted : Operation → Solid → Solid → ℕ → Lent → Result Made Full → Lent → Type 0
Attempted op a b room old (Ok made) new = Operated op a b old made new
Attempted op a b room old (Err full) new = (new ≡ old) × (196608 ≤ room → ⊥)
