-- What `?` hands on.
use mathlib.Core.Path.{◌≡◌, ap}
use Rattle.std.specs.Prelude.{IsErrAnd, Result, Ok, Err}

-- the refusal that it met
pub handed_on : {T E : Type 0} (r : Result T E) (e : E) → IsErrAnd r (λ d. d ≡ e) → r ≡ Err e
handed_on (Ok x) e h = absurd h
handed_on (Err d) e h = ap Err h
