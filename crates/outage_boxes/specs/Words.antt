-- Words of contracts; no public statement needs them. A face's facets, what is answered, and what is made of a decoded row.
use Rattle.std.specs.Prelude.{ℕ, Bool, true, false, List, [], ◌∷◌, Float, Result, Ok, Err}
use Rattle.solids.specs.declared.Answer.{Answer}
use Rattle.solids.specs.Refusals.{answer_of, given, in_order}
use Rattle.outage_rows.specs.declared.Row.{Row}
use Rattle.outage_rows.specs.declared.Boxed.{Boxed}
use Rattle.housefile.specs.Reader.{too_short}
use Rattle.outage_rows.specs.Bounds.{bounds}
use Rattle.outage_rows.specs.Box.{box}
use Rattle.outage_rows.specs.Boxed.{Boxing, nothing_boxed, boxing}
use Rattle.outage_bounds.specs.Words.{check_bounds}

-- the two triangles of a face
abbrev pub cut : ℕ → ℕ → ℕ → ℕ → Bool → List ℕ
cut a b c d true = a ∷ b ∷ d ∷ a ∷ d ∷ c ∷ []
cut a b c d false = a ∷ d ∷ b ∷ a ∷ c ∷ d ∷ []

abbrev pub answered : Result Boxed Answer → Boxed
answered (Ok r) = r
answered (Err a) = nothing_boxed a

-- what is made of a decoded row
abbrev pub made : Row → List Float → List ℕ → Boxing
made r ps cs = let s = box (bounds r) in boxing (in_order (check_bounds r ∷ given (answer_of 8) (too_short ps cs s) ∷ [])) r.unit s ps cs
