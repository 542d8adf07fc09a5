-- Request 2026-02: the call, from a row's bytes and two lent lists to the box, with its refusals and the lists afterwards.
use Rattle.std.specs.Prelude.{ℕ, ◌≡◌, List, [], ◌∷◌, Float, Ok, Err}
use Rattle.list_words.specs.Lists.{any, onto}
use Rattle.solids.specs.declared.Answer.{Answer}
use Rattle.solids.specs.Refusals.{Verdict, answer_of, no_refusal, given, in_order}
use Rattle.solids.specs.Solids.{Solid, vertices, facets}
use Rattle.housefile.specs.Reader.{too_short}
use Rattle.outage_rows.specs.declared.Boxed.{Boxed}
use Rattle.outage_rows.specs.Row.{row, no_row}
use Rattle.outage_rows.specs.Bounds.{bounds_of, missing, too_far, present, bounds, not_below}
use Rattle.outage_rows.specs.Box.{box}

pub record Boxing : Type 0 where
  pub answer : Answer
  pub vertices : ℕ
  pub facets : ℕ
  pub unit : ℕ
  pub points : List Float
  pub corners : List ℕ

-- what a call answered, with the lent lists as they then are
abbrev pub outcome : Boxed → List Float → List ℕ → Boxing
outcome r ps cs = record { answer = r.answer; vertices = r.vertices; facets = r.facets; unit = r.unit; points = ps; corners = cs }

-- what a call answers that refuses
abbrev pub nothing_boxed : Answer → Boxed
nothing_boxed a = record { answer = a; vertices = 0; facets = 0; unit = 0 }

abbrev pub boxing : Verdict → ℕ → Solid → List Float → List ℕ → Boxing
boxing (Ok u) unit s ps cs =
    record { answer = no_refusal; vertices = vertices s; facets = facets s; unit = unit; points = onto s.points ps; corners = onto s.corners cs }
boxing (Err a) unit s ps cs = record { answer = a; vertices = 0; facets = 0; unit = 0; points = ps; corners = cs }

-- "Refusals: 9 .., 3, 4, then 12 .., 13 .., and last 8": those on the row alone. A row is neither a solid nor a point: they are on nobody.
unfoldable pub check_row : List ℕ → Verdict
check_row bs =
    let r = row bs in
    in_order
    (given (answer_of 9) (no_row bs)
    ∷ given (answer_of 3) (any missing (bounds_of r))
    ∷ given (answer_of 4) (any too_far (bounds_of r))
    ∷ given (answer_of 12) (any present (bounds_of r))
    ∷ given (answer_of 13) (not_below (bounds r))
    ∷ [])

-- the box of a row
abbrev pub box_of : List ℕ → Solid
box_of bs = box (bounds (row bs))

-- the call: a row's bytes and the two lent lists
unfoldable pub boxed : List ℕ → List Float → List ℕ → Boxing
boxed bs ps cs =
    boxing (in_order (check_row bs ∷ given (answer_of 8) (too_short ps cs (box_of bs)) ∷ [])) (row bs).unit (box_of bs) ps cs

-- what the call promises of its answer and of the two lent lists as they then are
abbrev pub BoxRow : List ℕ → List Float → List ℕ → Boxed × (List Float × List ℕ) → Type 0
BoxRow bs ps cs r = outcome r.0 r.1.0 r.1.1 ≡ boxed bs ps cs
