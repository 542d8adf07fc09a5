-- Document 01: the call that makes a union, an intersection or a difference, with its refusals and the lent lists afterwards.
use Rattle.std.specs.Prelude.{ℕ, ◌/◌, ◌≡◌, Bool, ◌||◌, List, [], ◌∷◌, length, ltb, Float, Ok, Err, Option, Some, None}
use Rattle.list_words.specs.Lists.{onto}
use Rattle.solids.specs.declared.Answer.{Answer}
use Rattle.solids.specs.Refusals.{Verdict, answer_of, no_refusal, given, in_order, of_A, of_B}
use Rattle.solids.specs.Solids.{Solid}
use Rattle.solids.specs.Admission.{admission}
use Rattle.results.specs.declared.Made.{Made}
use Rattle.results.specs.declared.Operation.{Operation}
use Rattle.results.specs.Inclusion.{chosen}
use Rattle.results.specs.Triangles.{Result, result}

-- the three lists that the caller lends
pub record Lent : Type 0 where
  pub points : List Float
  pub corners : List ℕ
  pub origins : List ℕ

abbrev pub lists : List Float → List ℕ → List ℕ → Lent
lists ps cs os = record { points = ps; corners = cs; origins = os }

-- 8: "a lent list is too short for the answer"
unfoldable pub too_short : Lent → Result → Bool
too_short l r =
    ltb (length l.points) (length r.points) || ltb (length l.corners) (length r.corners)
    || ltb (length l.origins) (length r.origins)

pub record Outcome : Type 0 where
  pub answer : Answer
  pub vertices : ℕ
  pub triangles : ℕ
  pub lent : Lent

-- what a call answered, with the lent lists as they then are
abbrev pub called : Made → Lent → Outcome
called m l = record { answer = m.answer; vertices = m.vertices; triangles = m.triangles; lent = l }

-- "Every refusal returns its number with all counts zero and changes no lent list."
abbrev pub refusal : Answer → Lent → Outcome
refusal a l = record { answer = a; vertices = 0; triangles = 0; lent = l }

-- "On success the fronts of the lent lists hold the answer, and everything behind is as before."
abbrev pub success : Result → Lent → Outcome
success r l =
    record {
      answer = no_refusal;
      vertices = length r.points / 3;
      triangles = length r.origins;
      lent = record { points = onto r.points l.points; corners = onto r.corners l.corners; origins = onto r.origins l.origins };
    }

abbrev pub outcome : Verdict → Result → Lent → Outcome
outcome (Ok u) r l = success r l
outcome (Err n) r l = refusal n l

-- "then A by 1 to 6, then B by 1 to 6, then 8"
unfoldable pub operate : Operation → Solid → Solid → Lent → Outcome
operate op a b l = let r = result op a b in outcome (in_order (of_A (admission a) ∷ of_B (admission b) ∷ given (answer_of 8) (too_short l r) ∷ [])) r l

-- "An operation checks 7": an unknown operation code
abbrev pub by_choice : Option Operation → Solid → Solid → Lent → Outcome
by_choice (Some op) a b l = operate op a b l
by_choice None a b l = refusal (answer_of 7) l

unfoldable pub operation : ℕ → Solid → Solid → Lent → Outcome
operation code a b l = by_choice (chosen code) a b l

-- what a call answers that refuses
abbrev pub nothing_made : Answer → Made
nothing_made a = record { answer = a; vertices = 0; triangles = 0 }

-- what the call promises of its answer and of the lent lists as they then are
abbrev pub Operate : ℕ → Solid → Solid → Lent → Made × Lent → Type 0
Operate code a b l r = called r.0 r.1 ≡ operation code a b l
