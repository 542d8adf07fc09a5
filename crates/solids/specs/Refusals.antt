-- Document 01's table of refusals, with who and place (2026-01): what one check says, and the order of several. The one place that knows what a refusal
-- carries.
use Rattle.std.specs.Prelude.{ℕ, Bool, true, false, List, [], ◌∷◌, map, Result, ⊤, Ok, Err}
use Rattle.list_words.specs.Lists.{up_to}
use Rattle.solids.specs.declared.Answer.{Answer}

-- "which it was (A, B, the only solid, or the point)"
abbrev pub nobody : ℕ
nobody = 0

abbrev pub solid_A : ℕ
solid_A = 1

abbrev pub solid_B : ℕ
solid_B = 2

abbrev pub only_solid : ℕ
only_solid = 3

abbrev pub the_point : ℕ
the_point = 4

-- the answer with a number that speaks of nobody; "Others carry place 0."
abbrev pub answer_of : ℕ → Answer
answer_of n = record { number = n; who = nobody; place = 0 }

-- "Answer 0 is success."
abbrev pub no_refusal : Answer
no_refusal = answer_of 0

-- a refusal on the only solid, at a place: the number of a vertex or a facet
abbrev pub on_solid : ℕ → ℕ → Answer
on_solid n place = record { number = n; who = only_solid; place = place }

-- a refusal on the point
abbrev pub on_point : ℕ → Answer
on_point n = record { number = n; who = the_point; place = 0 }

-- what checks say of a solid or a point: accepted, or refused with the answer that a call then gives
abbrev pub Verdict : Type 0
Verdict = Result ⊤ Answer

abbrev pub accepted : Verdict
accepted = Ok tt

unfoldable pub answer : Verdict → Answer
answer (Ok u) = no_refusal
answer (Err a) = a

-- a check of the table: its refusal is "given exactly when" the test holds
abbrev pub given : Answer → Bool → Verdict
given a true = Err a
given a false = accepted

-- checks "in this order": the first that refuses decides
unfoldable pub in_order : List Verdict → Verdict
in_order [] = accepted
in_order (Ok u ∷ vs) = in_order vs
in_order (Err a ∷ vs) = Err a

-- a check of each vertex or facet below n, in order: "the first"
abbrev pub at_each : ℕ → (ℕ → Verdict) → Verdict
at_each n check = in_order (map check (up_to n))

-- what was said of the only solid, told as A's or B's
abbrev pub told : ℕ → Answer → Answer
told who a = record { number = a.number; who = who; place = a.place }

abbrev pub told_of : ℕ → Verdict → Verdict
told_of who (Ok u) = accepted
told_of who (Err a) = Err (told who a)

abbrev pub of_A : Verdict → Verdict
of_A v = told_of solid_A v

abbrev pub of_B : Verdict → Verdict
of_B v = told_of solid_B v
