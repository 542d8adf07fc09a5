-- Document 01, "House file": the writer with its refusals and the lent bytes afterwards.
use Rattle.std.specs.Prelude.{ℕ, ◌≡◌, length, ltb, Ok, Err}
use mathlib.Core.List.{List, [], ◌∷◌, ◌++◌, flat_map}
use Rattle.list_words.specs.Lists.{up_to, onto}
use Rattle.solids.specs.declared.Answer.{Answer}
use Rattle.solids.specs.Refusals.{Verdict, answer_of, no_refusal, given, in_order}
use Rattle.solids.specs.Solids.{Solid, vertices, facets, vertex, corner}
use Rattle.solids.specs.Admission.{admission}
use Rattle.housefile.specs.declared.Written.{Written}
use Rattle.housefile.specs.declared.Record.TheVariants.{Vx, Fc, En}
use Rattle.housefile.specs.Records.{encoded}

-- a solid's file: its vertices, its facets, the end
unfoldable pub file : Solid → List ℕ
file s =
    flat_map (λ i. encoded (Vx (vertex s i))) (up_to (vertices s))
    ++ (flat_map (λ f. encoded (Fc (corner s f 0) (corner s f 1) (corner s f 2))) (up_to (facets s)) ++ encoded En)

pub record Writing : Type 0 where
  pub answer : Answer
  pub used : ℕ
  pub bytes : List ℕ

-- what a call answered, with the lent bytes as they then are
abbrev pub outcome : Written → List ℕ → Writing
outcome r bs = record { answer = r.answer; used = r.used; bytes = bs }

-- what a call answers that refuses
abbrev pub nothing_written : Answer → Written
nothing_written a = record { answer = a; used = 0 }

abbrev pub unwritten : Answer → List ℕ → Writing
unwritten a old = record { answer = a; used = 0; bytes = old }

abbrev pub writing : Verdict → List ℕ → List ℕ → Writing
writing (Ok u) new old = record { answer = no_refusal; used = length new; bytes = onto new old }
writing (Err a) new old = unwritten a old

-- "The writer checks 1 to 6, then 8."
unfoldable pub write : Solid → List ℕ → Writing
write s lent = let new = file s in writing (in_order (admission s ∷ given (answer_of 8) (ltb (length lent) (length new)) ∷ [])) new lent

-- what the call promises of its answer and of the lent bytes as they then are
abbrev pub WriteFile : Solid → List ℕ → Written × List ℕ → Type 0
WriteFile s bs r = outcome r.0 r.1 ≡ write s bs
