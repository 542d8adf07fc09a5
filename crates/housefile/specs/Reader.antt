-- Document 01, "House file": the layout of a file, and the reader with its refusals and the lent lists afterwards.
use Rattle.std.specs.Prelude.{ℕ, zero, suc, ◌+◌, ◌≡◌, Bool, true, false, ◌||◌, List, [], ◌∷◌, ◌++◌, length, drop, ltb, Float, Option, Some, None, Ok, Err}
use Rattle.list_words.specs.Lists.{onto}
use Rattle.points.specs.Points.{coordinates}
use Rattle.solids.specs.declared.Answer.{Answer}
use Rattle.solids.specs.Refusals.{Verdict, answer_of, no_refusal, given, in_order}
use Rattle.solids.specs.Solids.{Solid, vertices, facets}
use Rattle.solids.specs.Admission.{check_sizes, check_blanks, check_limit, check_corners, check_closure}
use Rattle.housefile.specs.declared.Read.{Read}
use Rattle.housefile.specs.declared.Record.{Record}
use Rattle.housefile.specs.declared.Record.TheVariants.{Vx, Fc, En}
use Rattle.housefile.specs.Records.{size, decoded}

-- ---- the layout

-- a fault, or the bytes used, "EN included", with the two lists
pub data Layout : Type 0 where
  fault : Layout
  laid : ℕ → List Float → List ℕ → Layout

abbrev pub after : ℕ → List Float → List ℕ → Layout → Layout
after n xs cs fault = fault
after n xs cs (laid used ys ds) = laid (n + used) (xs ++ ys) (cs ++ ds)

-- The layout of bs, which begins with the record r, if with any: "each record begins where the one before it ended"; "All VX come before all FC", so a VX is a fault
-- once an FC came. The first number bounds how many records are looked at: a file has fewer records than bytes.
unfoldable pub records : ℕ → Bool → Option Record → List ℕ → Layout
records zero facets_begun r bs = fault
records (suc n) facets_begun (Some En) bs = laid (size En) [] []
records (suc n) facets_begun None bs = fault
records (suc n) true (Some (Vx v)) bs = fault
records (suc n) false (Some (Vx v)) bs =
    let rest = drop (size (Vx v)) bs in
    after (size (Vx v)) (coordinates v) [] (records n false (decoded rest) rest)
records (suc n) facets_begun (Some (Fc p q r)) bs =
    let rest = drop (size (Fc p q r)) bs in
    after (size (Fc p q r)) [] (p ∷ q ∷ r ∷ []) (records n true (decoded rest) rest)

-- "bytes behind EN are not its business and not part of the accepted file"
unfoldable pub layout : List ℕ → Layout
layout bs = records (length bs) false (decoded bs) bs

-- ---- the reader

pub record Reading : Type 0 where
  pub answer : Answer
  pub vertices : ℕ
  pub facets : ℕ
  pub used : ℕ
  pub points : List Float
  pub corners : List ℕ

-- what a call answered, with the lent lists as they then are
abbrev pub outcome : Read → List Float → List ℕ → Reading
outcome r ps cs = record { answer = r.answer; vertices = r.vertices; facets = r.facets; used = r.used; points = ps; corners = cs }

-- what a call answers that refuses
abbrev pub nothing_read : Answer → Read
nothing_read a = record { answer = a; vertices = 0; facets = 0; used = 0 }

abbrev pub unread : Answer → List Float → List ℕ → Reading
unread a ps cs = record { answer = a; vertices = 0; facets = 0; used = 0; points = ps; corners = cs }

abbrev pub reading : Verdict → ℕ → Solid → List Float → List ℕ → Reading
reading (Ok u) used s ps cs =
    record { answer = no_refusal; vertices = vertices s; facets = facets s; used = used; points = onto s.points ps; corners = onto s.corners cs }
reading (Err a) used s ps cs = unread a ps cs

-- 8: "a lent list is too short for the answer"
unfoldable pub too_short : List Float → List ℕ → Solid → Bool
too_short ps cs s = ltb (length ps) (length s.points) || ltb (length cs) (length s.corners)

-- "Reader's order: 9, then 2, 8, 3 to 6."
unfoldable pub read_solid : Solid → List Float → List ℕ → Verdict
read_solid s ps cs =
    in_order
    (check_sizes s ∷ given (answer_of 8) (too_short ps cs s) ∷ check_blanks s ∷ check_limit s ∷ check_corners s ∷ check_closure s ∷ [])

abbrev pub by_layout : Layout → List Float → List ℕ → Reading
by_layout fault ps cs = unread (answer_of 9) ps cs
by_layout (laid used xs ds) ps cs =
    let s : Solid = record { points = xs; corners = ds } in
    reading (read_solid s ps cs) used s ps cs

-- the call: a file's bytes and the two lent lists
unfoldable pub read : List ℕ → List Float → List ℕ → Reading
read bs ps cs = by_layout (layout bs) ps cs

-- what the call promises of its answer and of the two lent lists as they then are
abbrev pub ReadFile : List ℕ → List Float → List ℕ → Read × (List Float × List ℕ) → Type 0
ReadFile bs ps cs r = outcome r.0 r.1.0 r.1.1 ≡ read bs ps cs
