-- Document 01, "Program `solid`": what it prints, as a function of the bytes on its standard input.
use Rattle.std.specs.Prelude.{ℕ, suc, ◌+◌, ◌*◌, true, false, cond, List, [], ◌∷◌, ◌++◌, length, drop, replicate, ltb, eqb, Option, Some, None}
use Rattle.numbers.specs.Digits.{digits}
use Rattle.points.specs.Points.{zero_number}
use Rattle.solids.specs.Refusals.{answer_of}
use Rattle.results.specs.declared.Operation.{Operation}
use Rattle.results.specs.declared.Operation.TheVariants.{Union, Intersection, Difference}
use Rattle.results.specs.Operation.{Lent, Outcome, refusal, operate}
use Rattle.housefile.specs.Reader.{Layout, fault, laid, layout}

-- "one letter (U, I or D)"
abbrev pub letter : ℕ → Option Operation
letter c = cond (eqb c 0x55) (Some Union) (cond (eqb c 0x49) (Some Intersection) (cond (eqb c 0x44) (Some Difference) None))

-- "It has room for 512 vertices and 1,024 triangles."
abbrev pub room : Lent
room = record { points = replicate (3 * 512) zero_number; corners = replicate (3 * 1024) 0; origins = replicate 1024 0 }

-- the bytes behind the first file
abbrev pub behind : Layout → List ℕ → List ℕ
behind fault bs = []
behind (laid used xs cs) bs = drop used bs

-- "a layout fault in either file or trailing bytes give 9; then come A's other refusals, B's, and last 8"; n is the length of both files
abbrev pub of_files : Operation → Layout → Layout → ℕ → Outcome
of_files op fault second n = refusal (answer_of 9) room
of_files op (laid i xs cs) fault n = refusal (answer_of 9) room
of_files op (laid i xs cs) (laid j ys ds) n =
    elim (eqb (i + j) n) [
      | true ↦ operate op (record { points = xs; corners = cs }) (record { points = ys; corners = ds }) room
      | false ↦ refusal (answer_of 9) room
    ]

-- "an unknown letter gives 7 before the files are looked at; then input over 32,768 bytes"
abbrev pub by_letter : Option Operation → List ℕ → Outcome
by_letter None bs = refusal (answer_of 7) room
by_letter (Some op) bs =
    elim (ltb 32768 (suc (length bs))) [
      | true ↦ refusal (answer_of 9) room
      | false ↦ let first = layout bs in of_files op first (layout (behind first bs)) (length bs)
    ]

-- "No letter gives 9"
unfoldable pub program : List ℕ → Outcome
program [] = refusal (answer_of 9) room
program (c ∷ bs) = by_letter (letter c) bs

-- "It prints one line: answer, vertices, triangles, separated by one blank."
unfoldable pub line : Outcome → List ℕ
line o = digits o.answer.number ++ (0x20 ∷ digits o.vertices ++ (0x20 ∷ digits o.triangles ++ (0x0a ∷ [])))

unfoldable pub printed : List ℕ → List ℕ
printed input = line (program input)
