-- What the public calls answer: the three numbers of an outcome, and a text.
use Rattle.std.specs.Prelude.{◌≡◌, List, ℕ, length, replicate}
use Rattle.list_words.specs.Lists.{onto}
use Rattle.results.specs.declared.Made.{Made}
use Rattle.results.specs.Operation.{Outcome}
use Rattle.solid_line.specs.Line.{program, printed}
use Rattle.solid_line.specs.declared.Text.{Text}

-- the three numbers of an outcome
abbrev pub made : Outcome → Made
made o = record { answer = o.answer; vertices = o.vertices; triangles = o.triangles }

-- a text that says l: the front of its bytes; behind it are zeros
abbrev pub text : List ℕ → Text
text l = record { bytes = onto l (replicate 64 0); used = length l }

-- ---- what `outcome` and `printed` promise of their answer to an input

abbrev pub Program : List ℕ → Made → Type 0
Program input r = r ≡ made (program input)

abbrev pub Printed : List ℕ → Text → Type 0
Printed input r = r ≡ text (printed input)
