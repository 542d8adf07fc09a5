-- `printed` meets its contract: a line has the three numbers of an outcome and nothing more of it.
use mathlib.Core.Path.{ap, ◌∙◌}
use Rattle.results.specs.Operation.{called}
use Rattle.solid_line.specs.Line.{room, line, printed}
use Rattle.solid_line.specs.Answers.{text}
use Rattle.solid_outcome.proofs.printed.Goals as goal

pub returns : goal.returns
unfolding line printed
returns c = c.line_of.ensures ∙ ap (λ m. text (line (called m room))) c.outcome.ensures
