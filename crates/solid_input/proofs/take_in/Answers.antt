-- `take_in` meets its contract: no letter, an unknown one, too long an input, or the two files.
use mathlib.Core.Path.{sym, ap, ◌∙◌}
use native.Mathlib.Omega.{arith}
use Rattle.solids.specs.Refusals.{answer_of}
use Rattle.solid_line.proofs.Enough.{too_long}
use Rattle.solid_input.proofs.Letters.{not_long, no_letter, at_letter, refused_so}
use Rattle.solid_input.proofs.take_in.Goals as goal

pub returns-in_default : goal.returns-in_default
returns-in_default c = rw c.on_nobody.ensures (no_letter c.args.input.now c.in_default.ensures.cases)

pub returns-in_default-operation_of : goal.returns-in_default-operation_of
returns-in_default-operation_of c =
    let e = c.on_nobody-in_default-operation_of.ensures in
    at_letter c.args.input.now c.in-Some.letter.now c.in-Some.files.now _ c.in-Some.ensures.cases.0 (sym c.operation_of.ensures ∙ c.in_default-operation_of.is)
    ∙ refused_so (answer_of 7) _ (omega (arith, ap (λ a. a.number) e)) (omega (arith, ap (λ a. a.who) e)) (omega (arith, ap (λ a. a.place) e))

pub returns-then-files-gt32767 : goal.returns-then-files-gt32767
returns-then-files-gt32767 c =
    rw c.on_nobody-then-files-gt32767.ensures
    (at_letter c.args.input.now c.in-Some.letter.now c.in-Some.files.now _ c.in-Some.ensures.cases.0 (sym c.operation_of.ensures ∙ c.in-Some-operation_of.is)
    ∙ too_long c.in-Some-operation_of.operation c.in-Some.files.now (omega arith))

pub returns : goal.returns
returns c =
    let op = c.in-Some-operation_of.operation in
    let bs = c.in-Some.files.now in
    rw (at_letter c.args.input.now c.in-Some.letter.now bs _ c.in-Some.ensures.cases.0 (sym c.operation_of.ensures ∙ c.in-Some-operation_of.is)
    ∙ not_long op bs (omega arith)) c.of_bytes.ensures
