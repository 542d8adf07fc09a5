-- `checked` meets its contract: the walk, the checks by its numbers, and past them what `hand_over` gives.
use mathlib.Core.Path.{◌≡◌, sym, ◌∙◌}
use mathlib.Core.Bool.{false}
use Rattle.housefile.specs.Reader.{layout, read}
use Rattle.solids.specs.Refusals.{on_solid}
use Rattle.list_words.proofs.Handed.{handed_on}
use Rattle.solids.proofs.Checks.{not_given}
use Rattle.housefile_reader.specs.Words.{many}
use Rattle.housefile_reader.proofs.Outcomes.{refused_by_2, refused_by_8, past}
use Rattle.housefile_reader.proofs.checked.Goals.{In_ok-check_sizes}
use Rattle.housefile_reader.proofs.checked.Goals as goal

-- past 9 and 2
not_many : (c : In_ok-check_sizes) → many c.in-Some.w ≡ false
not_many c = not_given (on_solid 2 0) _ (sym c.check_sizes.ensures.said ∙ c.in_ok-check_sizes.was)

pub returns-in_default : goal.returns-in_default
unfolding read
returns-in_default c = rw (c.in_default.ensures.scanned, c.on_nobody.ensures)

pub returns-in_err-check_sizes : goal.returns-in_err-check_sizes
unfolding read
returns-in_err-check_sizes c =
    let k = c.scan.new in
    rw (handed_on c.from_residual.result _ c.from_residual.ensures.1)
    (refused_by_2 (layout c.args.bytes.now) c.in-Some.w k.points k.corners c.in-Some.ensures.scanned c.args.points.now c.args.corners.now _
    (sym c.check_sizes.ensures.said ∙ c.in_err-check_sizes.was))

pub returns-then-points-n : goal.returns-then-points-n
unfolding read
returns-then-points-n c =
    let k = c.scan.new in
    rw c.on_nobody-then-points-n.ensures
    (refused_by_8 (layout c.args.bytes.now) c.in-Some.w k.points k.corners c.in-Some.ensures.scanned c.args.points.now c.args.corners.now
    (not_many (goal.at.returns-then-points-n c).In_ok-check_sizes) c.then-points-n.either)

pub returns : goal.returns
unfolding read
returns c =
    let k = c.scan.new in
    c.hand_over.ensures
    ∙ sym (past (layout c.args.bytes.now) c.in-Some.w k.points k.corners c.in-Some.ensures.scanned c.args.points.now c.args.corners.now
    (not_many (goal.at.returns c).In_ok-check_sizes) c.if-points-n.false c.if-corners-m.false).rest
