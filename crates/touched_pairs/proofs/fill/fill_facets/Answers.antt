-- `fill_facets` meets its contract.
use mathlib.Core.Path.{◌∙◌}
use native.Mathlib.Omega.{arith}
use Rattle.kept_lists.proofs.Marking.{more_then, halves_more}
use Rattle.touched_pairs.proofs.fill.fill_facets.Goals as goal

pub loop-h-preserved : goal.loop-h-preserved
loop-h-preserved c =
    let l = c.loop-h in
    let m = c.mark_half in
    (halves_more l.invariant.0 l.invariant.1 m.ensures.more l.auto.h (omega arith) m.ensures.spread, more_then l.invariant.1 m.ensures.more, m.auto.marks ∙ l.invariant.2)
