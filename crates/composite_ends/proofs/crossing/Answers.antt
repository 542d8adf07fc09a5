-- `crossing` meets its contract.
use mathlib.Core.Path.{refl, sym, ap, ◌∙◌}
use Rattle.vertex_table.specs.Words.{flip}
use Rattle.kept_lists.specs.Words.{rows, crossing, in_row}
use Rattle.kept_lists.proofs.Rows.{look_here, look_on, look_end, flip_blank}
use Rattle.composite_ends.proofs.crossing.Goals as goal

pub loop-k-init : goal.loop-k-init
unfolding crossing in_row
loop-k-init c = refl

pub returns-then-column-c : goal.returns-then-column-c
returns-then-column-c c =
    let a = c.args in
    c.at_place.ensures
    ∙ ap (flip a.flip) (sym (c.loop-k.invariant ∙ look_here (rows a.first.now a.crossed.now a.base) a.c c.loop-k.k _ c.loop-k-test.true (sym c.column.ensures ∙ c.if-column-c.true)))

pub loop-k-preserved : goal.loop-k-preserved
loop-k-preserved c =
    let a = c.args in
    c.loop-k.invariant ∙ look_on (rows a.first.now a.crossed.now a.base) a.c c.loop-k.k _ c.loop-k-test.true (λ e. c.if-column-c.false (c.column.ensures ∙ e))

pub returns : goal.returns
returns c =
    let a = c.args in
    sym (ap (flip a.flip) (c.loop-k.invariant ∙ look_end (rows a.first.now a.crossed.now a.base) a.c c.loop-k.k _ c.loop-k-test.false) ∙ flip_blank a.flip)
