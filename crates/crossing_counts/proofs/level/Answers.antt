-- `level` meets its contract: `told_is` says what a vertex with an edge comes to, by its two comparisons.
use mathlib.Core.Bool.{true, false}
use Rattle.crossing_counts.proofs.Slims.{told_is}
use Rattle.crossing_counts.proofs.level.Goals.{then-rising, else-rising, in_default-via-then-at_least+then-at_least-2, in_default-via-else-at_least+else-this}
use Rattle.crossing_counts.proofs.level.Goals as goal

pub returns-in-true-false : goal.returns-in-true-false
returns-in-true-false c =
    let h = told_is c.args.rising c.args.start c.args.end true false (cc) (cc) in
    elim c.if-rising.branch [
      | then-rising w ↦ rw (h, w.if-rising.true) (rw w.up-is at c.placed.ensures)
      | else-rising w ↦ rw (h, w.if-rising.false) (rw w.up-is at c.placed.ensures)
    ]

pub returns-in-false-true : goal.returns-in-false-true
returns-in-false-true c =
    let h = told_is c.args.rising c.args.start c.args.end false true (cc) (cc) in
    elim c.if-rising.branch [
      | then-rising w ↦ rw (h, w.if-rising.true) (rw w.up-is at c.placed-in-false-true.ensures)
      | else-rising w ↦ rw (h, w.if-rising.false) (rw w.up-is at c.placed-in-false-true.ensures)
    ]

pub returns-in_default : goal.returns-in_default
returns-in_default c =
    elim c.in_default.branch [
      | in_default-via-then-at_least+then-at_least-2 w ↦
          let h = told_is c.args.rising c.args.start c.args.end true true (cc) (cc) in cc
      | in_default-via-else-at_least+else-this w ↦
          let h = told_is c.args.rising c.args.start c.args.end false false (cc) (cc) in cc
    ]
