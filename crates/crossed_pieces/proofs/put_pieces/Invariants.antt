use Prim.Native.Nat.{◌-◌, ◌≤◌}
use Rattle.composite_ends.specs.Words.{rows_of}
use Rattle.crossed_pieces.proofs.Eights.{Going}
use Rattle.crossed_pieces.proofs.put_pieces.Given as goal

abbrev pub invariant-loop-i : goal.invariant-loop-i
invariant-loop-i l =
    (l.row ≤ l.i) × (l.i ≤ l.end) × Going l.kept.inc.now l.kept.num.now (rows_of l.kept.crossings) l.kept.crossings.halves.now l.kept.crossings.plan.sizes l.h l.initial.list l.to l.list l.c l.all l.n (l.i - l.row)

abbrev pub decreases-loop-i : goal.decreases-loop-i
decreases-loop-i l = l.end - l.i
