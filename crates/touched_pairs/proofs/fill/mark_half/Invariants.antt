use mathlib.Core.Path.{◌≡◌}
use Prim.Native.Nat.{◌-◌, ◌≤◌}
use lib.ListN.{length}
use Rattle.kept_lists.specs.Words.{More, Spread}
use Rattle.touched_pairs.proofs.fill.mark_half.Given as goal

abbrev pub invariant-loop-i : goal.invariant-loop-i
invariant-loop-i l = (l.row ≤ l.i) × (l.i ≤ l.end) × Spread l.z l.halves l.initial.marks l.marks l.x l.h (l.i - l.row) × More l.initial.marks l.marks × (length l.marks ≡ length l.initial.marks)

abbrev pub decreases-loop-i : goal.decreases-loop-i
decreases-loop-i l = l.end - l.i
