use mathlib.Core.Path.{◌≡◌}
use Prim.Native.Nat.{◌≤◌}
use lib.ListN.{length, get_or}
use Rattle.kept_lists.specs.Words.{More, Listed}
use Rattle.touched_pairs.proofs.fill.mark_row.Given as goal

abbrev pub invariant-loop-k : goal.invariant-loop-k
invariant-loop-k l = (get_or l.first l.r 0 ≤ l.k) × Listed l.z l.first l.crossed l.marks l.r l.k × More l.initial.marks l.marks × (length l.marks ≡ length l.initial.marks)
