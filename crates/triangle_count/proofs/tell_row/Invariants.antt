use mathlib.Core.Path.{◌≡◌}
use mathlib.Core.List.{flat_map}
use Prim.Native.Nat.{◌-◌, ◌*◌, ◌≤◌}
use Rattle.list_words.specs.Lists.{up_to}
use Rattle.fan_counts.specs.Words.{tell, Near}
use Rattle.composite_ends.specs.Words.{side_ends_of}
use Rattle.triangle_count.proofs.tell_row.Given as goal

abbrev pub invariant-loop-i : goal.invariant-loop-i
invariant-loop-i l = (l.from ≤ l.i) × (l.i ≤ l.end) × (l.r ≡ tell l.initial.r (flat_map (side_ends_of l.kept.crossings l.x) (up_to (l.i - l.from)))) × Near l.initial.r l.r (12 * (l.i - l.from))

abbrev pub decreases-loop-i : goal.decreases-loop-i
decreases-loop-i l = l.end - l.i
