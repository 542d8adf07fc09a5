use mathlib.Core.Path.{◌≡◌}
use mathlib.Core.List.{flat_map}
use Prim.Native.Nat.{◌-◌, ◌*◌, ◌≤◌}
use Rattle.list_words.specs.Lists.{up_to}
use Rattle.fan_counts.specs.Words.{tell, Near}
use Rattle.composite_ends.specs.Words.{rows_of}
use Rattle.kept_lists.proofs.Counted.{crossing_ends}
use Rattle.triangle_count.proofs.tell_line.Given as goal

abbrev pub invariant-loop-i : goal.invariant-loop-i
invariant-loop-i l = (l.row ≤ l.i) × (l.i ≤ l.end) × (l.r ≡ tell l.initial.r (flat_map (crossing_ends l.kept.inc.now l.kept.num.now (rows_of l.kept.crossings) l.kept.crossings.halves.now l.kept.crossings.plan.sizes l.h) (up_to (l.i - l.row)))) × Near l.initial.r l.r (2 * (l.i - l.row))

abbrev pub decreases-loop-i : goal.decreases-loop-i
decreases-loop-i l = l.end - l.i
