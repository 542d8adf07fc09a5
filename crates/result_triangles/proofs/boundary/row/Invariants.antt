use mathlib.Core.Path.{◌≡◌}
use mathlib.Core.List.{flat_map}
use Prim.Native.Nat.{◌-◌, ◌≤◌}
use lib.ListN.{length}
use Rattle.list_words.specs.Lists.{up_to}
use Rattle.joined_ends.specs.Words.{flat, Behind}
use Rattle.composite_ends.specs.Words.{pair_of}
use Rattle.result_triangles.proofs.boundary.row.Given as goal

abbrev pub invariant-loop-i : goal.invariant-loop-i
invariant-loop-i l = (l.from ≤ l.i) × (l.i ≤ l.end) × (length l.list ≡ length l.initial.list) × Behind (flat (flat_map (pair_of l.kept.crossings l.x) (up_to (l.i - l.from)))) l.initial.list l.to l.list l.k

abbrev pub decreases-loop-i : goal.decreases-loop-i
decreases-loop-i l = l.end - l.i
