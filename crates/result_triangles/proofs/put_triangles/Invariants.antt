use mathlib.Core.Path.{◌≡◌}
use mathlib.Core.List.{flat_map}
use Prim.Native.Nat.{◌*◌, ◌≤◌}
use lib.ListN.{length}
use Rattle.list_words.specs.Lists.{up_to}
use Rattle.fans.specs.Words.{Laid}
use Rattle.composite_ends.specs.Words.{fan_of}
use Rattle.result_triangles.proofs.put_triangles.Given as goal

abbrev pub invariant-loop-x : goal.invariant-loop-x
invariant-loop-x l = (l.k ≤ l.x * 3075) × (length l.list ≡ length l.initial.list) × Laid (flat_map (fan_of l.kept) (up_to l.x)) l.initial.corners l.initial.origins 0 l.corners l.origins l.k
