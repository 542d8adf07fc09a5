-- `fan_size` meets its contract: all ends are told.
use mathlib.Core.Path.{◌≡◌}
use mathlib.Core.List.{flat_map}
use Prim.Native.Nat.{ℕ, ◌+◌, ◌*◌}
use native.Mathlib.Omega.{arith}
use lib.ListN.{length}
use Rattle.list_words.specs.Lists.{up_to}
use Rattle.vertex_table.specs.Words.{others}
use Rattle.fan_counts.specs.declared.Tally.{Tally}
use Rattle.fan_counts.specs.Words.{none_yet, tell}
use Rattle.kept_lists.proofs.Counted.{facet_count}
use Rattle.composite_ends.specs.declared.Kept.{Kept}
use Rattle.composite_ends.specs.Words.{Balanced, IsFacet, line_ends_of, side_ends_of, fan_of}
use Rattle.triangle_count.proofs.fan_size.Goals as goal

told : (k : Kept) (x : ℕ) → Balanced k → IsFacet k.crossings x → {a b c r : Tally} → a ≡ tell none_yet (line_ends_of k (3 * x)) → b ≡ tell a (line_ends_of k (3 * x + 1))
    → c ≡ tell b (line_ends_of k (3 * x + 2)) → r ≡ tell c (flat_map (side_ends_of k.crossings x) (up_to (others k.crossings.plan.sizes x))) → length (fan_of k x) + r.at ≡ r.pieces
told k x g h {r = r} ea eb ec er = facet_count k.crossings.named g x h r (rw (ec, eb, ea) at er)

pub overflow_sub-result : goal.overflow_sub-result
overflow_sub-result c =
    let a = c.args in
    omega (arith, told a.kept.now a.x c.requires.balanced c.requires.facet c.tell_line-a.ensures.told c.tell_line-b.ensures.told c.tell_line-c.ensures.told c.tell_row-r.ensures.told)

pub returns : goal.returns
returns c =
    let a = c.args in
    omega (arith, told a.kept.now a.x c.requires.balanced c.requires.facet c.tell_line-a.ensures.told c.tell_line-b.ensures.told c.tell_line-c.ensures.told c.tell_row-r.ensures.told)
