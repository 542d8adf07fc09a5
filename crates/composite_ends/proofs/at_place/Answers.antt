-- `at_place` meets its contract.
use Prim.Native.Nat.{◌≤◌}
use lib.IntN.{nat_abs}
use lib.ListN.{get_or}
use native.Mathlib.Omega.{arith}
use Rattle.list_words.proofs.Widths.{back_32}
use Rattle.layouts.specs.Words.{inclusion}
use Rattle.layouts.proofs.Packing.{inclusion_small}
use Rattle.composite_ends.proofs.at_place.Goals as goal

pub end_of-requires : goal.end_of-requires
end_of-requires c =
    let x = get_or c.args.crossed.now c.args.k 0 in
    let small : nat_abs (inclusion x) ≤ 257 = omega (arith, inclusion_small x) in
    rw (c.inclusion-n.ensures, back_32 (inclusion x) small) small
