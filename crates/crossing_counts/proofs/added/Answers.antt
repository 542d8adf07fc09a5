-- `added` meets its contract.
use mathlib.Core.Path.{◌≡◌}
use Prim.Native.Nat.{◌≤◌}
use native.Mathlib.Omega.{arith}
use lib.IntN.{ℤ, nat_abs, ◌+ℤ◌}
use mir.Syntax.{w32}
use mir.Val.{to_z, of_z}
use mir.Facts.{to_z-of_z}
use Rattle.list_words.proofs.Integers.{bnd_add}
use Rattle.crossings.proofs.Fits.{fits}
use Rattle.crossing_counts.proofs.added.Goals as goal

-- a small number as i32
cast : (z : ℤ) → nat_abs z ≤ 4 → to_z w32 (of_z w32 z) ≡ z
cast z h = to_z-of_z (fits z (omega arith))

pub returns : goal.returns
returns x =
    let a = x.args.a in
    let b = x.args.b in
    let c = x.args.c in
    let d = x.args.d in
    let h = x.requires in
    let two = bnd_add 1 1 c d h.2 h.3 in
    let three = bnd_add 1 2 b (c +ℤ d) h.1 two in
    let four = bnd_add 1 3 a (b +ℤ (c +ℤ d)) h.0 three in
    rw (
      cast a (omega arith),
      cast b (omega arith),
      cast c (omega arith),
      cast d (omega arith),
      cast (c +ℤ d) (omega arith),
      cast (b +ℤ (c +ℤ d)) (omega arith),
      cast (a +ℤ (b +ℤ (c +ℤ d))) (omega arith),
    )
