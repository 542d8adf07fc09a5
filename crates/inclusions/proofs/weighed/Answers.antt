-- `weighed` meets its contract: nothing overflows.
use mathlib.Core.Path.{refl}
use Prim.Native.Nat.{◌≤◌}
use native.Mathlib.Omega.{arith}
use lib.IntN.{ℤ, nat_abs, ◌+ℤ◌, ◌*ℤ◌}
use Rattle.list_words.proofs.Integers.{bnd_add, scaled}
use Rattle.list_words.proofs.Widths.{back_16, back_32, fits_16}
use Rattle.inclusions.proofs.weighed.Goals as goal

module _ (alone times x : ℤ) (one : nat_abs alone ≤ 1) (t : nat_abs times ≤ 1) (h : nat_abs x ≤ 256) where
  product : nat_abs (times *ℤ x) ≤ 256
  product = scaled 256 times x t h

  whole : nat_abs (alone +ℤ times *ℤ x) ≤ 257
  whole = bnd_add 1 256 alone (times *ℤ x) one product

pub overflow_cast-result : goal.overflow_cast-result
overflow_cast-result c =
    let alone = c.args.alone in
    let times = c.args.times in
    let x = c.args.x in
    let p = product alone times x c.requires.0 c.requires.1 c.requires.2 in
    let w = whole alone times x c.requires.0 c.requires.1 c.requires.2 in
    rw (back_32 alone (omega (arith, c.requires.0)), back_32 times (omega (arith, c.requires.1)), back_32 x (omega (arith, c.requires.2)), back_32 (times *ℤ x) (omega (arith, p)), back_32 (alone +ℤ times *ℤ x) w)
    (fits_16 (alone +ℤ times *ℤ x) w)

pub returns : goal.returns
returns c =
    let alone = c.args.alone in
    let times = c.args.times in
    let x = c.args.x in
    let p = product alone times x c.requires.0 c.requires.1 c.requires.2 in
    let w = whole alone times x c.requires.0 c.requires.1 c.requires.2 in
    rw (back_32 alone (omega (arith, c.requires.0)), back_32 times (omega (arith, c.requires.1)), back_32 x (omega (arith, c.requires.2)), back_32 (times *ℤ x) (omega (arith, p)), back_32 (alone +ℤ times *ℤ x) w, back_16 (alone +ℤ times *ℤ x) w)
    (record { value = refl; small = w })
