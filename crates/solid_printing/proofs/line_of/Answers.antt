-- `line_of` meets its contract: number by number; each has at most 20 digits.
use mathlib.Core.Path.{refl}
use mathlib.Core.List.{[]}
use Prim.Native.Nat.{ℕ, ◌≤◌, ◌<◌}
use native.Mathlib.Omega.{arith}
use lib.ListN.{length}
use Rattle.numbers.specs.Digits.{digits}
use Rattle.numbers.proofs.Digits.{few_digits}
use Rattle.solid_line.specs.Line.{line}
use Rattle.solid_line.proofs.Texts.{and_then}
use Rattle.solid_printing.proofs.line_of.Goals as goal

-- the digits of three numbers fit
bounds : (n v t : ℕ) → n < 4294967296 → v < 18446744073709551616 → t < 18446744073709551616
    → (length (digits n) ≤ 10) × (length (digits v) ≤ 20) × (length (digits t) ≤ 20)
bounds n v t n_fits v_fits t_fits = (few_digits 9 n (omega arith), few_digits 19 v (omega arith), few_digits 19 t (omega arith))

pub push_number-requires : goal.push_number-requires
push_number-requires c = omega (arith, bounds c.args.made.answer.number 0 0 (omega arith) (omega arith) (omega arith))

pub push_after-requires : goal.push_after-requires
push_after-requires c = let m = c.args.made in let l = c.push_number.ensures.longer in omega (arith, bounds m.answer.number m.vertices m.triangles (omega arith) (omega arith) (omega arith))

pub push_after-requires-2 : goal.push_after-requires-2
push_after-requires-2 c = let m = c.args.made in let l = c.push_number.ensures.longer in let k = c.push_after.ensures.longer in omega (arith, bounds m.answer.number m.vertices m.triangles (omega arith) (omega arith) (omega arith))

pub push-requires : goal.push-requires
push-requires c =
    let m = c.args.made in
    let l = c.push_number.ensures.longer in
    let k = c.push_after.ensures.longer in
    let j = c.push_after-2.ensures.longer in
    omega (arith, bounds m.answer.number m.vertices m.triangles (omega arith) (omega arith) (omega arith))

pub returns : goal.returns
unfolding line
returns c = (and_then c.push_number.ensures (and_then c.push_after.ensures (and_then c.push_after-2.ensures c.push.ensures))).says [] refl
