-- `mark` meets its contract.
use mathlib.Core.Path.{◌≡◌, sym, ◌∙◌, subst}
use mathlib.Core.Bool.{◌||◌}
use Prim.Native.Nat.{◌+◌, ◌*◌, ◌/◌, ◌%◌, ◌^◌, ◌≤◌}
use native.Mathlib.Omega.{arith}
use lib.Bits.{bit_or}
use lib.Dec.{eqb}
use lib.ListN.{get_or, set}
use lib.Pow.{shl_exact}
use Rattle.marks.specs.Words.{marked}
use Rattle.marks.proofs.Words.{marked_set}
use Rattle.marks.proofs.mark.Goals as goal

pub returns : goal.returns
returns c =
    let a = c.args in
    let k : 1 + a.i % 64 ≤ 64 = omega arith in
    let one : 1 * 2 ^ (a.i % 64) ≡ 2 ^ (a.i % 64) = omega arith in
    let e : 1 * 2 ^ (a.i % 64) % 2 ^ 64 ≡ 2 ^ (a.i % 64) = shl_exact 1 (a.i % 64) 64 (omega arith) k ∙ one in
    λ j. subst (λ x. marked (set a.list.now (a.i / 64) (bit_or (get_or a.list.now (a.i / 64) 0) x)) j ≡ (eqb a.i j || marked a.list.now j)) (sym e) (marked_set a.list.now a.i j c.requires)
