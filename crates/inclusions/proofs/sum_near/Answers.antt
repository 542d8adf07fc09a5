-- `sum_near` meets its contract: the first columns are summed.
use mathlib.Core.Path.{refl, sym, ap, ap₂, ◌∙◌}
use Prim.Native.Nat.{◌+◌, ◌≤◌}
use native.Mathlib.Omega.{arith}
use native.Mathlib.Numerals.{add-one}
use lib.ListN.{get_or, take}
use lib.Seq.{take-suc}
use lib.IntN.{nat_abs, ◌+ℤ◌}
use mir.Syntax.{w32}
use mir.Val.{to_z}
use Rattle.list_words.specs.Lists.{sum_of}
use Rattle.list_words.proofs.Integers.{bnd_add}
use Rattle.list_words.proofs.Sums.{sum_snoc}
use Rattle.list_words.proofs.Widths.{back_32}
use Rattle.edges.specs.Readers.{solid_of}
use Rattle.inclusions.proofs.sum_near.Invariants.{part}
use Rattle.inclusions.proofs.sum_near.Goals as goal

pub loop-c-init : goal.loop-c-init
unfolding sum_of
loop-c-init c = (refl, omega arith)

pub loop-c-preserved : goal.loop-c-preserved
loop-c-preserved c =
    let l = c.loop-c in
    let r = c.s_near-sum in
    let sum = to_z w32 l.sum-bits in
    let p = part c.args.as_b c.args.v (solid_of c.args.near.now.solid) in
    let columns = c.args.near.now.columns.now in
    let next = ap (λ n. sum_of p (take n columns)) (add-one l.c-index) ∙ ap (sum_of p) (take-suc columns l.c-index 0 c.loop-c-test.true) ∙ sum_snoc p (take l.c-index columns) (get_or columns l.c-index 0) in
    let small : nat_abs (sum +ℤ r.result) ≤ l.c-index + 1 = bnd_add l.c-index 1 sum r.result l.invariant.1 r.ensures.small in
    rw (back_32 r.result (omega (arith, r.ensures.small)), back_32 (sum +ℤ r.result) (omega (arith, small, c.requires.facets.1))) (ap₂ ◌+ℤ◌ l.invariant.0 r.ensures.value ∙ sym next, small)
