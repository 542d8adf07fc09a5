-- `number` meets its contract: the first i are numbered.
use mathlib.Core.Path.{◌≡◌, sym, ap, ◌∙◌}
use Prim.Native.Nat.{◌+◌, ◌<◌}
use native.Mathlib.Omega.{arith}
use borrow.Author.Rules.{rules}
use lib.IntN.{pos}
use lib.ListN.{length, length-set, get_or}
use mir.Syntax.{w16}
use mir.Val.{to_z, of_z}
use Rattle.list_words.specs.Lists.{nonzero}
use Rattle.fans.proofs.Numbering.{numbering_yes, numbering_no}
use Rattle.fans.proofs.numbers.number.Goals as goal
use Rattle.fans.proofs.numbers.number.Goals.{then-kept, else-kept}

pub loop-i-preserved : goal.loop-i-preserved
loop-i-preserved c =
    let l = c.loop-i in
    let t = c.loop-i-test.true in
    let h : c.args.from + l.i < length l.num = omega (arith, c.requires.1, l.invariant.0) in
    let z = get_or c.args.inc.now (c.args.from + l.i) (pos 0) in
    let e : to_z w16 (of_z w16 z) ≡ z = search rules in
    let kept = ap nonzero (sym e) ∙ sym c.kept.ensures in (
      length-set l.num (c.args.from + l.i) l.k ∙ l.invariant.0,
      elim c.if-kept.branch [
        | then-kept w ↦ rw w.k-is (numbering_yes l.invariant.1 t h (kept ∙ w.if-kept.true))
        | else-kept w ↦ rw w.k-is (numbering_no l.invariant.1 t h (kept ∙ w.if-kept.false))
      ],
    )
