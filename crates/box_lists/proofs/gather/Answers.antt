-- `gather` meets its contract: the boxes of the first i stand in the one list, and those that are near in the other.
use mathlib.Core.Path.{◌≡◌, sym, ap, ◌∙◌}
use mathlib.Core.List.{[], ◌∷◌, ◌++◌}
use Prim.Native.Nat.{ℕ, ◌+◌}
use native.Mathlib.Omega.{arith}
use native.Mathlib.Numerals.{add-one}
use Rattle.list_words.specs.Lists.{up_to}
use Rattle.list_words.proofs.UpTo.{length_up_to}
use Rattle.edges.specs.Readers.{solid_of}
use Rattle.bounds.specs.Words.{far, box_of}
use Rattle.bounds.proofs.Listing.{narrowed_none, narrowed_no, narrowed_yes, boxed_next}
use Rattle.box_lists.proofs.gather.Goals.{then-not-far_at, else-not-far_at}
use Rattle.box_lists.proofs.gather.Goals as goal

one_more : (n : ℕ) → up_to (n + 1) ≡ up_to n ++ (n ∷ [])
unfolding up_to
one_more n = ap up_to (add-one n)

pub loop-i-init : goal.loop-i-init
unfolding up_to
loop-i-init c = record { narrowed = narrowed_none _ _ _ _; boxed = λ c h. absurd (omega (arith, h)) }

pub bounds-columns-k : goal.bounds-columns-k
bounds-columns-k c = omega (arith, c.loop-i.invariant.narrowed.fits, length_up_to c.loop-i.i)

pub loop-i-preserved : goal.loop-i-preserved
loop-i-preserved c =
    let l = c.loop-i in
    let t = c.loop-i-test.true in
    let inv = l.invariant in
    let box = box_of c.args.thing (solid_of c.args.s) in
    let own = c.box_of in
    let p = c.put.ensures in
    let all = boxed_next l.boxes own.result l.i (omega (arith, t, l.auto.boxes)) box _ p own.ensures inv.boxed in
    let test = c.far_at.ensures ∙ ap (far c.args.far c.args.b) (all l.i (omega arith)) in
    let next : up_to (l.i + 1) ≡ up_to l.i ++ (l.i ∷ []) = one_more l.i in
    elim c.if-not-far_at.branch [
      | then-not-far_at w ↦ rw (w.columns-is, w.k-is, next) (record {
        narrowed = narrowed_yes _ _ _ l.i inv.narrowed (sym test ∙ w.if-not-far_at.true) (omega (arith, t, inv.narrowed.fits, length_up_to l.i, l.auto.columns));
        boxed = all;
      })
      | else-not-far_at w ↦ rw (w.columns-is, w.k-is, next) (record {
        narrowed = narrowed_no _ _ _ l.i inv.narrowed (sym test ∙ w.if-not-far_at.false);
        boxed = all;
      })
    ]
