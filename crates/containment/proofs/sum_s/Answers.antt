-- `sum_s` meets its contract: the facets below f are summed.
use mathlib.Core.Path.{◌≡◌, refl, sym, ap, ap₂, ◌∙◌}
use Prim.Native.Nat.{ℕ, ◌≤◌, ◌+◌}
use native.Mathlib.Omega.{arith}
use native.Mathlib.Numerals.{add-one}
use lib.IntN.{ℤ, nat_abs, ◌+ℤ◌}
use mir.Syntax.{w32}
use mir.Val.{to_z, of_z}
use mir.Facts.{to_z-of_z}
use Rattle.list_words.specs.Lists.{sum_of, up_to}
use Rattle.list_words.proofs.Integers.{bnd_add}
use Rattle.list_words.proofs.UpTo.{sum_up_to_suc}
use Rattle.crossings.proofs.Fits.{fits_sum}
use Rattle.solids.specs.Words.{facet_S}
use borrow.Author.Rules.{rules}
use Rattle.containment.proofs.sum_s.Invariants.{part}
use Rattle.containment.proofs.sum_s.Goals as goal

-- one facet more
one_more :
    (p : ℕ → ℤ) (f : ℕ) (s r : ℤ)
    → s ≡ sum_of p (up_to f) → nat_abs s ≤ f → r ≡ p f → nat_abs r ≤ 1
    → (s +ℤ r ≡ sum_of p (up_to (f + 1))) × (nat_abs (s +ℤ r) ≤ f + 1)
one_more p f s r i j e k = (rw add-one (ap₂ ◌+ℤ◌ i e ∙ sym (sum_up_to_suc p f)), bnd_add f 1 s r j k)

pub loop-f-init : goal.loop-f-init
unfolding sum_of up_to
loop-f-init c = (refl, omega arith)

pub loop-f-preserved : goal.loop-f-preserved
loop-f-preserved c =
    let a = c.args in
    let f = c.loop-f.f in
    let s = to_z w32 c.loop-f.sum-bits in
    let r = c.facet_s-sum.result in
    let h : to_z w32 (of_z w32 r) ≡ r = search rules in
    let z : to_z w32 (of_z w32 (s +ℤ r)) ≡ s +ℤ r = to_z-of_z (fits_sum s r (omega arith)) in
    let e : r ≡ part a.as_b a.v a.points.now a.corners.now f = c.facet_s-sum.ensures.value ∙ ap (facet_S a.as_b a.v) c.facet.ensures in
    rw (h, z) (one_more (part a.as_b a.v a.points.now a.corners.now) f s r c.loop-f.invariant.0 c.loop-f.invariant.1 e c.facet_s-sum.ensures.small)
