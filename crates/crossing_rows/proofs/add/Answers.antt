-- `add` meets its contract: what is 0 is left out, and what is not is stored where there is room.
use mathlib.Core.Path.{◌≡◌, sym, ap, ◌∙◌, subst}
use mathlib.Core.Bool.{true, false}
use Prim.Native.Nat.{◌≤◌}
use native.Mathlib.Omega.{arith}
use lib.IntN.{ℤ, nat_abs, ◌*ℤ◌}
use mir.Syntax.{w32}
use mir.Val.{to_z, of_z}
use Rattle.list_words.specs.Lists.{nonzero}
use Rattle.list_words.proofs.Widths.{back_32}
use Rattle.crossings.proofs.Fits.{fits, zero_not, not_zero}
use Rattle.edges.specs.Readers.{solid_of}
use Rattle.layouts.specs.Words.{packed}
use Rattle.crossing_rows.specs.Words.{count_of}
use Rattle.list_words.proofs.Integers.{scaled}
use Rattle.crossing_rows.proofs.Listings.{crossing_one, crossing_zero, behind_none, behind_packed}
use Rattle.crossing_rows.proofs.add.Goals as goal

-- the count times the sign, as it is worked out
module _ (sign r : ℤ) (one : nat_abs sign ≤ 1) (few : nat_abs r ≤ 2) where
  product_small : nat_abs (sign *ℤ r) ≤ 2
  product_small = scaled 2 sign r one few

  product : to_z w32 (of_z w32 sign) *ℤ to_z w32 (of_z w32 r) ≡ sign *ℤ r
  product = rw (back_32 sign (omega (arith, one)), back_32 r (omega (arith, few)))

  none : of_z w32 (to_z w32 (of_z w32 sign) *ℤ to_z w32 (of_z w32 r)) ≡ 0 → nonzero (sign *ℤ r) ≡ false
  none e = zero_not (sign *ℤ r) (fits (sign *ℤ r) (omega (arith, product_small))) (ap (of_z w32) (sym product) ∙ e)

  some : (of_z w32 (to_z w32 (of_z w32 sign) *ℤ to_z w32 (of_z w32 r)) ≡ 0 → ⊥) → nonzero (sign *ℤ r) ≡ true
  some h = not_zero (sign *ℤ r) (λ e. h (ap (of_z w32) product ∙ e))

  stored : to_z w32 (of_z w32 (to_z w32 (of_z w32 sign) *ℤ to_z w32 (of_z w32 r))) ≡ sign *ℤ r
  stored = ap (λ x. to_z w32 (of_z w32 x)) product ∙ back_32 (sign *ℤ r) (omega (arith, product_small))

pub returns-then-n-eq0-clause-added : goal.returns-then-n-eq0-clause-added
returns-then-n-eq0-clause-added c =
    let r = c.count_of in
    let s = c.args.sign in
    let z = subst (λ x. nonzero (s *ℤ x) ≡ false) r.ensures.value (none s r.result c.requires.sign_bound.0 r.ensures.small c.if-n-eq0.true) in
    rw (crossing_zero s (count_of c.args.row (solid_of c.args.b)) c.args.column z) (behind_none c.args.crossed.now c.args.k c.requires.sign_bound.1)

pub returns-then-crossed-k-clause-added : goal.returns-then-crossed-k-clause-added
returns-then-crossed-k-clause-added c =
    let r = c.count_of in
    let s = c.args.sign in
    let z = subst (λ x. nonzero (s *ℤ x) ≡ true) r.ensures.value (some s r.result c.requires.sign_bound.0 r.ensures.small c.if-n-eq0.false) in
    rw (crossing_one s (count_of c.args.row (solid_of c.args.b)) c.args.column z) (omega (arith, c.if-crossed-k.true))

pub returns-clause-added : goal.returns-clause-added
returns-clause-added c =
    let r = c.count_of in
    let s = c.args.sign in
    let small = c.requires.sign_bound.0 in
    let y = some s r.result small r.ensures.small c.if-n-eq0.false in
    let e = c.packed.ensures ∙ ap (λ x. packed (c.args.column, x)) (stored s r.result small r.ensures.small) in
    let z = subst (λ x. nonzero (s *ℤ x) ≡ true) r.ensures.value y in
    rw (e, crossing_one s (count_of c.args.row (solid_of c.args.b)) c.args.column z, ← r.ensures.value)
    (behind_packed c.args.crossed.now c.args.k c.args.column (s *ℤ r.result) c.if-crossed-k.false (product_small s r.result small r.ensures.small) y)
