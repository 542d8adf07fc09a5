-- What the loop that weighs one solid's vertices has done, and both lists of them together.
use mathlib.Core.Path.{◌≡◌, sym, ap, ◌∙◌, subst}
use mathlib.Core.List.{List}
use Prim.Native.Nat.{ℕ, ◌+◌, ◌-◌, ◌<◌, ◌≤◌}
use native.Mathlib.Omega.{arith}
use native.Mathlib.Decide.{dec_lt}
use lib.IntN.{ℤ, pos, nat_abs}
use lib.ListN.{length, get_or, set, get_or-eq_default}
use lib.Seq.{get_or-set_same, get_or-set_other}
use Rattle.solids.specs.Solids.{Solid, vertices}
use Rattle.results.specs.declared.Operation.{Operation}
use Rattle.results.specs.Inclusion.{inclusion, vA, vB}
use Rattle.inclusions.specs.declared.side.Side.{Side}
use Rattle.inclusions.specs.Words.{Included, weight, Weighed}

module _ (q : Side) where
  pub weighed_next : (old new : List ℤ) (i : ℕ) (v : ℤ) → q.at + i < length new → v ≡ weight q i → nat_abs v ≤ 257 → Weighed q old new i
      → Weighed q old (set new (q.at + i) v) (i + 1)
  weighed_next old new i v r e small w =
      let same = get_or-set_same new (q.at + i) v (pos 0) r in
      let kept : (x : ℕ) → x < i → get_or (set new (q.at + i) v) (q.at + x) (pos 0) ≡ get_or new (q.at + x) (pos 0) = λ x h. get_or-set_other new (q.at + i) (q.at + x) v (pos 0) (λ e. absurd (omega (arith, e, h))) in
      record {
        before = λ x h. get_or-set_other new (q.at + i) x v (pos 0) (λ e. absurd (omega (arith, e))) ∙ w.before x h;
        there = λ x h. elim (dec_lt x i) [
          | yes l ↦ kept x l ∙ w.there x l
          | no l ↦ let d : x ≡ i = omega arith in rw d (same ∙ e)
        ];
        few = λ x h. elim (dec_lt x i) [
          | yes l ↦ rw (kept x l) (w.few x l)
          | no l ↦ let d : x ≡ i = omega arith in rw (d, same) small
        ];
      }

-- ---- A's vertices, then B's
module _ (op : Operation) (a b : Solid) (q r : Side) {old mid new : List ℤ} (first : q.at ≡ 0) (second : r.at ≡ vertices a) where
  pub weighed_both : ((i : ℕ) → weight q i ≡ inclusion op a b (vA i)) → ((i : ℕ) → weight r i ≡ inclusion op a b (vB i))
      → length new ≡ vertices a + vertices b → Weighed q old mid (vertices a) → Weighed r mid new (vertices b) → Included op a b new
  weighed_both of_a of_b long w v =
      let at_a : (i : ℕ) → q.at + i ≡ i = λ i. omega (arith, first) in
      let kept : (i : ℕ) → i < vertices a → get_or new i (pos 0) ≡ get_or mid i (pos 0) = λ i l. v.before i (omega (arith, l, second)) in
      record {
        long = omega (arith, long);
        of_a = λ i l. kept i l ∙ ap (λ k. get_or mid k (pos 0)) (sym (at_a i)) ∙ w.there i l ∙ of_a i;
        of_b = λ i l. ap (λ k. get_or new (k + i) (pos 0)) (sym second) ∙ v.there i l ∙ of_b i;
        few = λ i. elim (dec_lt i (vertices a)) [
          | yes l ↦ rw (kept i l) (subst (λ k. nat_abs (get_or mid k (pos 0)) ≤ 257) (at_a i) (w.few i l))
          | no l ↦ elim (dec_lt (i - vertices a) (vertices b)) [
            | yes m ↦
                let e : r.at + (i - vertices a) ≡ i = omega (arith, second, l) in
                subst (λ k. nat_abs (get_or new k (pos 0)) ≤ 257) e (v.few (i - vertices a) m)
            | no m ↦ let beyond : length new ≤ i = omega (arith, long, l, m) in rw (get_or-eq_default new (pos 0) beyond) (omega arith)
          ]
        ];
      }
