-- What the loop that numbers a solid's vertices has done after i of them.
use mathlib.Core.Path.{◌≡◌, sym, ap, ◌∙◌}
use mathlib.Core.Bool.{true, false}
use mathlib.Core.List.{List, [], ◌∷◌}
use Prim.Native.Nat.{ℕ, suc, ◌+◌, ◌<◌, ◌≤◌}
use native.Mathlib.Omega.{arith}
use native.Mathlib.Decide.{dec_lt}
use lib.IntN.{ℤ, pos}
use lib.ListN.{length, get_or, set}
use lib.Seq.{get_or-set_same, get_or-set_other}
use Rattle.list_words.specs.Lists.{keep, nonzero}
use Rattle.fans.specs.Words.{rank, Follows, Ranked}
use Rattle.fans.proofs.Ranks.{rank_next}

pub record Numbering (inc : List ℤ) (num₀ num : List ℕ) (from many start k i : ℕ) : Type 0 where
  pub few : k ≤ start + i
  pub before : (x : ℕ) → x < from → get_or num x 0 ≡ get_or num₀ x 0
  pub ranked : (t : List ℤ) (slot : ℕ) → Follows t inc slot from many → start ≡ rank t slot → Ranked t num slot from i k

module _ {inc : List ℤ} {num₀ num : List ℕ} {from many start k i : ℕ} (g : Numbering inc num₀ num from many start k i) (h : i < many) (r : from + i < length num) where
  step : (d : ℕ) → d ≡ length (keep nonzero (get_or inc (from + i) (pos 0) ∷ [])) → d ≤ 1 → Numbering inc num₀ (set num (from + i) k) from many start (k + d) (i + 1)
  step d e few =
      record {
        few = omega (arith, g.few);
        before = λ x l. get_or-set_other num (from + i) x k 0 (λ q. absurd (omega (arith, q))) ∙ g.before x l;
        ranked = λ t slot f b.
            let p = g.ranked t slot f b in
            let q : slot + (i + 1) ≡ suc (slot + i) = omega arith in
            let n = rank_next t (slot + i) (omega (arith, f.room)) in
            let m = ap (λ x. length (keep nonzero (x ∷ []))) (f.each i h) in
            record {
              next = omega (arith, p.next, e, m, n) ∙ ap (rank t) (sym q);
              each = λ x l. elim (dec_lt x i) [
                | yes o ↦ get_or-set_other num (from + i) (from + x) k 0 (λ q. absurd (omega (arith, q))) ∙ p.each x o
                | no o ↦ let q : x ≡ i = omega arith in rw q (get_or-set_same num (from + i) k 0 r ∙ p.next)
              ];
            };
      }

  pub numbering_yes : nonzero (get_or inc (from + i) (pos 0)) ≡ true → Numbering inc num₀ (set num (from + i) k) from many start (k + 1) (i + 1)
  unfolding keep
  numbering_yes y = let e : 1 ≡ length (keep nonzero (get_or inc (from + i) (pos 0) ∷ [])) = rw y in step 1 e (omega arith)

  pub numbering_no : nonzero (get_or inc (from + i) (pos 0)) ≡ false → Numbering inc num₀ (set num (from + i) k) from many start k (i + 1)
  unfolding keep
  numbering_no y =
      let e : 0 ≡ length (keep nonzero (get_or inc (from + i) (pos 0) ∷ [])) = rw y in
      let z : k + 0 ≡ k = omega arith in
      rw z at (step 0 e (omega arith))
