-- Theorem 1 of 000, for all points, edges and facets, whatever their numbers are: the lower counts of each pairing, with the signs of its
-- formula, add up to 0; so a pairing whose count is not 0 has among its lower pairings a plus and a minus, from which its points are taken.
use mathlib.Core.Path.{◌≡◌, refl, sym, ap, ap₂, ◌∙◌}
use mathlib.Core.Logic.{◌≢◌}
use native.Mathlib.Omega.{arith}
use mathlib.Core.Bool.{Bool, true, false, cond}
use mathlib.Core.List.{List, [], ◌∷◌}
use lib.IntN.{ℤ, pos, neg_ℤ, ◌+ℤ◌, ◌-ℤ◌, +ℤ_invr}
use Rattle.list_words.specs.Lists.{sum_of}
use Rattle.list_words.proofs.Integers.{split, mk_eq, lin, eq_of_sub}
use Rattle.list_words.proofs.Sums.{sum_sub}
use Rattle.list_words.proofs.Tests.{not_false}
use Rattle.points.specs.declared.Point.{Point}
use Rattle.points.specs.declared.Axis.{Axis}
use Rattle.points.specs.declared.Axis.TheVariants.{X, Y}
use Rattle.points.specs.Points.{at_least}
use Rattle.crossings.specs.declared.Edge.{Edge}
use Rattle.crossings.specs.declared.Facet.{Facet}
use Rattle.crossings.specs.declared.Crossing.{Crossing}
use Rattle.crossings.specs.declared.Crossing.TheVariants.{Miss, Cross}
use Rattle.crossings.specs.Crossings.{count, S, lies, first, paired, vv, ve, ev, ee, lower_ve, lower_ev, lower_vf, lower_fv, lower_ee, lower_ef, lower_fe}
use Rattle.crossings.proofs.Corners.{facet_at, round, round_ext, round_ends, round_ends_turned, round_but_ends, corner, along, one, two, three}
use Rattle.crossings.proofs.Formulas.{count_paired, count_against, table_vf, table_fv, table_ee, table_ef, table_fe, count_ve, count_ev, count_vf, count_fv, count_ee}

-- ---- what is not 0 has a crossing that gives it
there : (k : Axis) (side : Bool) (φ : Crossing → ℤ) → ((c : Crossing) → lies k side c ≡ false → φ c ≡ pos 0) → (cs : List Crossing) → sum_of φ cs ≢ pos 0
    → lies k side (first k side cs) ≡ true
unfolding sum_of first
there k side φ z [] h = absurd (h refl)
there k side φ z (c ∷ cs) h = go (lies k side c) refl (there k side φ z cs)
  where
    go : (b : Bool) → lies k side c ≡ b → (sum_of φ cs ≢ pos 0 → lies k side (first k side cs) ≡ true) → lies k side (cond b c (first k side cs)) ≡ true
    go true e ih = e
    go false e ih = ih (λ i. h (rw (z c e, i)))

-- S is 0 where it is not plus, and the rest of the count is 0 where it is not minus
not_plus : (k : Axis) (c : Crossing) → lies k true c ≡ false → S k c ≡ pos 0
unfolding lies S
not_plus k Miss e = refl
not_plus k (Cross n w) e = rw e

not_minus : (k : Axis) (c : Crossing) → lies k false c ≡ false → count c -ℤ S k c ≡ pos 0
unfolding lies S
not_minus k Miss e = refl
not_minus k (Cross n w) e = rw (not_false (at_least k w) e) (+ℤ_invr n)

-- ---- Theorem 1
-- There are both a plus and a minus among these lower pairings: the first of each lies as it should.
pub record Both (k : Axis) (cs : List Crossing) : Type 0 where
  pub plus : lies k true (first k true cs) ≡ true
  pub minus : lies k false (first k false cs) ≡ true

module _ (k : Axis) (cs : List Crossing) (z : sum_of count cs ≡ pos 0) where
  pub both_of_sum : sum_of (S k) cs ≢ pos 0 → Both k cs
  both_of_sum h =
      record {
        plus = there k true (S k) (not_plus k) cs h;
        minus = there k false (λ c. count c -ℤ S k c) (not_minus k) cs (λ i. h (sym (eq_of_sub _ _ (sym (sum_sub count (S k) cs) ∙ i)) ∙ z));
      }

  pub both_paired : count (paired k cs) ≢ pos 0 → Both k cs
  both_paired h = both_of_sum (λ i. h (count_paired k cs ∙ i))

-- ---- the lower counts add up to 0
pub zero_ve : (v : Point) (e : Edge) → sum_of count (lower_ve v e) ≡ pos 0
unfolding sum_of
zero_ve v e = refl

pub zero_ev : (e : Edge) (v : Point) → sum_of count (lower_ev e v) ≡ pos 0
unfolding sum_of
zero_ev e v = refl

pub zero_ee : (a b : Edge) → sum_of count (lower_ee a b) ≡ pos 0
zero_ee a b =
    table_ee count count_against a b
    ∙ simp (count_ve, count_ev) (law (S X (vv a.start b.start)) (S X (vv a.start b.end)) (S X (vv a.end b.start)) (S X (vv a.end b.end)))
  where
    law : (ss se es ee : ℤ) → (ee -ℤ es) -ℤ (se -ℤ ss) +ℤ (se -ℤ ee) -ℤ (ss -ℤ es) ≡ pos 0
    law ss se es ee = rw (split ss, split se, split es, split ee) (simp lin (mk_eq _ _ _ _ (omega arith)))

module _ {N : Type 0} (point : N → Point) (up : N × N → Bool) (p q r : N) where
  -- two edges' counts, round a facet of B and round a facet of A
  round_ee_B : (e : Edge) → round point up p q r (λ h. count (ee e h))
      ≡ round point up p q r (λ h. S Y (ve e.end h)) -ℤ round point up p q r (λ h. S Y (ve e.start h))
  round_ee_B e = round_ext point up p q r _ _ (count_ee e) ∙ round_but_ends point up p q r (λ h. S Y (ve e.end h)) (λ h. S Y (ve e.start h)) (λ v. S Y (ev e v))

  round_ee_A : (e : Edge) → round point up p q r (λ h. count (ee h e))
      ≡ round point up p q r (λ h. S Y (ev h e.end)) -ℤ round point up p q r (λ h. S Y (ev h e.start))
  round_ee_A e =
      round_ext point up p q r _ _ (λ h. count_ee h e ∙ law (S Y (ve h.end e)) (S Y (ve h.start e)) (S Y (ev h e.end)) (S Y (ev h e.start)))
      ∙ round_but_ends point up p q r (λ h. S Y (ev h e.end)) (λ h. S Y (ev h e.start)) (λ v. S Y (ve v e))
    where
      law : (a b c d : ℤ) → a -ℤ b +ℤ c -ℤ d ≡ c -ℤ d +ℤ a -ℤ b
      law a b c d = rw (split a, split b, split c, split d) (simp lin (mk_eq _ _ _ _ (omega arith)))

  zero_vf_at : (v : Point) → sum_of count (lower_vf v (facet_at point up p q r)) ≡ pos 0
  zero_vf_at v = table_vf count count_against point up p q r v ∙ ap neg_ℤ (round_ext point up p q r _ _ (count_ve v) ∙ round_ends point up p q r (λ p. S X (vv v p)))

  zero_fv_at : (v : Point) → sum_of count (lower_fv (facet_at point up p q r) v) ≡ pos 0
  zero_fv_at v = table_fv count count_against point up p q r v ∙ round_ext point up p q r _ _ (λ h. count_ev h v) ∙ round_ends_turned point up p q r (λ p. S X (vv p v))

  zero_ef_at : (e : Edge) → sum_of count (lower_ef e (facet_at point up p q r)) ≡ pos 0
  zero_ef_at e =
      table_ef count count_against point up p q r e
      ∙ ap₂ ◌-ℤ◌ (ap₂ ◌-ℤ◌ (count_vf point up p q r e.start) (count_vf point up p q r e.end)) (round_ee_B e)
      ∙ law (round point up p q r (λ h. S Y (ve e.start h))) (round point up p q r (λ h. S Y (ve e.end h)))
    where
      law : (s e : ℤ) → neg_ℤ s -ℤ neg_ℤ e -ℤ (e -ℤ s) ≡ pos 0
      law s e = rw (split s, split e) (simp lin (mk_eq _ _ _ _ (omega arith)))

  zero_fe_at : (e : Edge) → sum_of count (lower_fe (facet_at point up p q r) e) ≡ pos 0
  zero_fe_at e =
      table_fe count count_against point up p q r e
      ∙ ap₂ ◌-ℤ◌ (ap₂ ◌-ℤ◌ (count_fv point up p q r e.end) (count_fv point up p q r e.start)) (round_ee_A e)
      ∙ +ℤ_invr (round point up p q r (λ h. S Y (ev h e.end)) -ℤ round point up p q r (λ h. S Y (ev h e.start)))

pub zero_vf : (v : Point) (f : Facet) → sum_of count (lower_vf v f) ≡ pos 0
zero_vf v f = zero_vf_at (corner f) (along f) one two three v

pub zero_fv : (f : Facet) (v : Point) → sum_of count (lower_fv f v) ≡ pos 0
zero_fv f v = zero_fv_at (corner f) (along f) one two three v

pub zero_ef : (e : Edge) (f : Facet) → sum_of count (lower_ef e f) ≡ pos 0
zero_ef e f = zero_ef_at (corner f) (along f) one two three e

pub zero_fe : (f : Facet) (e : Edge) → sum_of count (lower_fe f e) ≡ pos 0
zero_fe f e = zero_fe_at (corner f) (along f) one two three e
