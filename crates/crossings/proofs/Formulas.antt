-- Table 1 of 000 as equations on counts, for all points, edges and facets: each formula of document 01 as it is written there. A facet is given by the
-- names of its corners (Corners), and the sum over its half-edges is the `around` of list_words.
-- A formula holds of S and of the counts alike, as both change their sign with the crossing; so it is proved once, for any such φ.
use mathlib.Core.Path.{◌≡◌, refl, ap, ap₂, ◌∙◌}
use Prim.Native.Nat.{zero, suc}
use native.Mathlib.Omega.{arith}
use mathlib.Core.Bool.{Bool, true, false, cond}
use mathlib.Core.List.{List, [], ◌∷◌}
use lib.IntN.{ℤ, pos, negsuc, neg_ℤ, ◌+ℤ◌, ◌-ℤ◌}
use Rattle.list_words.specs.Lists.{sum_of}
use Rattle.list_words.proofs.Integers.{split, mk_eq, lin}
use Rattle.list_words.proofs.Sums.{sum_append}
use Rattle.points.specs.declared.Point.{Point}
use Rattle.points.specs.declared.Axis.{Axis}
use Rattle.points.specs.declared.Axis.TheVariants.{X, Y, Z}
use Rattle.points.specs.Points.{at_least}
use Rattle.crossings.specs.declared.Edge.{Edge}
use Rattle.crossings.specs.declared.Crossing.{Crossing}
use Rattle.crossings.specs.declared.Crossing.TheVariants.{Miss, Cross}
use Rattle.crossings.specs.Crossings.{count, S, against, crossing, paired, halves, vv, ve, ev, vf, fv, ee, ef, fe, lower_ve, lower_ev, lower_vf, lower_fv, lower_ee, lower_ef, lower_fe}
use Rattle.crossings.proofs.Corners.{Odd, facet_at, round, sum_halves, sum_against}

-- ---- the count, S, and the crossing turned against
pub count_crossing : (k : Axis) (n : ℤ) (cs : List Crossing) → count (crossing k n cs) ≡ n
unfolding crossing
count_crossing k (pos zero) cs = refl
count_crossing k (pos (suc n)) cs = refl
count_crossing k (negsuc n) cs = refl

pub count_paired : (k : Axis) (cs : List Crossing) → count (paired k cs) ≡ sum_of (S k) cs
unfolding paired
count_paired k cs = count_crossing k (sum_of (S k) cs) cs

pub count_against : Odd count
count_against Miss = refl
count_against (Cross n w) = refl

pub S_against : (k : Axis) → Odd (S k)
unfolding S
S_against k Miss = refl
S_against k (Cross n w) = go (at_least k w)
  where
    go : (b : Bool) → cond b (neg_ℤ n) (pos 0) ≡ neg_ℤ (cond b n (pos 0))
    go true = refl
    go false = refl

-- ---- the seven formulas
module _ (φ : Crossing → ℤ) (odd : Odd φ) where
  pub table_ve : (v : Point) (e : Edge) → sum_of φ (lower_ve v e) ≡ φ (vv v e.end) -ℤ φ (vv v e.start)
  unfolding sum_of
  table_ve v e = ap (λ z. z +ℤ (φ (vv v e.end) +ℤ pos 0)) (odd (vv v e.start)) ∙ law (φ (vv v e.start)) (φ (vv v e.end))
    where
      law : (a b : ℤ) → neg_ℤ a +ℤ (b +ℤ pos 0) ≡ b -ℤ a
      law a b = rw (split a, split b) (simp lin (mk_eq _ _ _ _ (omega arith)))

  pub table_ev : (e : Edge) (v : Point) → sum_of φ (lower_ev e v) ≡ φ (vv e.start v) -ℤ φ (vv e.end v)
  unfolding sum_of
  table_ev e v = ap (λ z. φ (vv e.start v) +ℤ (z +ℤ pos 0)) (odd (vv e.end v)) ∙ law (φ (vv e.start v)) (φ (vv e.end v))
    where
      law : (a b : ℤ) → a +ℤ (neg_ℤ b +ℤ pos 0) ≡ a -ℤ b
      law a b = rw (split a, split b) (simp lin (mk_eq _ _ _ _ (omega arith)))

  pub table_ee : (a b : Edge) → sum_of φ (lower_ee a b) ≡ φ (ve a.end b) -ℤ φ (ve a.start b) +ℤ φ (ev a b.end) -ℤ φ (ev a b.start)
  unfolding sum_of
  table_ee a b = rw (odd (ve a.start b), odd (ev a b.start)) (law (φ (ve a.start b)) (φ (ve a.end b)) (φ (ev a b.start)) (φ (ev a b.end)))
    where
      law : (a b c d : ℤ) → neg_ℤ a +ℤ (b +ℤ (neg_ℤ c +ℤ (d +ℤ pos 0))) ≡ b -ℤ a +ℤ d -ℤ c
      law a b c d = rw (split a, split b, split c, split d) (simp lin (mk_eq _ _ _ _ (omega arith)))

module _ (φ : Crossing → ℤ) (odd : Odd φ) {N : Type 0} (point : N → Point) (up : N × N → Bool) (p q r : N) where
  pub table_vf : (v : Point) → sum_of φ (lower_vf v (facet_at point up p q r)) ≡ neg_ℤ (round point up p q r (λ h. φ (ve v h)))
  table_vf v = sum_against φ odd point up p q r (λ h. ve v h)

  pub table_fv : (v : Point) → sum_of φ (lower_fv (facet_at point up p q r) v) ≡ round point up p q r (λ h. φ (ev h v))
  table_fv v = sum_halves φ odd point up p q r (λ h. ev h v)

  sum_two : (c d : Crossing) (cs : List Crossing) → sum_of φ (c ∷ d ∷ cs) ≡ φ c +ℤ (φ d +ℤ sum_of φ cs)
  unfolding sum_of
  sum_two c d cs = refl

  pub table_ef : (e : Edge) → sum_of φ (lower_ef e (facet_at point up p q r))
      ≡ φ (vf e.start (facet_at point up p q r)) -ℤ φ (vf e.end (facet_at point up p q r)) -ℤ round point up p q r (λ h. φ (ee e h))
  table_ef e =
      let f = facet_at point up p q r in
      sum_two (vf e.start f) (against (vf e.end f)) (halves (λ h. against (ee e h)) f)
      ∙ ap₂ (λ x y. φ (vf e.start f) +ℤ (x +ℤ y)) (odd (vf e.end f)) (sum_against φ odd point up p q r (λ h. ee e h))
      ∙ law (φ (vf e.start f)) (φ (vf e.end f)) (round point up p q r (λ h. φ (ee e h)))
    where
      law : (a b c : ℤ) → a +ℤ (neg_ℤ b +ℤ neg_ℤ c) ≡ a -ℤ b -ℤ c
      law a b c = rw (split a, split b, split c) (simp lin (mk_eq _ _ _ _ (omega arith)))

  pub table_fe : (e : Edge) → sum_of φ (lower_fe (facet_at point up p q r) e)
      ≡ φ (fv (facet_at point up p q r) e.end) -ℤ φ (fv (facet_at point up p q r) e.start) -ℤ round point up p q r (λ h. φ (ee h e))
  unfolding sum_of
  table_fe e =
      let f = facet_at point up p q r in
      sum_append φ (halves (λ h. against (ee h e)) f) (against (fv f e.start) ∷ fv f e.end ∷ [])
      ∙ ap₂ (λ x y. x +ℤ (y +ℤ (φ (fv f e.end) +ℤ pos 0))) (sum_against φ odd point up p q r (λ h. ee h e)) (odd (fv f e.start))
      ∙ law (round point up p q r (λ h. φ (ee h e))) (φ (fv f e.start)) (φ (fv f e.end))
    where
      law : (a b c : ℤ) → neg_ℤ a +ℤ (neg_ℤ b +ℤ (c +ℤ pos 0)) ≡ c -ℤ b -ℤ a
      law a b c = rw (split a, split b, split c) (simp lin (mk_eq _ _ _ _ (omega arith)))

-- ---- Table 1
pub count_ve : (v : Point) (e : Edge) → count (ve v e) ≡ S X (vv v e.end) -ℤ S X (vv v e.start)
unfolding ve
count_ve v e = count_paired X (lower_ve v e) ∙ table_ve (S X) (S_against X) v e

pub count_ev : (e : Edge) (v : Point) → count (ev e v) ≡ S X (vv e.start v) -ℤ S X (vv e.end v)
unfolding ev
count_ev e v = count_paired X (lower_ev e v) ∙ table_ev (S X) (S_against X) e v

pub count_ee : (a b : Edge) → count (ee a b) ≡ S Y (ve a.end b) -ℤ S Y (ve a.start b) +ℤ S Y (ev a b.end) -ℤ S Y (ev a b.start)
unfolding ee
count_ee a b = count_paired Y (lower_ee a b) ∙ table_ee (S Y) (S_against Y) a b

module _ {N : Type 0} (point : N → Point) (up : N × N → Bool) (p q r : N) where
  pub count_vf : (v : Point) → count (vf v (facet_at point up p q r)) ≡ neg_ℤ (round point up p q r (λ h. S Y (ve v h)))
  unfolding vf
  count_vf v = count_paired Y (lower_vf v (facet_at point up p q r)) ∙ table_vf (S Y) (S_against Y) point up p q r v

  pub count_fv : (v : Point) → count (fv (facet_at point up p q r) v) ≡ round point up p q r (λ h. S Y (ev h v))
  unfolding fv
  count_fv v = count_paired Y (lower_fv (facet_at point up p q r) v) ∙ table_fv (S Y) (S_against Y) point up p q r v

  pub count_ef : (e : Edge) → count (ef e (facet_at point up p q r))
      ≡ S Z (vf e.start (facet_at point up p q r)) -ℤ S Z (vf e.end (facet_at point up p q r)) -ℤ round point up p q r (λ h. S Z (ee e h))
  unfolding ef
  count_ef e = count_paired Z (lower_ef e (facet_at point up p q r)) ∙ table_ef (S Z) (S_against Z) point up p q r e

  pub count_fe : (e : Edge) → count (fe (facet_at point up p q r) e)
      ≡ S Z (fv (facet_at point up p q r) e.end) -ℤ S Z (fv (facet_at point up p q r) e.start) -ℤ round point up p q r (λ h. S Z (ee h e))
  unfolding fe
  count_fe e = count_paired Z (lower_fe (facet_at point up p q r) e) ∙ table_fe (S Z) (S_against Z) point up p q r e
