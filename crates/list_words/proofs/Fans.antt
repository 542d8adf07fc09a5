-- Fans: a, p, q for each half-edge p→q that a is no end of. Over half-edges that go round, the fan turns as they do. And the least number of a list.
use mathlib.Core.Path.{◌≡◌, refl, sym, ap, ap₂, ◌∙◌, subst}
use mathlib.Core.Logic.{◌≢◌, ◌⊎◌, inl, inr}
use mathlib.Core.Bool.{Bool, true, false, not, ◌||◌}
use mathlib.Core.List.{List, [], ◌∷◌, Memᴰ}
use Prim.Native.Nat.{ℕ, ◌<◌, ◌≤◌, min}
use native.Mathlib.Omega.{arith}
use native.Mathlib.Decide.{dec_le}
use lib.Dec.{T}
use lib.IntN.{ℤ, pos, ◌+ℤ◌, ◌-ℤ◌, neg_ℤ, +ℤ_idr}
use Rattle.list_words.specs.Lists.{sum_of, keep, least}
use Rattle.list_words.proofs.Integers.{split, mk_eq, lin, half_zero}
use Rattle.list_words.proofs.Sums.{All, all_mono, sum_add, sum_ext, sum_keep}
use Rattle.list_words.proofs.Tests.{T_of, of_T, never, not_true, not_false, or_true, or-false, all_keep}
use Rattle.list_words.proofs.Closed.{Anti, Simple}
use Rattle.list_words.proofs.Signed.{Round}

module _ {X : Type 0} (eq : X → X → Bool) where
  -- a is an end of h
  abbrev pub meets : X → X × X → Bool
  meets a h = eq a h.0 || eq a h.1

  module _ (sound : (x y : X) → T (eq x y) → x ≡ y) where
    module _ (G : X × X → ℤ) (anti : Anti G) (a : X) where
      -- what the triangle a, p, q adds, if p→q is h
      abbrev part : X × X → ℤ
      part h = G (a, h.0) +ℤ (G (h.0, h.1) +ℤ (G (h.1, a) +ℤ pos 0))

      same_ends : G (a, a) ≡ pos 0
      same_ends = half_zero (G (a, a)) (anti (a, a))

      from_a : (q : X) → part (a, q) ≡ pos 0
      from_a q = ap₂ (λ x y. x +ℤ (G (a, q) +ℤ (y +ℤ pos 0))) same_ends (anti (a, q)) ∙ cancel (G (a, q))
        where
          cancel : (x : ℤ) → pos 0 +ℤ (x +ℤ (neg_ℤ x +ℤ pos 0)) ≡ pos 0
          cancel x = rw (split x) (simp lin (mk_eq _ _ _ _ (omega arith)))

      to_a : (p : X) → part (p, a) ≡ pos 0
      to_a p = ap₂ (λ x y. x +ℤ (G (p, a) +ℤ (y +ℤ pos 0))) (anti (p, a)) same_ends ∙ cancel (G (p, a))
        where
          cancel : (x : ℤ) → neg_ℤ x +ℤ (x +ℤ (pos 0 +ℤ pos 0)) ≡ pos 0
          cancel x = rw (split x) (simp lin (mk_eq _ _ _ _ (omega arith)))

      met : (h : X × X) → not (meets a h) ≡ false → part h ≡ pos 0
      met h t = elim (or_true (eq a h.0) (eq a h.1) (not_false (meets a h) t)) [
        | inl e ↦ ap (λ p. part (p, h.1)) (sym (sound a h.0 (T_of (eq a h.0) e))) ∙ from_a h.1
        | inr e ↦ ap (λ q. part (h.0, q)) (sym (sound a h.1 (T_of (eq a h.1) e))) ∙ to_a h.0
      ]

      pub fan_sum : (l : List (X × X)) → Round l
          → sum_of (λ h. G (a, h.0) +ℤ (G (h.0, h.1) +ℤ (G (h.1, a) +ℤ pos 0))) (keep (λ h. not (meets a h)) l) ≡ sum_of G l
      fan_sum l round =
          sum_keep (λ h. not (meets a h)) part l met
          ∙ sum_ext part (λ h. G h +ℤ (G (h.1, a) -ℤ G (h.0, a))) l
          (λ h. ap (λ x. x +ℤ (G h +ℤ (G (h.1, a) +ℤ pos 0))) (anti (h.0, a)) ∙ regroup (G (h.0, a)) (G h) (G (h.1, a)))
          ∙ sum_add G (λ h. G (h.1, a) -ℤ G (h.0, a)) l ∙ ap (λ z. sum_of G l +ℤ z) (round (λ p. G (p, a))) ∙ +ℤ_idr (sum_of G l)
        where
          regroup : (x y z : ℤ) → neg_ℤ x +ℤ (y +ℤ (z +ℤ pos 0)) ≡ y +ℤ (z -ℤ x)
          regroup x y z = rw (split x, split y, split z) (simp lin (mk_eq _ _ _ _ (omega arith)))

  module _ (self : (x : X) → T (eq x x)) where
    -- three different corners
    pub fan_apart : (a : X) (l : List (X × X)) → Simple l → All (λ h. (a ≢ h.0) × (h.0 ≢ h.1) × (h.1 ≢ a)) (keep (λ h. not (meets a h)) l)
    fan_apart a l simple =
        all_mono (λ h. (not (meets a h) ≡ true) × (h.0 ≢ h.1)) (λ h. (a ≢ h.0) × (h.0 ≢ h.1) × (h.1 ≢ a)) (keep (λ h. not (meets a h)) l) apart
        (all_keep (λ h. not (meets a h)) (λ h. h.0 ≢ h.1) l simple)
      where
        differ : (x : X) → eq a x ≡ false → a ≢ x
        differ x f e = never (eq a x) (of_T (eq a x) (subst (λ y. T (eq a y)) e (self a))) f

        apart : (h : X × X) → (not (meets a h) ≡ true) × (h.0 ≢ h.1) → (a ≢ h.0) × (h.0 ≢ h.1) × (h.1 ≢ a)
        apart h r = let s = or-false (eq a h.0) (eq a h.1) (not_true (meets a h) r.0) in (differ h.0 s.0, r.1, λ e. differ h.1 s.1 (sym e))

-- ---- the least number
pub least_le : (m : ℕ) (l : List ℕ) → least m l ≤ m
unfolding least
least_le m [] = omega arith
least_le m (n ∷ l) = omega (arith, least_le (min m n) l)

pub least_all : (m : ℕ) (l : List ℕ) → All (λ n. least m l ≤ n) l
unfolding least
least_all m [] = tt
least_all m (n ∷ l) = (omega (arith, least_le (min m n) l), least_all (min m n) l)

pub least_lt : (m n : ℕ) (l : List ℕ) → m < n → least m l < n
least_lt m n l h = omega (arith, least_le m l)

pub least_there : (m : ℕ) (l : List ℕ) → (least m l ≡ m) ⊎ Memᴰ (least m l) l
unfolding least
least_there m [] = inl refl
least_there m (n ∷ l) = go (least_there (min m n) l)
  where
    go : (least (min m n) l ≡ min m n) ⊎ Memᴰ (least (min m n) l) l → (least (min m n) l ≡ m) ⊎ Memᴰ (least (min m n) l) (n ∷ l)
    go (inl e) = elim (dec_le m n) [ yes h ↦ inl (omega arith) | no k ↦ inr (Memᴰ.head {x = n} (omega arith)) ]
    go (inr i) = inr (Memᴰ.tail i)
