-- Numbers of keys: a kept key's number is how many kept ones stand before it. So different kept keys have different numbers, and pieces between
-- distinct keys go between different numbers.
use mathlib.Core.Path.{◌≡◌, refl, sym, ap, ◌∙◌, subst}
use mathlib.Core.Logic.{◌≢◌, ◌⊎◌, inl, inr}
use mathlib.Core.Bool.{Bool, true, false, cond}
use mathlib.Core.Option.{some}
use mathlib.Core.List.Memᴰ
use mathlib.Core.List.{List, [], ◌∷◌, map, Memᴰ}
use Prim.Native.Nat.{ℕ, zero, suc, ◌<◌}
use native.Mathlib.Omega.{arith}
use lib.Dec.{T}
use lib.ListN.{length, get_elem?}
use lib.IntN.{ℤ, pos}
use Rattle.list_words.specs.Lists.{keep, before, above, below}
use Rattle.list_words.proofs.Integers.{one_side}
use Rattle.list_words.proofs.Sums.{All, all_at}
use Rattle.list_words.proofs.Tests.{T_of, cond_true}
use Rattle.list_words.proofs.UpTo.{Distinct}
use Rattle.list_words.proofs.Joining.{pieces, all_join}

module _ {K : Type 0} (eq : K → K → Bool) (kept : K → Bool) where
  abbrev pub number : K → List K → ℕ
  number k keys = length (keep kept (before eq k keys))

  module _ (sound : (x y : K) → T (eq x y) → x ≡ y) (self : (x : K) → T (eq x x)) where
    -- among the kept keys, k stands at its number
    pub number_at : (k : K) (keys : List K) → Memᴰ k keys → kept k ≡ true → get_elem? (keep kept keys) (number k keys) ≡ some k
    unfolding keep before
    number_at k [] m t = absurd (Memᴰ.not-nil m)
    number_at k (x ∷ l) m t = go (eq k x) refl (Memᴰ.cases_cons m) (number_at k l)
      where
        further : (b : Bool) → get_elem? (keep kept l) (number k l) ≡ some k
            → get_elem? (cond b (x ∷ keep kept l) (keep kept l)) (length (cond b (x ∷ keep kept (before eq k l)) (keep kept (before eq k l)))) ≡ some k
        further true ih = ih
        further false ih = ih

        go : (b : Bool) → eq k x ≡ b → (k ≡ x) ⊎ Memᴰ k l → (Memᴰ k l → kept k ≡ true → get_elem? (keep kept l) (number k l) ≡ some k)
            → get_elem? (keep kept (x ∷ l)) (length (keep kept (cond b [] (x ∷ before eq k l)))) ≡ some k
        go true e m ih =
            let q : k ≡ x = sound k x (T_of (eq k x) e) in
            ap (λ l. get_elem? l 0) (cond_true (kept x) (x ∷ keep kept l) (keep kept l) (ap kept (sym q) ∙ t)) ∙ ap some (sym q)
        go false e (inl q) ih = absurd (subst T e (subst (λ y. T (eq k y)) q (self k)))
        go false e (inr m) ih = further (kept x) (ih m t)

    pub number_inj : (k k' : K) (keys : List K) → Memᴰ k keys → kept k ≡ true → Memᴰ k' keys → kept k' ≡ true → number k keys ≡ number k' keys → k ≡ k'
    number_inj k k' keys m t m' t' e = let q : some k ≡ some k' = sym (number_at k keys m t) ∙ ap (get_elem? (keep kept keys)) e ∙ number_at k' keys m' t' in cc

    pub number_lt : (k : K) (keys : List K) → Memᴰ k keys → kept k ≡ true → number k keys < length (keep kept keys)
    number_lt k keys m t = inside (keep kept keys) (number k keys) (number_at k keys m t)
      where
        inside : (l : List K) (i : ℕ) → get_elem? l i ≡ some k → i < length l
        inside [] i e = let z : ◌≡◌ {A = ℕ} 0 1 = cc in absurd (omega arith)
        inside (x ∷ l) zero e = omega arith
        inside (x ∷ l) (suc i) e = let h = inside l i e in omega arith

-- ---- pieces between numbered keys
module _ {E K : Type 0} (key : E → K) where
  same_element : (es : List E) → Distinct (map key es) → (e d : E) → Memᴰ e es → Memᴰ d es → key e ≡ key d → e ≡ d
  same_element [] h e d m n q = absurd (Memᴰ.not-nil m)
  same_element (x ∷ es) h e d m n q = go (Memᴰ.cases_cons m) (Memᴰ.cases_cons n) (same_element es h.1 e d)
    where
      apart : (z : E) → Memᴰ z es → key x ≢ key z
      apart z i = all_at (λ k. key x ≢ k) (Memᴰ.map key i) h.0

      go : (e ≡ x) ⊎ Memᴰ e es → (d ≡ x) ⊎ Memᴰ d es → (Memᴰ e es → Memᴰ d es → key e ≡ key d → e ≡ d) → e ≡ d
      go (inl a) (inl b) ih = a ∙ sym b
      go (inl a) (inr j) ih = absurd (apart d j (ap key (sym a) ∙ q))
      go (inr i) (inl b) ih = absurd (apart e i (ap key (sym b) ∙ sym q))
      go (inr i) (inr j) ih = ih i j q

  module _ {X : Type 0} (count : E → ℤ) (num : K → X) (Q : X × X → Type 0) (Kept : K → Type 0) where
    -- what holds from one kept key to another holds of each piece
    pub join_keys : ((k k' : K) → Kept k → Kept k' → k ≢ k' → Q (num k, num k')) → (es : List E) → Distinct (map key es) → All (λ e. count e ≢ pos 0 → Kept (key e)) es
        → All Q (pieces (λ e. num (key e)) count es)
    join_keys good es dist kept = all_join (λ e. num (key e)) count Q es one
      where
        stays : (e : E) → Memᴰ e es → count e ≢ pos 0 → Kept (key e)
        stays e m = all_at (λ e. count e ≢ pos 0 → Kept (key e)) m kept

        both : (e : E) → 0 < below (count e) → 0 < above (count e) → ⊥
        both e p q = elim (one_side (count e)) [ inl z ↦ omega arith | inr z ↦ omega arith ]

        one : (e d : E) → Memᴰ e es → Memᴰ d es → 0 < below (count e) → 0 < above (count d) → Q (num (key e), num (key d))
        one e d i j p q =
            good (key e) (key d) (stays e i (λ z. omega (arith, ap below z))) (stays d j (λ z. omega (arith, ap above z)))
            (λ k. both e p (subst (λ d. 0 < above (count d)) (sym (same_element es dist e d i j k)) q))
