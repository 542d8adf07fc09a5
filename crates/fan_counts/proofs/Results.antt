-- The composite edges of two admitted solids can be joined in any order: as many starts as stops, since inclusions add up, and no vertex has both,
-- since its keys are different.
use mathlib.Core.Path.{◌≡◌, refl, sym, ap, ◌∙◌, subst}
use mathlib.Core.Logic.{◌≢◌, ◌⊎◌, inl, inr}
use mathlib.Core.List.Memᴰ
use mathlib.Core.List.{List, [], ◌∷◌, map, Memᴰ}
use Prim.Native.Nat.{ℕ, ◌<◌}
use native.Mathlib.Omega.{arith}
use lib.IntN.{ℤ, pos, ◌+ℤ◌, ◌-ℤ◌, +ℤ_invr}
use Rattle.list_words.specs.Lists.{up_to, sum_of, above, below}
use Rattle.list_words.proofs.Integers.{split, mk_eq, lin, one_side}
use Rattle.list_words.proofs.Sums.{all_at, sum_map}
use Rattle.list_words.proofs.UpTo.{Distinct}
use Rattle.solids.specs.Solids.{Solid, Half, facets, edges}
use Rattle.solids.proofs.Admitted.{Passed}
use Rattle.solids.proofs.Around.{around}
use Rattle.results.specs.declared.End.{End}
use Rattle.results.specs.Inclusion.{Key, vA, eAfB, fAeB, vB}
use Rattle.results.specs.Pieces.{SignedEnd, ends_along, ends_of_eA, ends_of_fAfB, ends_of_eB, gathered}
use Rattle.results.proofs.Adding.{Adds}
use Rattle.results.proofs.Balance.{along_sum, pair_sum}
use Rattle.results.proofs.Corners.{num, Fits, Sound, good, eA_sound, eB_sound, fAfB_sound}
use Rattle.fan_counts.specs.Words.{Composite}

-- ---- elements by their keys
module _ {A B : Type 0} (f : A → B) where
  pub mem_of_map : (l : List A) {y : B} → Memᴰ y (map f l) → (x : A) × Memᴰ x l × (y ≡ f x)
  mem_of_map [] m = absurd (Memᴰ.not-nil m)
  mem_of_map (z ∷ l) {y} m = go (Memᴰ.cases_cons m) (λ i. mem_of_map l i)
    where
      go : (y ≡ f z) ⊎ Memᴰ y (map f l) → (Memᴰ y (map f l) → (x : A) × Memᴰ x l × (y ≡ f x)) → (x : A) × Memᴰ x (z ∷ l) × (y ≡ f x)
      go (inl e) ih = (z, Memᴰ.head refl, e)
      go (inr i) ih = let (x, n, e) = ih i in (x, Memᴰ.tail n, e)

  same_element : (l : List A) → Distinct (map f l) → (x y : A) → Memᴰ x l → Memᴰ y l → f x ≡ f y → x ≡ y
  same_element [] d x y m n q = absurd (Memᴰ.not-nil m)
  same_element (z ∷ l) d x y m n q = go (Memᴰ.cases_cons m) (Memᴰ.cases_cons n) (same_element l d.1 x y)
    where
      away : (u : A) → Memᴰ u l → f z ≢ f u
      away u i = all_at (λ k. f z ≢ k) (Memᴰ.map f i) d.0

      go : (x ≡ z) ⊎ Memᴰ x l → (y ≡ z) ⊎ Memᴰ y l → (Memᴰ x l → Memᴰ y l → f x ≡ f y → x ≡ y) → x ≡ y
      go (inl u) (inl v) ih = u ∙ sym v
      go (inl u) (inr j) ih = absurd (away y j (ap f (sym u) ∙ q))
      go (inr i) (inl v) ih = absurd (away x i (ap f (sym v) ∙ sym q))
      go (inr i) (inr j) ih = ih i j q

module _ (inc : Key → ℤ) (a b : Solid) where
  -- ---- one composite edge
  composite : (es : List SignedEnd) → sum_of (λ (e : SignedEnd). e.count) es ≡ pos 0 → Sound inc a b es → Composite (gathered (num inc a b) es)
  composite es z s =
      record {
        even = sum_map (λ (e : End). e.count) (λ (e : SignedEnd). record { vertex = num inc a b e.key; count = e.count }) es ∙ z;
        parted = λ e d m n p q.
            let (x, i, u) = mem_of_map (λ (e : SignedEnd). record { vertex = num inc a b e.key; count = e.count }) es m in
            let (y, j, v) = mem_of_map (λ (e : SignedEnd). record { vertex = num inc a b e.key; count = e.count }) es n in
            apart e d x y i j u v p q;
      }
    where
      both : (n : ℤ) → 0 < below n → 0 < above n → ⊥
      both n p q = elim (one_side n) [ inl z ↦ omega arith | inr z ↦ omega arith ]

      apart : (e d : End) (x y : SignedEnd) → Memᴰ x es → Memᴰ y es → e ≡ record { vertex = num inc a b x.key; count = x.count } → d ≡ record { vertex = num inc a b y.key; count = y.count }
          → 0 < below e.count → 0 < above d.count → e.vertex ≢ d.vertex
      apart e d x y i j u v p q w =
          let p' : 0 < below x.count = subst (λ (e : End). 0 < below e.count) u p in
          let q' : 0 < above y.count = subst (λ (e : End). 0 < above e.count) v q in
          let k = all_at (Fits inc a b) i s.1 (λ z. omega (arith, ap below z)) in
          let l = all_at (Fits inc a b) j s.1 (λ z. omega (arith, ap above z)) in
          let r : num inc a b x.key ≡ num inc a b y.key = ap (λ (e : End). e.vertex) (sym u) ∙ w ∙ ap (λ (e : End). e.vertex) v in
          (good inc a b x.key y.key k l (λ h. both y.count (subst (λ (e : SignedEnd). 0 < below e.count) (same_element (λ (e : SignedEnd). e.key) es s.0 x y i j h) p') q')).apart r

  law : (x y : ℤ) → (y -ℤ x) +ℤ (x -ℤ y) ≡ pos 0
  law x y = rw (split x, split y) (simp lin (mk_eq _ _ _ _ (omega arith)))

  even_along : (start end : Key) (F : ℕ → Key) (n : ℕ) → sum_of (λ o. inc (F o)) (up_to n) ≡ inc start -ℤ inc end → sum_of (λ (e : SignedEnd). e.count) (ends_along inc start end (map F (up_to n))) ≡ pos 0
  even_along start end F n z =
      along_sum inc (λ (e : SignedEnd). e.count) (λ e. refl) start end (map F (up_to n)) ∙ ap (λ y. (inc end -ℤ inc start) +ℤ y) (sum_map inc F (up_to n) ∙ z) ∙ law (inc start) (inc end)

  module _ (adds : Adds inc a b) where
    even_eA : (e : Half) → sum_of (λ (e : SignedEnd). e.count) (ends_of_eA inc b e) ≡ pos 0
    unfolding ends_of_eA
    even_eA e = even_along (vA e.0) (vA e.1) (eAfB e) (facets b) (adds.eA e)

    even_eB : (e : Half) → sum_of (λ (e : SignedEnd). e.count) (ends_of_eB inc a e) ≡ pos 0
    unfolding ends_of_eB
    even_eB e = even_along (vB e.0) (vB e.1) (λ f. fAeB f e) (facets a) (adds.eB e)

    even_fAfB : (f g : ℕ) → sum_of (λ (e : SignedEnd). e.count) (ends_of_fAfB inc a b f g) ≡ pos 0
    even_fAfB f g =
        pair_sum inc (λ (e : SignedEnd). e.count) (λ e. refl) a b f g ∙ ap (λ y. around b (λ e. inc (fAeB f e)) g -ℤ y) (adds.fAfB f g) ∙ +ℤ_invr (around b (λ e. inc (fAeB f e)) g)

    module _ (passed_a : Passed a) (passed_b : Passed b) where
      pub composite_eA : (e : Half) → Memᴰ e (edges a) → Composite (gathered (num inc a b) (ends_of_eA inc b e))
      composite_eA e m = composite (ends_of_eA inc b e) (even_eA e) (eA_sound inc a b passed_a passed_b e m)

      pub composite_eB : (e : Half) → Memᴰ e (edges b) → Composite (gathered (num inc a b) (ends_of_eB inc a e))
      composite_eB e m = composite (ends_of_eB inc a e) (even_eB e) (eB_sound inc a b passed_a passed_b e m)

      pub composite_fAfB : (f g : ℕ) → f < facets a → g < facets b → Composite (gathered (num inc a b) (ends_of_fAfB inc a b f g))
      composite_fAfB f g i j = composite (ends_of_fAfB inc a b f g) (even_fAfB f g) (fAfB_sound inc a b passed_a passed_b f g i j)
