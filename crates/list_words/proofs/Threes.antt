-- Lists made of threes, as a list of corners is, three to a facet: the places 3 * i, 3 * i + 1, 3 * i + 2 hold the i-th three,
-- so that what runs over the numbers of the threes runs over the threes themselves.
use mathlib.Core.Path.{◌≡◌, refl, sym, ap, ◌∙◌, subst}
use mathlib.Core.Bool.{Bool}
use mathlib.Core.List.{List, [], ◌∷◌, ◌++◌, map, flat_map, map-map}
use Prim.Native.Nat.{ℕ, zero, suc, ◌+◌, ◌*◌, ◌/◌, ◌%◌, ◌<◌}
use native.Mathlib.Omega.{arith}
use lib.ListN.{length, get_or}
use lib.IntN.{ℤ}
use Rattle.list_words.specs.Lists.{up_to, sum_of, every, any}
use Rattle.list_words.proofs.Searches.{any_flat_map}
use Rattle.list_words.proofs.Sums.{All, all_map_of, all_of_map, map_ext, flat_map_map, sum_map}
use Rattle.list_words.proofs.Tests.{every_map}
use Rattle.list_words.proofs.UpTo.{up_to_first}

abbrev of_three {ℓ} : {A : Type 0} {C : Type ℓ} → (A → A → A → C) → A × A × A → C
of_three F t = F t.0 t.1 t.2

module _ {A B : Type 0} (f g h : B → A) where
  abbrev pub threes : List B → List A
  threes ts = flat_map (λ t. f t ∷ g t ∷ h t ∷ []) ts

  pub length_threes : (ts : List B) → length (threes ts) ≡ 3 * length ts
  unfolding flat_map
  length_threes [] = refl
  length_threes (t ∷ ts) = omega (arith, length_threes ts)

  pub third_threes : (ts : List B) → length (threes ts) / 3 ≡ length ts
  third_threes ts = omega (arith, length_threes ts)

  pub rest_threes : (ts : List B) → length (threes ts) % 3 ≡ 0
  rest_threes ts = omega (arith, length_threes ts)

  -- every list of whole threes is one; `make` puts three together, and f, g, h take it apart
  pub in_threes : (make : A → A → A → B) → ((a b c : A) → threes (make a b c ∷ []) ≡ a ∷ b ∷ c ∷ [])
      → (l : List A) → length l % 3 ≡ 0 → (ts : List B) × (l ≡ threes ts)
  unfolding flat_map
  in_threes make apart [] e = ([], refl)
  in_threes make apart (a ∷ []) e = absurd (omega arith)
  in_threes make apart (a ∷ b ∷ []) e = absurd (omega arith)
  in_threes make apart (a ∷ b ∷ c ∷ l) e =
      let (ts, r) = in_threes make apart l (omega arith) in
      (make a b c ∷ ts, ap (λ k. a ∷ b ∷ c ∷ k) r ∙ ap (λ k. k ++ threes ts) (sym (apart a b c)))

  next : (t : B) (ts : List B) (d : A) (i k : ℕ) → get_or (threes (t ∷ ts)) (3 * suc i + k) d ≡ get_or (threes ts) (3 * i + k) d
  unfolding flat_map
  next t ts d i k = ap (λ n. get_or (threes (t ∷ ts)) n d) step
    where
      step : 3 * suc i + k ≡ suc (suc (suc (3 * i + k)))
      step = omega arith

  -- the right side is f, g or h of the i-th three, for 0, 1, 2
  pub get_or_threes : (ts : List B) (t : B) (d : A) (i k : ℕ) → i < length ts → k < 3
      → get_or (threes ts) (3 * i + k) d ≡ get_or (f (get_or ts i t) ∷ g (get_or ts i t) ∷ h (get_or ts i t) ∷ []) k d
  unfolding flat_map
  get_or_threes [] t d i k p q = absurd (omega arith)
  get_or_threes (u ∷ ts) t d zero zero p q = refl
  get_or_threes (u ∷ ts) t d zero (suc zero) p q = refl
  get_or_threes (u ∷ ts) t d zero (suc (suc zero)) p q = refl
  get_or_threes (u ∷ ts) t d zero (suc (suc (suc k))) p q = absurd (omega arith)
  get_or_threes (u ∷ ts) t d (suc i) k p q = next u ts d i k ∙ get_or_threes ts t d i k (omega arith) q

  abbrev three : B → A × A × A
  three t = (f t, g t, h t)

  -- the i-th three, the place of its first given by `first`
  abbrev three_at : List B → A → (ℕ → ℕ) → ℕ → A × A × A
  three_at ts d first i = (get_or (threes ts) (first i) d, get_or (threes ts) (3 * i + 1) d, get_or (threes ts) (3 * i + 2) d)

  in_turn : (ts : List B) (d : A) → map (three_at ts d (λ i. 3 * i + 0)) (up_to (length ts)) ≡ map three ts
  unfolding flat_map up_to
  in_turn [] d = refl
  in_turn (t ∷ ts) d =
      ap (map at) (up_to_first (length ts))
      ∙ ap (λ r. three t ∷ r) (map-map at suc (up_to (length ts)) ∙ map_ext (λ i. at (suc i)) at' (up_to (length ts)) move ∙ in_turn ts d)
    where
      at : ℕ → A × A × A
      at = three_at (t ∷ ts) d (λ i. 3 * i + 0)

      at' : ℕ → A × A × A
      at' = three_at ts d (λ i. 3 * i + 0)

      move : (i : ℕ) → at (suc i) ≡ at' i
      move i = λ j. (next t ts d i 0 j, next t ts d i 1 j, next t ts d i 2 j)

  -- `first` may be λ i. 3 * i, with λ i. refl, or λ i. 3 * i + 0, with λ i. add-zero (3 * i)
  module _ (ts : List B) (d : A) (first : ℕ → ℕ) (right : (i : ℕ) → first i ≡ 3 * i) where
    abbrev at : ℕ → A × A × A
    at = three_at ts d first

    abbrev numbers : List ℕ
    numbers = up_to (length (threes ts) / 3)

    all_in_turn : map at numbers ≡ map three ts
    all_in_turn =
        ap (λ n. map at (up_to n)) (third_threes ts)
        ∙ map_ext at (three_at ts d (λ i. 3 * i + 0)) (up_to (length ts)) place ∙ in_turn ts d
      where
        place : (i : ℕ) → at i ≡ three_at ts d (λ i. 3 * i + 0) i
        place i = ap (λ n. three_at ts d (λ i. n) i) (right i ∙ omega arith)

    pub flat_threes : {C : Type 0} (F : A → A → A → List C)
        → flat_map (λ i. F (get_or (threes ts) (first i) d) (get_or (threes ts) (3 * i + 1) d) (get_or (threes ts) (3 * i + 2) d)) (up_to (length (threes ts) / 3))
        ≡ flat_map (λ t. F (f t) (g t) (h t)) ts
    flat_threes F = sym (flat_map_map (of_three F) at numbers) ∙ ap (flat_map (of_three F)) all_in_turn ∙ flat_map_map (of_three F) three ts

    pub sum_threes : (F : A → A → A → ℤ)
        → sum_of (λ i. F (get_or (threes ts) (first i) d) (get_or (threes ts) (3 * i + 1) d) (get_or (threes ts) (3 * i + 2) d)) (up_to (length (threes ts) / 3))
        ≡ sum_of (λ t. F (f t) (g t) (h t)) ts
    sum_threes F = sym (sum_map (of_three F) at numbers) ∙ ap (sum_of (of_three F)) all_in_turn ∙ sum_map (of_three F) three ts

    pub every_threes : (F : A → A → A → Bool)
        → every (λ i. F (get_or (threes ts) (first i) d) (get_or (threes ts) (3 * i + 1) d) (get_or (threes ts) (3 * i + 2) d)) (up_to (length (threes ts) / 3))
        ≡ every (λ t. F (f t) (g t) (h t)) ts
    every_threes F = sym (every_map (of_three F) at numbers) ∙ ap (every (of_three F)) all_in_turn ∙ every_map (of_three F) three ts

    pub all_threes : (P : A → A → A → Type 0) → All (λ t. P (f t) (g t) (h t)) ts
        → All (λ i. P (get_or (threes ts) (first i) d) (get_or (threes ts) (3 * i + 1) d) (get_or (threes ts) (3 * i + 2) d)) (up_to (length (threes ts) / 3))
    all_threes P a = all_of_map (of_three P) at numbers (subst (All (of_three P)) (sym all_in_turn) (all_map_of (of_three P) three ts a))

    pub threes_all : (P : A → A → A → Type 0)
        → All (λ i. P (get_or (threes ts) (first i) d) (get_or (threes ts) (3 * i + 1) d) (get_or (threes ts) (3 * i + 2) d)) (up_to (length (threes ts) / 3))
        → All (λ t. P (f t) (g t) (h t)) ts
    threes_all P a = all_of_map (of_three P) three ts (subst (All (of_three P)) all_in_turn (all_map_of (of_three P) at numbers a))

-- a test over a list of whole threes, three by three
pub any_threes : {A : Type 0} (p : A → Bool) (l : List A) (d : A) → length l % 3 ≡ 0
    → any p l ≡ any (λ i. any p (get_or l (3 * i + 0) d ∷ get_or l (3 * i + 1) d ∷ get_or l (3 * i + 2) d ∷ [])) (up_to (length l / 3))
unfolding flat_map
any_threes {A} p l d e = ap (any p) (sym whole) ∙ any_flat_map p (at l) (up_to (length l / 3))
  where
    at : List A → ℕ → List A
    at k i = get_or k (3 * i + 0) d ∷ get_or k (3 * i + 1) d ∷ get_or k (3 * i + 2) d ∷ []

    whole : flat_map (at l) (up_to (length l / 3)) ≡ l
    whole =
        let (ts, r) = in_threes (λ (t : A × A × A). t.0) (λ t. t.1) (λ t. t.2) (λ a b c. (a, b, c)) (λ a b c. refl) l e in
        ap (λ k. flat_map (at k) (up_to (length k / 3))) r
        ∙ flat_threes (λ (t : A × A × A). t.0) (λ t. t.1) (λ t. t.2) ts d (λ i. 3 * i + 0) (λ i. omega arith) (λ a b c. a ∷ b ∷ c ∷ []) ∙ sym r
