-- Lists in which nothing stands twice, and the numbers below n.
use mathlib.Core.Path.{◌≡◌, refl, sym, ap, ◌∙◌}
use mathlib.Core.Logic.{◌≢◌}
use mathlib.Core.Bool.{Bool, true, false, cond}
use mathlib.Core.List.Memᴰ
use mathlib.Core.List.{List, [], ◌∷◌, ◌++◌, map, flat_map, append-nil, map-append, Memᴰ}
use Prim.Native.Nat.{ℕ, zero, suc, ◌<◌}
use native.Mathlib.Omega.{arith}
use native.Mathlib.Decide.{dec_lt}
use lib.ListN.{length, length-append}
use lib.IntN.{ℤ, ◌+ℤ◌}
use Rattle.list_words.specs.Lists.{up_to, sum_of, keep}
use Rattle.list_words.proofs.Sums.{All, all_at, all_of, all_mono, all-++, all_map_of, all_flat_map, map_ext_all, flat_ext_all, flat_append, sum_ext_all, sum_snoc}
use Rattle.list_words.proofs.Tests.{all_keep}

-- ---- nothing stands twice
module _ {A : Type 0} where
  abbrev pub Distinct : List A → Type 0
  Distinct [] = Unit {0}
  Distinct (x ∷ l) = All (λ y. x ≢ y) l × Distinct l

  -- two lists with no element in common
  abbrev pub Apart : List A → List A → Type 0
  Apart s t = All (λ x. All (λ y. x ≢ y) t) s

  pub distinct-++ : (s t : List A) → Distinct s → Distinct t → Apart s t → Distinct (s ++ t)
  distinct-++ [] t a b c = b
  distinct-++ (x ∷ s) t a b c = (all-++ (λ y. x ≢ y) s t a.0 c.0, distinct-++ s t a.1 b c.1)

  pub distinct_keep : (p : A → Bool) (l : List A) → Distinct l → Distinct (keep p l)
  unfolding keep
  distinct_keep p [] d = tt
  distinct_keep p (x ∷ l) d = go (p x) (distinct_keep p l d.1)
    where
      go : (b : Bool) → Distinct (keep p l) → Distinct (cond b (x ∷ keep p l) (keep p l))
      go true r = (all_mono (λ y. (p y ≡ true) × (x ≢ y)) (λ y. x ≢ y) (keep p l) (λ y q. q.1) (all_keep p (λ y. x ≢ y) l d.0), r)
      go false r = r

module _ {A B : Type 0} where
  pub distinct_map : (f : A → B) → ((x y : A) → f x ≡ f y → x ≡ y) → (l : List A) → Distinct l → Distinct (map f l)
  distinct_map f inj [] d = tt
  distinct_map f inj (x ∷ l) d = (all_map_of (λ z. f x ≢ z) f l (all_mono (λ y. x ≢ y) (λ y. f x ≢ f y) l (λ y n e. n (inj x y e)) d.0), distinct_map f inj l d.1)

  pub distinct_blocks : (f : A → List B) (l : List A) → ((x : A) → Distinct (f x)) → ((x y : A) → x ≢ y → Apart (f x) (f y)) → Distinct l → Distinct (flat_map f l)
  unfolding flat_map
  distinct_blocks f [] one two d = tt
  distinct_blocks f (x ∷ l) one two d =
      distinct-++ (f x) (flat_map f l) (one x) (distinct_blocks f l one two d.1) (all_of (λ u. All (λ v. u ≢ v) (flat_map f l)) (f x) (λ u m. all_flat_map (λ v. u ≢ v) f l (away u m)))
    where
      away : (u : B) → Memᴰ u (f x) → All (λ y. All (λ v. u ≢ v) (f y)) l
      away u m = all_mono (λ y. x ≢ y) (λ y. All (λ v. u ≢ v) (f y)) l (λ y n. all_at (λ u. All (λ v. u ≢ v) (f y)) m (two x y n)) d.0

  pub apart_maps : {C : Type 0} (f : A → C) (g : B → C) (l : List A) (m : List B) → ((x : A) (y : B) → f x ≢ g y) → Apart (map f l) (map g m)
  apart_maps f g l m h =
      all_map_of (λ u. All (λ v. u ≢ v) (map g m)) f l (all_of (λ x. All (λ v. f x ≢ v) (map g m)) l (λ x i. all_map_of (λ v. f x ≢ v) g m (all_of (λ y. f x ≢ g y) m (λ y j. h x y))))

-- ---- the numbers below n
pub length_up_to : (n : ℕ) → length (up_to n) ≡ n
unfolding up_to
length_up_to zero = refl
length_up_to (suc n) = omega (arith, length-append (up_to n) (n ∷ []), length_up_to n)

pub all_up_to : (p : ℕ → Type 0) (n : ℕ) → ((i : ℕ) → i < n → p i) → All p (up_to n)
unfolding up_to
all_up_to p zero f = tt
all_up_to p (suc n) f = all-++ p (up_to n) (n ∷ []) (all_up_to p n (λ i h. f i (omega arith))) (f n (omega arith), tt)

pub lt_up_to : {i : ℕ} (n : ℕ) → Memᴰ i (up_to n) → i < n
lt_up_to n m = all_at (λ i. i < n) m (all_up_to (λ i. i < n) n (λ i h. h))

pub mem_up_to : (n i : ℕ) → i < n → Memᴰ i (up_to n)
unfolding up_to
mem_up_to zero i h = absurd (omega arith)
mem_up_to (suc n) i h = elim (dec_lt i n) [
  | yes l ↦ Memᴰ.append_left (n ∷ []) (mem_up_to n i l)
  | no k ↦ Memᴰ.append_right (up_to n) (Memᴰ.head (omega arith))
]

pub distinct_up_to : (n : ℕ) → Distinct (up_to n)
unfolding up_to
distinct_up_to zero = tt
distinct_up_to (suc n) = distinct-++ (up_to n) (n ∷ []) (distinct_up_to n) (tt, tt) (all_up_to (λ i. All (λ y. i ≢ y) (n ∷ [])) n (λ i h. ((λ e. omega arith), tt)))

-- the last taken out
module _ {A : Type 0} where
  pub map_up_to_suc : (f : ℕ → A) (n : ℕ) → map f (up_to (suc n)) ≡ map f (up_to n) ++ (f n ∷ [])
  unfolding up_to
  map_up_to_suc f n = map-append f (up_to n) (n ∷ [])

  pub flat_up_to_suc : (f : ℕ → List A) (n : ℕ) → flat_map f (up_to (suc n)) ≡ flat_map f (up_to n) ++ f n
  unfolding up_to flat_map
  flat_up_to_suc f n = flat_append f (up_to n) (n ∷ []) ∙ ap (λ r. flat_map f (up_to n) ++ r) (append-nil (f n))

pub sum_up_to_suc : (f : ℕ → ℤ) (n : ℕ) → sum_of f (up_to (suc n)) ≡ sum_of f (up_to n) +ℤ f n
unfolding up_to
sum_up_to_suc f n = sum_snoc f (up_to n) n

-- the first taken out
pub up_to_first : (n : ℕ) → up_to (suc n) ≡ 0 ∷ map suc (up_to n)
unfolding up_to
up_to_first zero = refl
up_to_first (suc n) = ap (λ r. r ++ (suc n ∷ [])) (up_to_first n) ∙ ap (λ r. 0 ∷ r) (sym (map-append suc (up_to n) (n ∷ [])))

-- equal below n
module _ {A : Type 0} where
  pub map_up_to : (n : ℕ) (f g : ℕ → A) → ((i : ℕ) → i < n → f i ≡ g i) → map f (up_to n) ≡ map g (up_to n)
  map_up_to n f g h = map_ext_all f g (up_to n) (all_up_to (λ i. f i ≡ g i) n h)

  pub flat_up_to : (n : ℕ) (f g : ℕ → List A) → ((i : ℕ) → i < n → f i ≡ g i) → flat_map f (up_to n) ≡ flat_map g (up_to n)
  flat_up_to n f g h = flat_ext_all f g (up_to n) (all_up_to (λ i. f i ≡ g i) n h)

pub sum_up_to : (n : ℕ) (f g : ℕ → ℤ) → ((i : ℕ) → i < n → f i ≡ g i) → sum_of f (up_to n) ≡ sum_of g (up_to n)
sum_up_to n f g h = sum_ext_all f g (up_to n) (all_up_to (λ i. f i ≡ g i) n h)
