-- Lists of the same numbers in any order: they have the same least number, and the same holds of all their elements.
use mathlib.Core.Path.{◌≡◌, refl, sym, ◌∙◌}
use mathlib.Core.Logic.{◌≢◌, inl, inr}
use mathlib.Core.Bool.{Bool, true, false}
use mathlib.Core.List.{List, [], ◌∷◌, ◌++◌, flat_map, Memᴰ}
use Prim.Native.Nat.{ℕ, ◌+◌, ◌<◌, ◌≤◌}
use native.Mathlib.Nat.{le_antisymm}
use native.Mathlib.Omega.{arith}
use borrow.Author.Tests.{eqb-true, eq-eqb}
use lib.Dec.{eqb}
use lib.ListN.{length-append}
use Rattle.list_words.specs.Lists.{times, one_if}
use Rattle.list_words.proofs.Sums.{All, all_at, all_of}
use Rattle.list_words.proofs.UpTo.{Apart}
use Rattle.list_words.proofs.Fans.{least_le, least_all, least_there}
use Rattle.fan_counts.specs.Words.{Shuffled, least_of}

pub times_append : (v : ℕ) (s t : List ℕ) → times eqb v (s ++ t) ≡ times eqb v s + times eqb v t
unfolding times
times_append v [] t = omega arith
times_append v (x ∷ s) t = omega (arith, times_append v s t)

-- ---- what stands in a list is counted there
pub mem_times : {v : ℕ} {l : List ℕ} → Memᴰ v l → 0 < times eqb v l
unfolding times
mem_times {v} (Memᴰ.head {x = x} e) = rw (eq-eqb v x e) (omega arith)
mem_times (Memᴰ.tail m) = omega (arith, mem_times m)

pub times_mem : (v : ℕ) (l : List ℕ) → 0 < times eqb v l → Memᴰ v l
unfolding times
times_mem v [] h = absurd (omega arith)
times_mem v (x ∷ l) h = go (eqb v x) refl h (times_mem v l)
  where
    go : (b : Bool) → eqb v x ≡ b → 0 < one_if b + times eqb v l → (0 < times eqb v l → Memᴰ v l) → Memᴰ v (x ∷ l)
    go true e k ih = Memᴰ.head (eqb-true v x e)
    go false e k ih = Memᴰ.tail (ih (omega arith))

-- ---- shuffled
pub shuffled_self : (s : List ℕ) → Shuffled s s
shuffled_self s = record { long = refl; each = λ v. refl }

pub shuffled_back : {s t : List ℕ} → Shuffled s t → Shuffled t s
shuffled_back h = record { long = sym h.long; each = λ v. sym (h.each v) }

pub shuffled_then : {s t u : List ℕ} → Shuffled s t → Shuffled t u → Shuffled s u
shuffled_then h k = record { long = h.long ∙ k.long; each = λ v. h.each v ∙ k.each v }

pub shuffled_append : {s s' t t' : List ℕ} → Shuffled s s' → Shuffled t t' → Shuffled (s ++ t) (s' ++ t')
shuffled_append {s} {s'} {t} {t'} h k =
    record {
      long = simp length-append (omega (arith, h.long, k.long));
      each = λ v. simp times_append (omega (arith, h.each v, k.each v));
    }

pub shuffled_flat : {A : Type 0} (f g : A → List ℕ) (l : List A) → All (λ x. Shuffled (f x) (g x)) l → Shuffled (flat_map f l) (flat_map g l)
unfolding flat_map
shuffled_flat f g [] h = shuffled_self []
shuffled_flat f g (x ∷ l) h = shuffled_append h.0 (shuffled_flat f g l h.1)

pub mem_shuffled : {s t : List ℕ} {v : ℕ} → Shuffled s t → Memᴰ v s → Memᴰ v t
mem_shuffled {s} {t} {v} h m = times_mem v t (omega (arith, mem_times m, h.each v))

pub all_shuffled : (p : ℕ → Type 0) {s t : List ℕ} → Shuffled s t → All p t → All p s
all_shuffled p {s} {t} h a = all_of p s (λ v m. all_at p (mem_shuffled h m) a)

pub apart_shuffled : {s s' t t' : List ℕ} → Shuffled s s' → Shuffled t t' → Apart s' t' → Apart s t
apart_shuffled {s} {s'} {t} {t'} h k a =
    all_shuffled (λ x. All (λ y. x ≢ y) t) h (all_of _ s' (λ x m. all_shuffled (λ y. x ≢ y) k (all_at (λ x. All (λ y. x ≢ y) t') m a)))

-- ---- the least
pub least_in : (x : ℕ) (l : List ℕ) → Memᴰ (least_of (x ∷ l)) (x ∷ l)
unfolding least_of
least_in x l = elim (least_there x l) [ inl e ↦ Memᴰ.head e | inr m ↦ Memᴰ.tail m ]

pub least_below : (l : List ℕ) → All (λ v. least_of l ≤ v) l
unfolding least_of
least_below [] = tt
least_below (x ∷ l) = (least_le x l, least_all x l)

pub least_shuffled : {s t : List ℕ} → Shuffled s t → least_of s ≡ least_of t
least_shuffled {s} {t} h = go s t h
  where
    le : (x : ℕ) (s t : List ℕ) → Shuffled (x ∷ s) t → least_of t ≤ least_of (x ∷ s)
    le x s t h = all_at (λ v. least_of t ≤ v) (mem_shuffled h (least_in x s)) (least_below t)

    go : (s t : List ℕ) → Shuffled s t → least_of s ≡ least_of t
    go [] [] h = refl
    go [] (y ∷ t) h = absurd (omega (arith, h.long))
    go (x ∷ s) [] h = absurd (omega (arith, h.long))
    go (x ∷ s) (y ∷ t) h = le_antisymm (le y t (x ∷ s) (shuffled_back h)) (le x s (y ∷ t) h)
