-- Searches: what finds one that passes a test in a list, in lists put together and among the numbers below n.
use mathlib.Core.Path.{◌≡◌, refl, ap, ◌∙◌}
use mathlib.Core.Bool.{Bool, true, false, ◌||◌}
use mathlib.Core.List.{List, [], ◌∷◌, ◌++◌, flat_map}
use Prim.Native.Nat.{ℕ, zero, suc, ◌<◌}
use native.Mathlib.Omega.{arith}
use lib.ListN.{length, get_or}
use Rattle.list_words.specs.Lists.{any, up_to}
use Rattle.list_words.proofs.Tests.{true_any}
use Rattle.list_words.proofs.UpTo.{mem_up_to}

module _ {A : Type 0} (p : A → Bool) where
  pub any_append : (s t : List A) → any p (s ++ t) ≡ any p s || any p t
  unfolding any
  any_append [] t = refl
  any_append (x ∷ s) t = rw (any_append s t) (regroup (p x) (any p s) (any p t))
    where
      regroup : (a b c : Bool) → a || (b || c) ≡ (a || b) || c
      regroup true b c = refl
      regroup false b c = refl

  pub any_found : (l : List A) (i : ℕ) (d : A) → i < length l → p (get_or l i d) ≡ true → any p l ≡ true
  unfolding any
  any_found [] i d h e = absurd (omega arith)
  any_found (x ∷ l) zero d h e = rw e
  any_found (x ∷ l) (suc i) d h e = go (p x) (any_found l i d (omega arith) e)
    where
      go : (b : Bool) → any p l ≡ true → b || any p l ≡ true
      go true r = refl
      go false r = r

-- through lists put together from lists
pub any_flat_map : {A B : Type 0} (p : B → Bool) (g : A → List B) (l : List A) → any p (flat_map g l) ≡ any (λ x. any p (g x)) l
unfolding any flat_map
any_flat_map p g [] = refl
any_flat_map p g (x ∷ l) = any_append p (g x) (flat_map g l) ∙ ap (λ b. any p (g x) || b) (any_flat_map p g l)

-- among the numbers below n
pub any_up_to_found : (p : ℕ → Bool) (n i : ℕ) → i < n → p i ≡ true → any p (up_to n) ≡ true
any_up_to_found p n i h e = true_any p (mem_up_to n i h) e
