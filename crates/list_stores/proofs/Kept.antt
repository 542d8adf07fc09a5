-- What is kept of two lists, and the least of a list with one number more.
use mathlib.Core.Path.{◌≡◌, refl, ap}
use mathlib.Core.Bool.{Bool, true, false, cond}
use mathlib.Core.List.{List, [], ◌∷◌, ◌++◌}
use Prim.Native.Nat.{ℕ, min}
use Rattle.list_words.specs.Lists.{keep, least}

pub keep_append : {A : Type 0} (p : A → Bool) (s t : List A) → keep p (s ++ t) ≡ keep p s ++ keep p t
unfolding keep
keep_append p [] t = refl
keep_append p (x ∷ s) t = go (p x) (keep_append p s t)
  where
    go : (b : Bool) → keep p (s ++ t) ≡ keep p s ++ keep p t → cond b (x ∷ keep p (s ++ t)) (keep p (s ++ t)) ≡ cond b (x ∷ keep p s) (keep p s) ++ keep p t
    go true e = ap {B = List _} (λ r. x ∷ r) e
    go false e = e

pub least_snoc : (m : ℕ) (l : List ℕ) (n : ℕ) → least m (l ++ (n ∷ [])) ≡ min (least m l) n
unfolding least
least_snoc m [] n = refl
least_snoc m (x ∷ l) n = least_snoc (min m x) l n
