-- What the outcome of a test says: of `&&`, `||`, `not`, of tests over a list, of what is kept of a list.
use mathlib.Core.Path.{◌≡◌, refl, sym, ap, ◌∙◌, subst}
use mathlib.Core.Logic.{◌⊎◌, inl, inr}
use mathlib.Core.Bool.{Bool, true, false, not, ◌&&◌, ◌||◌, cond, true≢false}
use mathlib.Core.List.{List, [], ◌∷◌, map, Memᴰ}
use Prim.Native.Nat.{ℕ, suc}
use native.Mathlib.Omega.{arith}
use lib.Dec.{T}
use Rattle.list_words.specs.Lists.{every, any, keep}
use Rattle.list_words.proofs.Sums.{All, all_at}

pub T_of : (b : Bool) → b ≡ true → T b
T_of b e = subst T (sym e) tt

pub of_T : (b : Bool) → T b → b ≡ true
of_T true t = refl
of_T false t = elim t [ ]

pub never : (b : Bool) → b ≡ true → b ≡ false → ⊥
never b e d = true≢false (sym e ∙ d)

pub not_true : (b : Bool) → not b ≡ true → b ≡ false
not_true true h = sym h
not_true false h = refl

pub not_false : (b : Bool) → not b ≡ false → b ≡ true
not_false true h = refl
not_false false h = absurd (true≢false h)

pub and_true : (a b : Bool) → a && b ≡ true → (a ≡ true) × (b ≡ true)
and_true true b h = (refl, h)
and_true false b h = absurd (true≢false (sym h))

pub true_and : (a b : Bool) → a ≡ true → b ≡ true → a && b ≡ true
true_and a b h k = cc

pub or_true : (a b : Bool) → a || b ≡ true → (a ≡ true) ⊎ (b ≡ true)
or_true true b h = inl refl
or_true false b h = inr h

pub or-false : (a b : Bool) → a || b ≡ false → (a ≡ false) × (b ≡ false)
or-false true b h = absurd (true≢false h)
or-false false b h = (refl, h)

module _ {A : Type 0} where
  pub cond_true : (b : Bool) (x y : A) → b ≡ true → cond b x y ≡ x
  cond_true b x y e = ap (λ c. cond c x y) e

  pub cond_false : (b : Bool) (x y : A) → b ≡ false → cond b x y ≡ y
  cond_false b x y e = ap (λ c. cond c x y) e

-- where no refusal is given: this check gives none, and those after it give none
pub passed : (n : ℕ) (b : Bool) (r : ℕ) → cond b (suc n) r ≡ 0 → (b ≡ false) × (r ≡ 0)
passed n true r h = absurd (omega arith)
passed n false r h = (refl, h)

-- ---- over a list
module _ {A : Type 0} (p : A → Bool) where
  pub every_true : (l : List A) → every p l ≡ true → All (λ x. p x ≡ true) l
  unfolding every
  every_true [] h = tt
  every_true (x ∷ l) h = let r = and_true (p x) (every p l) h in (r.0, every_true l r.1)

  pub true_every : (l : List A) → All (λ x. p x ≡ true) l → every p l ≡ true
  unfolding every
  true_every [] a = refl
  true_every (x ∷ l) a = true_and (p x) (every p l) a.0 (true_every l a.1)

  pub every_map : {B : Type 0} (f : B → A) (l : List B) → every p (map f l) ≡ every (λ x. p (f x)) l
  unfolding every
  every_map f [] = refl
  every_map f (x ∷ l) = ap (λ b. p (f x) && b) (every_map f l)

  pub any_false : (l : List A) → any p l ≡ false → All (λ x. p x ≡ false) l
  unfolding any
  any_false [] h = tt
  any_false (x ∷ l) h = let r = or-false (p x) (any p l) h in (r.0, any_false l r.1)

  pub false_any : (l : List A) → All (λ x. p x ≡ false) l → any p l ≡ false
  unfolding any
  false_any [] a = refl
  false_any (x ∷ l) a = rw a.0 (false_any l a.1)

  pub any_true : (l : List A) → any p l ≡ true → (x : A) × Memᴰ x l × (p x ≡ true)
  unfolding any
  any_true [] h = absurd (true≢false (sym h))
  any_true (x ∷ l) h = go (or_true (p x) (any p l) h) (any_true l)
    where
      go : (p x ≡ true) ⊎ (any p l ≡ true) → (any p l ≡ true → (y : A) × Memᴰ y l × (p y ≡ true)) → (y : A) × Memᴰ y (x ∷ l) × (p y ≡ true)
      go (inl e) ih = (x, Memᴰ.head refl, e)
      go (inr e) ih = let (y, m, q) = ih e in (y, Memᴰ.tail m, q)

  pub true_any : {x : A} {l : List A} → Memᴰ x l → p x ≡ true → any p l ≡ true
  true_any {x} {l} m e = go (any p l) refl
    where
      go : (b : Bool) → any p l ≡ b → b ≡ true
      go true h = refl
      go false h = absurd (never (p x) e (all_at (λ y. p y ≡ false) m (any_false l h)))

  -- what is kept passes, and what passes is kept
  pub all_keep : (q : A → Type 0) (l : List A) → All q l → All (λ x. (p x ≡ true) × q x) (keep p l)
  unfolding keep
  all_keep q [] a = tt
  all_keep q (x ∷ l) a = go (p x) refl (all_keep q l a.1)
    where
      go : (b : Bool) → p x ≡ b → All (λ x. (p x ≡ true) × q x) (keep p l) → All (λ x. (p x ≡ true) × q x) (cond b (x ∷ keep p l) (keep p l))
      go true e r = ((e, a.0), r)
      go false e r = r

  pub mem_keep : {x : A} {l : List A} → Memᴰ x l → p x ≡ true → Memᴰ x (keep p l)
  unfolding keep
  mem_keep {x} (Memᴰ.head {x = y} {xs = l} e) t =
      let k : keep p (y ∷ l) ≡ y ∷ keep p l = cond_true (p y) (y ∷ keep p l) (keep p l) (ap p (sym e) ∙ t) in
      subst (Memᴰ x) (sym k) (Memᴰ.head e)
  mem_keep {x = w} (Memᴰ.tail {x = y} {xs = l} m) t = go (p y) (mem_keep m t)
    where
      go : (b : Bool) → Memᴰ w (keep p l) → Memᴰ w (cond b (y ∷ keep p l) (keep p l))
      go true i = Memᴰ.tail i
      go false i = i
