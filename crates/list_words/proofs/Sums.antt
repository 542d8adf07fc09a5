-- What holds of every element of a list, lists put together from lists, and sums over lists.
use mathlib.Core.Path.{◌≡◌, refl, sym, ap, ap₂, ◌∙◌, subst}
use mathlib.Core.List.Memᴰ
use mathlib.Core.List.{List, [], ◌∷◌, ◌++◌, map, flat_map, append_assoc, Memᴰ}
use mathlib.Core.Bool.{Bool, true, false, cond}
use Prim.Native.Nat.{ℕ, zero, suc, ◌*◌, ◌<◌}
use native.Mathlib.Nat.{zero-mul}
use native.Mathlib.Omega.{arith}
use lib.ListN.{length, get_or, take, drop}
use lib.IntN.{ℤ, pos, ◌+ℤ◌, ◌-ℤ◌, ◌*ℤ◌, neg_ℤ, neg_ℤ-+ℤ, +ℤ_idl, +ℤ_idr, +ℤ_assoc, *ℤ-zero}
use Rattle.list_words.specs.Lists.{sum_of, keep}
use Rattle.list_words.proofs.Integers.{regroup, mul_add, Bnd, bnd_add, bnd_zero}

-- ---- what holds of every element
abbrev pub All : {A : Type 0} → (A → Type 0) → List A → Type 0
All p [] = Unit {0}
All p (x ∷ l) = p x × All p l

module _ {A : Type 0} where
  pub all_at : (p : A → Type 0) {x : A} {l : List A} → Memᴰ x l → All p l → p x
  all_at p (Memᴰ.head e) a = subst p (sym e) a.0
  all_at p (Memᴰ.tail m) a = all_at p m a.1

  pub all_of : (p : A → Type 0) (l : List A) → ((x : A) → Memᴰ x l → p x) → All p l
  all_of p [] f = tt
  all_of p (x ∷ l) f = (f x (Memᴰ.head refl), all_of p l (λ y m. f y (Memᴰ.tail m)))

  pub all_mono : (p q : A → Type 0) (l : List A) → ((x : A) → p x → q x) → All p l → All q l
  all_mono p q l f a = all_of q l (λ x m. f x (all_at p m a))

  pub all-++ : (p : A → Type 0) (s t : List A) → All p s → All p t → All p (s ++ t)
  all-++ p [] t a b = b
  all-++ p (x ∷ s) t a b = (a.0, all-++ p s t a.1 b)

  pub all_of-++ : (p : A → Type 0) (s t : List A) → All p (s ++ t) → All p s × All p t
  all_of-++ p [] t a = (tt, a)
  all_of-++ p (x ∷ s) t a = let (b, c) = all_of-++ p s t a.1 in ((a.0, b), c)

  pub all_both : (p q : A → Type 0) (l : List A) → All p l → All q l → All (λ x. p x × q x) l
  all_both p q [] a b = tt
  all_both p q (x ∷ l) a b = ((a.0, b.0), all_both p q l a.1 b.1)

  -- within a list it does not matter what would stand beyond
  pub get_or_within : (l : List A) (i : ℕ) (d e : A) → i < length l → get_or l i d ≡ get_or l i e
  get_or_within [] i d e h = absurd (omega arith)
  get_or_within (x ∷ l) zero d e h = refl
  get_or_within (x ∷ l) (suc i) d e h = get_or_within l i d e (omega arith)

  pub all_take : (p : A → Type 0) (n : ℕ) (l : List A) → All p l → All p (take n l)
  all_take p zero l a = tt
  all_take p (suc n) [] a = tt
  all_take p (suc n) (x ∷ l) a = (a.0, all_take p n l a.1)

  pub all_drop : (p : A → Type 0) (n : ℕ) (l : List A) → All p l → All p (drop n l)
  all_drop p zero l a = a
  all_drop p (suc n) [] a = tt
  all_drop p (suc n) (x ∷ l) a = all_drop p n l a.1

module _ {A B : Type 0} where
  pub mem_flat_map : (f : A → List B) {x : A} {y : B} {l : List A} → Memᴰ x l → Memᴰ y (f x) → Memᴰ y (flat_map f l)
  unfolding flat_map
  mem_flat_map f (Memᴰ.head {xs = l} e) m = Memᴰ.append_left (flat_map f l) (rw (ap f e) at m)
  mem_flat_map f (Memᴰ.tail {x = z} i) m = Memᴰ.append_right (f z) (mem_flat_map f i m)

  pub all_map_of : (p : B → Type 0) (f : A → B) (l : List A) → All (λ x. p (f x)) l → All p (map f l)
  all_map_of p f [] a = tt
  all_map_of p f (x ∷ l) a = (a.0, all_map_of p f l a.1)

  pub all_of_map : (p : B → Type 0) (f : A → B) (l : List A) → All p (map f l) → All (λ x. p (f x)) l
  all_of_map p f [] a = tt
  all_of_map p f (x ∷ l) a = (a.0, all_of_map p f l a.1)

  pub all_flat_map : (p : B → Type 0) (f : A → List B) (l : List A) → All (λ x. All p (f x)) l → All p (flat_map f l)
  unfolding flat_map
  all_flat_map p f [] a = tt
  all_flat_map p f (x ∷ l) a = all-++ p (f x) (flat_map f l) a.0 (all_flat_map p f l a.1)

  pub all_of_flat_map : (p : B → Type 0) (f : A → List B) (l : List A) → All p (flat_map f l) → All (λ x. All p (f x)) l
  unfolding flat_map
  all_of_flat_map p f [] a = tt
  all_of_flat_map p f (x ∷ l) a = let (b, c) = all_of-++ p (f x) (flat_map f l) a in (b, all_of_flat_map p f l c)

-- ---- lists put together
module _ {A B : Type 0} where
  pub map_ext_all : (f g : A → B) (l : List A) → All (λ x. f x ≡ g x) l → map f l ≡ map g l
  map_ext_all f g [] h = refl
  map_ext_all f g (x ∷ l) h = ap₂ ◌∷◌ h.0 (map_ext_all f g l h.1)

  pub map_ext : (f g : A → B) (l : List A) → ((x : A) → f x ≡ g x) → map f l ≡ map g l
  map_ext f g l h = map_ext_all f g l (all_of (λ x. f x ≡ g x) l (λ x m. h x))

  pub flat_ext_all : (f g : A → List B) (l : List A) → All (λ x. f x ≡ g x) l → flat_map f l ≡ flat_map g l
  unfolding flat_map
  flat_ext_all f g [] h = refl
  flat_ext_all f g (x ∷ l) h = ap₂ ◌++◌ h.0 (flat_ext_all f g l h.1)

  pub flat_ext : (f g : A → List B) (l : List A) → ((x : A) → f x ≡ g x) → flat_map f l ≡ flat_map g l
  flat_ext f g l h = flat_ext_all f g l (all_of (λ x. f x ≡ g x) l (λ x m. h x))

  pub flat_append : (f : A → List B) (s t : List A) → flat_map f (s ++ t) ≡ flat_map f s ++ flat_map f t
  unfolding flat_map
  flat_append f [] t = refl
  flat_append f (x ∷ s) t = ap (λ r. f x ++ r) (flat_append f s t) ∙ sym (append_assoc (f x) (flat_map f s) (flat_map f t))

  pub flat_map_map : {C : Type 0} (f : B → List C) (g : A → B) (l : List A) → flat_map f (map g l) ≡ flat_map (λ x. f (g x)) l
  unfolding flat_map
  flat_map_map f g [] = refl
  flat_map_map f g (x ∷ l) = ap (λ r. f (g x) ++ r) (flat_map_map f g l)

-- ---- sums
module _ {A : Type 0} where
  pub sum_append : (f : A → ℤ) (s t : List A) → sum_of f (s ++ t) ≡ sum_of f s +ℤ sum_of f t
  unfolding sum_of
  sum_append f [] t = sym (+ℤ_idl (sum_of f t))
  sum_append f (x ∷ s) t = ap (λ z. f x +ℤ z) (sum_append f s t) ∙ sym (+ℤ_assoc (f x) (sum_of f s) (sum_of f t))

  pub sum_snoc : (f : A → ℤ) (l : List A) (x : A) → sum_of f (l ++ (x ∷ [])) ≡ sum_of f l +ℤ f x
  unfolding sum_of
  sum_snoc f l x = sum_append f l (x ∷ []) ∙ ap (λ z. sum_of f l +ℤ z) (+ℤ_idr (f x))

  pub sum_add : (f g : A → ℤ) (l : List A) → sum_of (λ x. f x +ℤ g x) l ≡ sum_of f l +ℤ sum_of g l
  unfolding sum_of
  sum_add f g [] = refl
  sum_add f g (x ∷ l) = ap (λ z. (f x +ℤ g x) +ℤ z) (sum_add f g l) ∙ regroup (f x) (g x) (sum_of f l) (sum_of g l)

  pub sum_neg : (f : A → ℤ) (l : List A) → sum_of (λ x. neg_ℤ (f x)) l ≡ neg_ℤ (sum_of f l)
  unfolding sum_of
  sum_neg f [] = refl
  sum_neg f (x ∷ l) = ap (λ z. neg_ℤ (f x) +ℤ z) (sum_neg f l) ∙ sym (neg_ℤ-+ℤ (f x) (sum_of f l))

  pub sum_sub : (f g : A → ℤ) (l : List A) → sum_of (λ x. f x -ℤ g x) l ≡ sum_of f l -ℤ sum_of g l
  sum_sub f g l = sum_add f (λ x. neg_ℤ (g x)) l ∙ ap (λ z. sum_of f l +ℤ z) (sum_neg g l)

  pub sum_mul : (c : ℤ) (f : A → ℤ) (l : List A) → sum_of (λ x. c *ℤ f x) l ≡ c *ℤ sum_of f l
  unfolding sum_of
  sum_mul c f [] = sym (*ℤ-zero c)
  sum_mul c f (x ∷ l) = ap (λ z. c *ℤ f x +ℤ z) (sum_mul c f l) ∙ sym (mul_add c (f x) (sum_of f l))

  pub sum_zero : (l : List A) → sum_of (λ (x : A). pos 0) l ≡ pos 0
  unfolding sum_of
  sum_zero [] = refl
  sum_zero (x ∷ l) = +ℤ_idl (sum_of (λ (x : A). pos 0) l) ∙ sum_zero l

  pub sum_ext_all : (f g : A → ℤ) (l : List A) → All (λ x. f x ≡ g x) l → sum_of f l ≡ sum_of g l
  unfolding sum_of
  sum_ext_all f g [] h = refl
  sum_ext_all f g (x ∷ l) h = ap₂ ◌+ℤ◌ h.0 (sum_ext_all f g l h.1)

  pub sum_ext : (f g : A → ℤ) (l : List A) → ((x : A) → f x ≡ g x) → sum_of f l ≡ sum_of g l
  sum_ext f g l h = sum_ext_all f g l (all_of (λ x. f x ≡ g x) l (λ x m. h x))

  -- what is left out adds nothing
  pub sum_keep : (p : A → Bool) (f : A → ℤ) (l : List A) → ((x : A) → p x ≡ false → f x ≡ pos 0) → sum_of f (keep p l) ≡ sum_of f l
  unfolding sum_of keep
  sum_keep p f [] h = refl
  sum_keep p f (x ∷ l) h = go (p x) refl (sum_keep p f l h)
    where
      go : (b : Bool) → p x ≡ b → sum_of f (keep p l) ≡ sum_of f l → sum_of f (cond b (x ∷ keep p l) (keep p l)) ≡ f x +ℤ sum_of f l
      go true e ih = ap (λ z. f x +ℤ z) ih
      go false e ih = ih ∙ sym (ap (λ z. z +ℤ sum_of f l) (h x e) ∙ +ℤ_idl (sum_of f l))

  pub bnd_sum : (n : ℕ) (f : A → ℤ) (l : List A) → All (λ x. Bnd n (f x)) l → Bnd (length l * n) (sum_of f l)
  unfolding sum_of
  bnd_sum n f [] h = subst (λ k. Bnd k (pos 0)) (sym (zero-mul n)) bnd_zero
  bnd_sum n f (x ∷ l) h = subst (λ k. Bnd k (f x +ℤ sum_of f l)) (omega arith) (bnd_add n (length l * n) (f x) (sum_of f l) h.0 (bnd_sum n f l h.1))

module _ {A B : Type 0} where
  pub sum_map : (f : B → ℤ) (g : A → B) (l : List A) → sum_of f (map g l) ≡ sum_of (λ x. f (g x)) l
  unfolding sum_of
  sum_map f g [] = refl
  sum_map f g (x ∷ l) = ap (λ z. f (g x) +ℤ z) (sum_map f g l)

  pub sum_flat_map : (f : B → ℤ) (g : A → List B) (l : List A) → sum_of f (flat_map g l) ≡ sum_of (λ x. sum_of f (g x)) l
  unfolding sum_of flat_map
  sum_flat_map f g [] = refl
  sum_flat_map f g (x ∷ l) = sum_append f (g x) (flat_map g l) ∙ ap (λ z. sum_of f (g x) +ℤ z) (sum_flat_map f g l)

  pub sum_swap : (f : A → B → ℤ) (l : List A) (m : List B) → sum_of (λ x. sum_of (λ y. f x y) m) l ≡ sum_of (λ y. sum_of (λ x. f x y) l) m
  unfolding sum_of
  sum_swap f [] m = sym (sum_zero m)
  sum_swap f (x ∷ l) m = ap (λ z. sum_of (λ y. f x y) m +ℤ z) (sum_swap f l m) ∙ sym (sum_add (λ y. f x y) (λ y. sum_of (λ x. f x y) l) m)
