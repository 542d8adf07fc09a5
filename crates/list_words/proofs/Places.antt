-- Places in lists: of a mapped list, of the numbers below n, of blocks of one length, of an element in a list in which nothing stands twice.
use mathlib.Core.Path.{◌≡◌, refl, sym, ap, ◌∙◌, subst}
use mathlib.Core.Logic.{◌≢◌, ◌⊎◌, inl, inr}
use mathlib.Core.Bool.{Bool, true, false, cond}
use mathlib.Core.List.Memᴰ
use mathlib.Core.List.{List, [], ◌∷◌, ◌++◌, map, flat_map, map-map, append_assoc, append-nil, Memᴰ}
use Prim.Native.Nat.{ℕ, zero, suc, ◌+◌, ◌*◌, ◌-◌, ◌<◌}
use native.Mathlib.Nat.{add-zero, add-suc}
use native.Mathlib.Omega.{arith}
use native.Mathlib.Decide.{dec_lt}
use lib.Dec.{T}
use lib.ListN.{length, get_or, take, drop, length-append, length-drop, length-map, get_or-append, get_or-map}
use lib.Seq.{get_or-append-add, get_or_at, take_all}
use Rattle.list_words.specs.Lists.{up_to, keep, before}
use Rattle.list_words.proofs.Sums.{All, all_at, get_or_within}
use Rattle.list_words.proofs.Tests.{T_of}
use Rattle.list_words.proofs.UpTo.{Distinct, length_up_to, up_to_first, flat_up_to_suc}

-- ---- an element by its place
module _ {A : Type 0} where
  pub mem_get_or : (l : List A) (i : ℕ) (d : A) → i < length l → Memᴰ (get_or l i d) l
  mem_get_or [] i d h = absurd (omega arith)
  mem_get_or (x ∷ l) zero d h = Memᴰ.head refl
  mem_get_or (x ∷ l) (suc i) d h = Memᴰ.tail (mem_get_or l i d (omega arith))

  pub all_get_d : (p : A → Type 0) (l : List A) (i : ℕ) (d : A) → All p l → i < length l → p (get_or l i d)
  all_get_d p l i d a h = all_at p (mem_get_or l i d h) a

  -- behind n elements
  pub get_or_behind : (s t : List A) (n i : ℕ) (d : A) → length s ≡ n → get_or (s ++ t) (n + i) d ≡ get_or t i d
  get_or_behind s t n i d e = rw (← e) (get_or-append-add s t i d)

module _ {A B : Type 0} where
  -- what stands at a place of a mapped list
  pub at_map : (f : A → B) (l : List A) (i : ℕ) (d : B) (x : A) → i < length l → get_or (map f l) i d ≡ f (get_or l i x)
  at_map f l i d x h = get_or_within (map f l) i d (f x) (rw (length-map l f) h) ∙ get_or-map f l i x

  -- a list by its places
  pub by_places : (f : A → B) (l : List A) (d : A) → map (λ i. f (get_or l i d)) (up_to (length l)) ≡ map f l
  unfolding up_to
  by_places f [] d = refl
  by_places f (x ∷ l) d =
      let at : ℕ → B = λ i. f (get_or (x ∷ l) i d) in
      ap (map at) (up_to_first (length l)) ∙ ap (λ r. f x ∷ r) (map-map at suc (up_to (length l)) ∙ by_places f l d)

  -- ---- blocks of n
  module _ (f : A → List B) (n : ℕ) (even : (x : A) → length (f x) ≡ n) where
    pub length_blocks : (l : List A) → length (flat_map f l) ≡ length l * n
    unfolding flat_map
    length_blocks [] = omega arith
    length_blocks (x ∷ l) = omega (arith, length-append (f x) (flat_map f l), even x, length_blocks l)

    pub get_or_blocks : (l : List A) (i j : ℕ) (d : B) (y : A) → i < length l → j < n → get_or (flat_map f l) (i * n + j) d ≡ get_or (f (get_or l i y)) j d
    unfolding flat_map
    get_or_blocks [] i j d y h k = absurd (omega arith)
    get_or_blocks (x ∷ l) zero j d y h k =
        let e : 0 * n + j ≡ j = omega arith in
        rw e (get_or-append (f x) (flat_map f l) d j (omega (arith, even x)))
    get_or_blocks (x ∷ l) (suc i) j d y h k =
        let e : suc i * n + j ≡ n + (i * n + j) = omega arith in
        rw e (get_or_behind (f x) (flat_map f l) n (i * n + j) d (even x) ∙ get_or_blocks l i j d y (omega arith) k)

-- ---- the numbers below n
pub get_or_up_to : (n i d : ℕ) → i < n → get_or (up_to n) i d ≡ i
unfolding up_to
get_or_up_to zero i d h = absurd (omega arith)
get_or_up_to (suc n) i d h = elim (dec_lt i n) [
  | yes l ↦ get_or-append (up_to n) (n ∷ []) d i (omega (arith, length_up_to n)) ∙ get_or_up_to n i d l
  | no k ↦ let e : n ≡ i = omega arith in get_or_at (up_to n) n [] d i (length_up_to n ∙ e) ∙ e
]

pub at_up_to : {A : Type 0} (f : ℕ → A) (n i : ℕ) (d : A) → i < n → get_or (map f (up_to n)) i d ≡ f i
at_up_to f n i d h = at_map f (up_to n) i d 0 (rw (length_up_to n) h) ∙ ap f (get_or_up_to n i 0 h)

pub flat_up_to_add : {A : Type 0} (f : ℕ → List A) (m n : ℕ) → flat_map f (up_to (m + n)) ≡ flat_map f (up_to m) ++ flat_map (λ i. f (m + i)) (up_to n)
unfolding up_to flat_map
flat_up_to_add f m zero = rw (add-zero, append-nil)
flat_up_to_add f m (suc n) =
    rw (add-suc m n) (flat_up_to_suc f (m + n)
    ∙ ap (λ r. r ++ f (m + n)) (flat_up_to_add f m n)
    ∙ append_assoc (flat_map f (up_to m)) (flat_map (λ i. f (m + i)) (up_to n)) (f (m + n))
    ∙ ap (λ r. flat_map f (up_to m) ++ r) (sym (flat_up_to_suc (λ i. f (m + i)) n)))

-- ---- an element's place
module _ {K : Type 0} (eq : K → K → Bool) (sound : (x y : K) → T (eq x y) → x ≡ y) (self : (x : K) → T (eq x x)) where
  pub place_at : (k : K) (l : List K) (d : K) → Memᴰ k l → (length (before eq k l) < length l) × (get_or l (length (before eq k l)) d ≡ k)
  unfolding before
  place_at k [] d m = absurd (Memᴰ.not-nil m)
  place_at k (x ∷ l) d m = go (eq k x) refl (Memᴰ.cases_cons m) (place_at k l d)
    where
      go : (b : Bool) → eq k x ≡ b → (k ≡ x) ⊎ Memᴰ k l → (Memᴰ k l → (length (before eq k l) < length l) × (get_or l (length (before eq k l)) d ≡ k))
          → (length (cond b [] (x ∷ before eq k l)) < suc (length l)) × (get_or (x ∷ l) (length (cond b [] (x ∷ before eq k l))) d ≡ k)
      go true e m ih = (omega arith, sym (sound k x (T_of (eq k x) e)))
      go false e (inl q) ih = absurd (subst T e (subst (λ y. T (eq k y)) q (self k)))
      go false e (inr m) ih = let r = ih m in (omega (arith, r.0), r.1)

  -- where nothing stands twice
  pub before_take : (l : List K) (i : ℕ) (d : K) → Distinct l → i < length l → before eq (get_or l i d) l ≡ take i l
  unfolding before
  before_take [] i d a h = absurd (omega arith)
  before_take (x ∷ l) zero d a h = go (eq x x) refl
    where
      go : (b : Bool) → eq x x ≡ b → cond b [] (x ∷ before eq x l) ≡ []
      go true e = refl
      go false e = absurd (subst T e (self x))
  before_take (x ∷ l) (suc i) d a h = go (eq (get_or l i d) x) refl (before_take l i d a.1 (omega arith))
    where
      k : i < length l
      k = omega arith

      go : (b : Bool) → eq (get_or l i d) x ≡ b → before eq (get_or l i d) l ≡ take i l → cond b [] (x ∷ before eq (get_or l i d) l) ≡ x ∷ take i l
      go true e r = absurd (all_get_d (λ y. x ≢ y) l i d a.0 k (sym (sound (get_or l i d) x (T_of (eq (get_or l i d) x) e))))
      go false e r = ap (λ s. x ∷ s) r

-- ---- what is kept of a mapped list
pub take_map : {A B : Type 0} (f : A → B) (i : ℕ) (l : List A) → take i (map f l) ≡ map f (take i l)
take_map f zero l = refl
take_map f (suc i) [] = refl
take_map f (suc i) (x ∷ l) = ap (λ r. f x ∷ r) (take_map f i l)

pub kept_map : {A B : Type 0} (f : A → B) (p : B → Bool) (l : List A) → length (keep p (map f l)) ≡ length (keep (λ x. p (f x)) l)
unfolding keep
kept_map f p [] = refl
kept_map f p (x ∷ l) = go (p (f x)) (kept_map f p l)
  where
    go : (b : Bool) → length (keep p (map f l)) ≡ length (keep (λ x. p (f x)) l) → length (cond b (f x ∷ keep p (map f l)) (keep p (map f l))) ≡ length (cond b (x ∷ keep (λ x. p (f x)) l) (keep (λ x. p (f x)) l))
    go true e = ap suc e
    go false e = e

-- all that is left behind i
pub rest_all : (i : ℕ) (l : List ℕ) → take (length l - i) (drop i l) ≡ drop i l
rest_all i l = take_all (length l - i) (drop i l) (omega (arith, length-drop i l))
