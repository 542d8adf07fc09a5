-- Functions of edges, worked out for half-edges. An edge is a half-edge that goes up; a half-edge that goes down is its edge turned round,
-- and has the negated value.
use mathlib.Core.Path.{◌≡◌, refl, sym, ap, ap₂, ◌∙◌}
use mathlib.Core.Logic.{◌≢◌}
use mathlib.Core.Bool.{Bool, true, false, not, cond}
use mathlib.Core.List.{List, [], ◌∷◌, map}
use native.Mathlib.Omega.{arith}
use lib.IntN.{ℤ, pos, ◌+ℤ◌, ◌-ℤ◌, ◌*ℤ◌, neg_ℤ, neg_ℤ-+ℤ, neg_ℤ-neg_ℤ}
use Rattle.list_words.specs.Lists.{sum_of, turned}
use Rattle.list_words.proofs.Integers.{split, mk_eq, lin, neg_sub, neg_mul, mul_neg}
use Rattle.list_words.proofs.Sums.{sum_add, sum_neg, sum_mul, sum_ext, sum_map, sum_swap}
use Rattle.list_words.proofs.Closed.{Anti}

-- ---- the laws of a sign
abbrev sign : Bool → ℤ → ℤ
sign b n = cond b n (neg_ℤ n)

sign_add : (b : Bool) (m n : ℤ) → sign b (m +ℤ n) ≡ sign b m +ℤ sign b n
sign_add true m n = refl
sign_add false m n = neg_ℤ-+ℤ m n

sign_neg : (b : Bool) (n : ℤ) → sign b (neg_ℤ n) ≡ neg_ℤ (sign b n)
sign_neg true n = refl
sign_neg false n = refl

sign_mul : (b : Bool) (c n : ℤ) → sign b (c *ℤ n) ≡ c *ℤ sign b n
sign_mul true c n = refl
sign_mul false c n = sym (mul_neg c n)

mul_sign : (b : Bool) (n c : ℤ) → sign b n *ℤ c ≡ sign b (n *ℤ c)
mul_sign true n c = refl
mul_sign false n c = neg_mul n c

sign_sum : {I : Type 0} (b : Bool) (x : I → ℤ) (l : List I) → sign b (sum_of x l) ≡ sum_of (λ i. sign b (x i)) l
sign_sum true x l = refl
sign_sum false x l = sym (sum_neg x l)

sign_sign : (b c : Bool) (n : ℤ) → sign b (sign c n) ≡ sign c (sign b n)
sign_sign true c n = refl
sign_sign false true n = refl
sign_sign false false n = refl

module _ {X : Type 0} (up : X × X → Bool) where
  abbrev pub edge : X × X → X × X
  edge h = cond (up h) h (turned h)

  abbrev pub signed : X × X → ℤ → ℤ
  signed h n = cond (up h) n (neg_ℤ n)

  abbrev pub sgn : (X × X → ℤ) → X × X → ℤ
  sgn x h = signed h (x (edge h))

  -- the sum over half-edges
  abbrev pub around : (X × X → ℤ) → List (X × X) → ℤ
  around x l = sum_of (sgn x) l

  -- a list that turns with the half-edge
  abbrev pub half : {Y : Type 0} → (X × X → List (Y × Y)) → X × X → List (Y × Y)
  half p h = cond (up h) (p (edge h)) (map turned (p (edge h)))

-- the half-edges go round: as many come to each vertex as leave it
abbrev pub Round : {X : Type 0} → List (X × X) → Type 0
Round {X} l = (φ : X → ℤ) → sum_of (λ (h : X × X). φ h.1 -ℤ φ h.0) l ≡ pos 0

pub loop : {X : Type 0} (p q r : X) → Round ((p, q) ∷ (q, r) ∷ (r, p) ∷ [])
unfolding sum_of
loop p q r φ = cancel (φ p) (φ q) (φ r)
  where
    cancel : (a b c : ℤ) → (b -ℤ a) +ℤ ((c -ℤ b) +ℤ ((a -ℤ c) +ℤ pos 0)) ≡ pos 0
    cancel a b c = rw (split a, split b, split c) (simp lin (mk_eq _ _ _ _ (omega arith)))

-- ---- by the half-edge
module _ {X : Type 0} (up : X × X → Bool) where
  pub sgn_ext : (x y : X × X → ℤ) (h : X × X) → ((e : X × X) → x e ≡ y e) → sgn up x h ≡ sgn up y h
  sgn_ext x y h f = ap (signed up h) (f (edge up h))

  pub sgn_add : (x y : X × X → ℤ) (h : X × X) → sgn up (λ e. x e +ℤ y e) h ≡ sgn up x h +ℤ sgn up y h
  sgn_add x y h = sign_add (up h) (x (edge up h)) (y (edge up h))

  pub sgn_neg : (x : X × X → ℤ) (h : X × X) → sgn up (λ e. neg_ℤ (x e)) h ≡ neg_ℤ (sgn up x h)
  sgn_neg x h = sign_neg (up h) (x (edge up h))

  pub sgn_sub : (x y : X × X → ℤ) (h : X × X) → sgn up (λ e. x e -ℤ y e) h ≡ sgn up x h -ℤ sgn up y h
  sgn_sub x y h = sgn_add x (λ e. neg_ℤ (y e)) h ∙ ap (λ z. sgn up x h +ℤ z) (sgn_neg y h)

  pub sgn_mul : (c : ℤ) (x : X × X → ℤ) (h : X × X) → sgn up (λ e. c *ℤ x e) h ≡ c *ℤ sgn up x h
  sgn_mul c x h = sign_mul (up h) c (x (edge up h))

  pub sgn_edge : (x y : X × X → ℤ) (h : X × X) → sgn up x h *ℤ y (edge up h) ≡ sgn up (λ e. x e *ℤ y e) h
  sgn_edge x y h = mul_sign (up h) (x (edge up h)) (y (edge up h))

  pub sgn_sum : {I : Type 0} (x : I → X × X → ℤ) (l : List I) (h : X × X) → sgn up (λ e. sum_of (λ i. x i e) l) h ≡ sum_of (λ i. sgn up (x i) h) l
  sgn_sum x l h = sign_sum (up h) (λ i. x i (edge up h)) l

  pub sgn_diff : (φ : X → ℤ) (h : X × X) → sgn up (λ e. φ e.1 -ℤ φ e.0) h ≡ φ h.1 -ℤ φ h.0
  sgn_diff φ h = go (up h)
    where
      go : (b : Bool) → sign b (φ (cond b h (turned h)).1 -ℤ φ (cond b h (turned h)).0) ≡ φ h.1 -ℤ φ h.0
      go true = refl
      go false = neg_sub (φ h.0) (φ h.1)

  module _ (flip : (h : X × X) → h.0 ≢ h.1 → up (turned h) ≡ not (up h)) where
    pub edge_turned : (h : X × X) → h.0 ≢ h.1 → edge up (turned h) ≡ edge up h
    edge_turned h n = ap (λ b. cond b (turned h) h) (flip h n) ∙ go (up h)
      where
        go : (b : Bool) → cond (not b) (turned h) h ≡ cond b h (turned h)
        go true = refl
        go false = refl

    pub sgn_anti : (x : X × X → ℤ) (h : X × X) → h.0 ≢ h.1 → sgn up x (turned h) ≡ neg_ℤ (sgn up x h)
    sgn_anti x h n = ap₂ sign (flip h n) (ap x (edge_turned h n)) ∙ go (up h) (x (edge up h))
      where
        go : (b : Bool) (m : ℤ) → sign (not b) m ≡ neg_ℤ (sign b m)
        go true m = refl
        go false m = sym (neg_ℤ-neg_ℤ m)

  -- ---- and summed
  pub around_ext : (x y : X × X → ℤ) (l : List (X × X)) → ((e : X × X) → x e ≡ y e) → around up x l ≡ around up y l
  around_ext x y l f = sum_ext (sgn up x) (sgn up y) l (λ h. sgn_ext x y h f)

  pub around_add : (x y : X × X → ℤ) (l : List (X × X)) → around up (λ e. x e +ℤ y e) l ≡ around up x l +ℤ around up y l
  around_add x y l = sum_ext (sgn up (λ e. x e +ℤ y e)) (λ h. sgn up x h +ℤ sgn up y h) l (sgn_add x y) ∙ sum_add (sgn up x) (sgn up y) l

  pub around_neg : (x : X × X → ℤ) (l : List (X × X)) → around up (λ e. neg_ℤ (x e)) l ≡ neg_ℤ (around up x l)
  around_neg x l = sum_ext (sgn up (λ e. neg_ℤ (x e))) (λ h. neg_ℤ (sgn up x h)) l (sgn_neg x) ∙ sum_neg (sgn up x) l

  pub around_sub : (x y : X × X → ℤ) (l : List (X × X)) → around up (λ e. x e -ℤ y e) l ≡ around up x l -ℤ around up y l
  around_sub x y l = around_add x (λ e. neg_ℤ (y e)) l ∙ ap (λ z. around up x l +ℤ z) (around_neg y l)

  pub around_mul : (c : ℤ) (x : X × X → ℤ) (l : List (X × X)) → around up (λ e. c *ℤ x e) l ≡ c *ℤ around up x l
  around_mul c x l = sum_ext (sgn up (λ e. c *ℤ x e)) (λ h. c *ℤ sgn up x h) l (sgn_mul c x) ∙ sum_mul c (sgn up x) l

  pub around_sum : {I : Type 0} (x : I → X × X → ℤ) (m : List I) (l : List (X × X)) → around up (λ e. sum_of (λ i. x i e) m) l ≡ sum_of (λ i. around up (x i) l) m
  around_sum x m l = sum_ext (sgn up (λ e. sum_of (λ i. x i e) m)) (λ h. sum_of (λ i. sgn up (x i) h) m) l (sgn_sum x m) ∙ sum_swap (λ h i. sgn up (x i) h) l m

  pub around_diff : (φ : X → ℤ) (l : List (X × X)) → Round l → around up (λ e. φ e.1 -ℤ φ e.0) l ≡ pos 0
  around_diff φ l round = sum_ext (sgn up (λ e. φ e.1 -ℤ φ e.0)) (λ h. φ h.1 -ℤ φ h.0) l (sgn_diff φ) ∙ round φ

  pub around_diff' : (φ : X → ℤ) (l : List (X × X)) → Round l → around up (λ e. φ e.0 -ℤ φ e.1) l ≡ pos 0
  around_diff' φ l round =
      around_ext (λ e. φ e.0 -ℤ φ e.1) (λ e. neg_ℤ (φ e.1 -ℤ φ e.0)) l (λ e. sym (neg_sub (φ e.1) (φ e.0)))
      ∙ around_neg (λ e. φ e.1 -ℤ φ e.0) l ∙ ap neg_ℤ (around_diff φ l round)

-- ---- over the half-edges of two solids
module _ {X Y : Type 0} (up : X × X → Bool) (up' : Y × Y → Bool) where
  pub sgn_swap : (z : X × X → Y × Y → ℤ) (h : X × X) (k : Y × Y) → sgn up (λ a. sgn up' (z a) k) h ≡ sgn up' (λ b. sgn up (λ a. z a b) h) k
  sgn_swap z h k = sign_sign (up h) (up' k) (z (edge up h) (edge up' k))

  pub around_swap : (z : X × X → Y × Y → ℤ) (l : List (X × X)) (m : List (Y × Y)) → around up (λ a. around up' (z a) m) l ≡ around up' (λ b. around up (λ a. z a b) l) m
  around_swap z l m =
      sum_ext (sgn up (λ a. around up' (z a) m)) (λ h. sum_of (λ k. sgn up (λ a. sgn up' (z a) k) h) m) l (λ h. sgn_sum up (λ k a. sgn up' (z a) k) m h)
      ∙ sum_swap (λ h k. sgn up (λ a. sgn up' (z a) k) h) l m
      ∙ sum_ext (λ k. sum_of (λ h. sgn up (λ a. sgn up' (z a) k) h) l) (sgn up' (λ b. around up (λ a. z a b) l)) m
      (λ k. sum_ext (λ h. sgn up (λ a. sgn up' (z a) k) h) (λ h. sgn up' (λ b. sgn up (λ a. z a b) h) k) l (λ h. sgn_swap z h k) ∙ sym (sgn_sum up' (λ h b. sgn up (λ a. z a b) h) l k))

-- ---- lists that turn
module _ {Y : Type 0} (G : Y × Y → ℤ) (anti : Anti G) where
  pub sum_turned : (l : List (Y × Y)) → sum_of G (map turned l) ≡ neg_ℤ (sum_of G l)
  sum_turned l = sum_map G turned l ∙ sum_ext (λ h. G (turned h)) (λ h. neg_ℤ (G h)) l anti ∙ sum_neg G l

  pub sum_half : {X : Type 0} (up : X × X → Bool) (p : X × X → List (Y × Y)) (h : X × X) → sum_of G (half up p h) ≡ sgn up (λ e. sum_of G (p e)) h
  sum_half up p h = go (up h) (p (edge up h))
    where
      go : (b : Bool) (l : List (Y × Y)) → sum_of G (cond b l (map turned l)) ≡ sign b (sum_of G l)
      go true l = refl
      go false l = sum_turned l
