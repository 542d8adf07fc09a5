-- Laws of the integers. A linear law is proved by `omega`: each variable is taken as a difference of two naturals (`split`),
-- so that the law becomes one of naturals (`lin`, `mk_eq`). Then products, and bounds on the absolute value.
use mathlib.Core.Path.{◌≡◌, refl, sym, ap, ap₂, ◌∙◌}
use mathlib.Core.Logic.{◌⊎◌, inl, inr}
use Prim.Native.Nat.{ℕ, zero, suc, ◌+◌, ◌≤◌}
use native.Mathlib.Omega.{arith}
use lib.IntN.{ℤ, pos, negsuc, nat_abs, ◌+ℤ◌, ◌-ℤ◌, neg_ℤ, +ℤ_idl, +ℤ_idr, +ℤ_assoc, +ℤ_comm, +ℤ_invr, neg_ℤ-+ℤ, neg_ℤ-neg_ℤ, +ℤ-neg_ℤ_cancel, -ℤ-+ℤ_cancel, ◌*ℤ◌, pred_ℤ, suc_ℤ-+ℤ, pred_ℤ-+ℤ, suc_ℤ-*ℤ, pred_ℤ-*ℤ, zero-*ℤ, *ℤ_comm, *ℤ-one, one}
use Rattle.list_words.specs.Lists.{above, below}

-- a - b, shut
pub mk : ℕ → ℕ → ℤ
mk a b = pos a -ℤ pos b

pub split : (x : ℤ) → x ≡ mk (above x) (below x)
unfolding mk
split (pos n) = sym (+ℤ_idr (pos n))
split (negsuc n) = sym (+ℤ_idl (negsuc n))

pub whole : (x : ℤ) → pos (above x) -ℤ pos (below x) ≡ x
unfolding mk
whole x = sym (split x)

pub mk_pos : (n : ℕ) → pos n ≡ mk n 0
mk_pos n = split (pos n)

pub mk_negsuc : (n : ℕ) → negsuc n ≡ mk 0 (suc n)
mk_negsuc n = split (negsuc n)

pub regroup : (a b c d : ℤ) → (a +ℤ b) +ℤ (c +ℤ d) ≡ (a +ℤ c) +ℤ (b +ℤ d)
regroup a b c d = +ℤ_assoc a b (c +ℤ d) ∙ ap (λ x. a +ℤ x) (sym (+ℤ_assoc b c d) ∙ ap (λ x. x +ℤ d) (+ℤ_comm b c) ∙ +ℤ_assoc c b d) ∙ sym (+ℤ_assoc a c (b +ℤ d))

pub mk_add : (a b c d : ℕ) → mk a b +ℤ mk c d ≡ mk (a + c) (b + d)
unfolding mk
mk_add a b c d = regroup (pos a) (neg_ℤ (pos b)) (pos c) (neg_ℤ (pos d)) ∙ ap (λ x. pos (a + c) +ℤ x) (sym (neg_ℤ-+ℤ (pos b) (pos d)))

pub mk_neg : (a b : ℕ) → neg_ℤ (mk a b) ≡ mk b a
unfolding mk
mk_neg a b = neg_ℤ-+ℤ (pos a) (neg_ℤ (pos b)) ∙ ap (λ x. neg_ℤ (pos a) +ℤ x) (neg_ℤ-neg_ℤ (pos b)) ∙ +ℤ_comm (neg_ℤ (pos a)) (pos b)

-- what a linear law becomes, once each of its variables x is split by `rw (split x)`
pub ruleset lin = (mk_add, mk_neg, mk_pos, mk_negsuc)

shift : (a b c : ℕ) → mk (a + c) (b + c) ≡ mk a b
unfolding mk
shift a b c = sym (mk_add a b c c) ∙ ap (λ x. mk a b +ℤ x) (+ℤ_invr (pos c)) ∙ +ℤ_idr (mk a b)

pub mk_eq : (a b c d : ℕ) → a + d ≡ c + b → mk a b ≡ mk c d
mk_eq a b c d e = sym (shift a b d) ∙ ap₂ mk e (omega arith) ∙ shift c d b

pub pos_inj : (m n : ℕ) → pos m ≡ pos n → m ≡ n
pos_inj m n e = cc

pub mk_inj : (a b c d : ℕ) → mk a b ≡ mk c d → a + d ≡ c + b
mk_inj a b c d e = pos_inj (a + d) (c + b) (whole a b (b + d) (a + d) (omega arith) ∙ ap (λ x. x +ℤ pos (b + d)) e ∙ sym (whole c d (b + d) (c + b) (omega arith)))
  where
    whole : (a b m n : ℕ) → n + b ≡ a + m → pos n ≡ mk a b +ℤ pos m
    whole a b m n h = simp lin (mk_eq _ _ _ _ (omega arith))

-- ---- equations
pub eq_of_sub : (x y : ℤ) → x -ℤ y ≡ pos 0 → x ≡ y
eq_of_sub x y e = sym (-ℤ-+ℤ_cancel x y) ∙ ap (λ z. z +ℤ y) e ∙ +ℤ_idl y

pub neg_of_add : (x y : ℤ) → x +ℤ y ≡ pos 0 → y ≡ neg_ℤ x
neg_of_add x y e = sym (+ℤ-neg_ℤ_cancel y x) ∙ ap (λ z. z -ℤ x) (+ℤ_comm y x ∙ e) ∙ +ℤ_idl (neg_ℤ x)

pub neg_sub : (x y : ℤ) → neg_ℤ (x -ℤ y) ≡ y -ℤ x
neg_sub x y = rw (split x, split y) (simp lin (mk_eq _ _ _ _ (omega arith)))

pub half_zero : (x : ℤ) → x ≡ neg_ℤ x → x ≡ pos 0
half_zero x e = let d = mk_inj _ _ _ _ (simp lin at (rw (split x) at e)) in rw (split x) (simp lin (mk_eq _ _ _ _ (omega arith)))

-- ---- products
last : (x y z : ℤ) → (x +ℤ y) +ℤ z ≡ (x +ℤ z) +ℤ y
last x y z = rw (split x, split y, split z) (simp lin (mk_eq _ _ _ _ (omega arith)))

pub add_mul : (a b c : ℤ) → (a +ℤ b) *ℤ c ≡ a *ℤ c +ℤ b *ℤ c
add_mul (pos zero) b c = ap (λ z. z *ℤ c) (+ℤ_idl b) ∙ sym (ap (λ z. z +ℤ b *ℤ c) (zero-*ℤ c) ∙ +ℤ_idl (b *ℤ c))
add_mul (pos (suc n)) b c =
    ap (λ z. z *ℤ c) (suc_ℤ-+ℤ (pos n) b) ∙ suc_ℤ-*ℤ (pos n +ℤ b) c ∙ ap (λ z. z +ℤ c) (add_mul (pos n) b c) ∙ last (pos n *ℤ c) (b *ℤ c) c
    ∙ ap (λ z. z +ℤ b *ℤ c) (sym (suc_ℤ-*ℤ (pos n) c))
add_mul (negsuc zero) b c =
    ap (λ z. z *ℤ c) (pred_ℤ-+ℤ (pos 0) b ∙ ap pred_ℤ (+ℤ_idl b)) ∙ pred_ℤ-*ℤ b c ∙ +ℤ_comm (b *ℤ c) (neg_ℤ c)
    ∙ ap (λ z. z +ℤ b *ℤ c) (sym (pred_ℤ-*ℤ (pos 0) c ∙ ap (λ z. z -ℤ c) (zero-*ℤ c) ∙ +ℤ_idl (neg_ℤ c)))
add_mul (negsuc (suc n)) b c =
    ap (λ z. z *ℤ c) (pred_ℤ-+ℤ (negsuc n) b) ∙ pred_ℤ-*ℤ (negsuc n +ℤ b) c ∙ ap (λ z. z -ℤ c) (add_mul (negsuc n) b c) ∙ last (negsuc n *ℤ c) (b *ℤ c) (neg_ℤ c)
    ∙ ap (λ z. z +ℤ b *ℤ c) (sym (pred_ℤ-*ℤ (negsuc n) c))

pub mul_add : (c a b : ℤ) → c *ℤ (a +ℤ b) ≡ c *ℤ a +ℤ c *ℤ b
mul_add c a b = *ℤ_comm c (a +ℤ b) ∙ add_mul a b c ∙ ap₂ ◌+ℤ◌ (*ℤ_comm a c) (*ℤ_comm b c)

pub neg_mul : (a c : ℤ) → neg_ℤ a *ℤ c ≡ neg_ℤ (a *ℤ c)
neg_mul a c = neg_of_add (a *ℤ c) (neg_ℤ a *ℤ c) (sym (add_mul a (neg_ℤ a) c) ∙ ap (λ z. z *ℤ c) (+ℤ_invr a) ∙ zero-*ℤ c)

pub mul_neg : (c a : ℤ) → c *ℤ neg_ℤ a ≡ neg_ℤ (c *ℤ a)
mul_neg c a = *ℤ_comm c (neg_ℤ a) ∙ neg_mul a c ∙ ap neg_ℤ (*ℤ_comm a c)

pub mul_sub : (c a b : ℤ) → c *ℤ (a -ℤ b) ≡ c *ℤ a -ℤ c *ℤ b
mul_sub c a b = mul_add c a (neg_ℤ b) ∙ ap (λ z. c *ℤ a +ℤ z) (mul_neg c b)

-- ---- above and below
pub above_neg : (x : ℤ) → above (neg_ℤ x) ≡ below x
above_neg (pos zero) = refl
above_neg (pos (suc n)) = refl
above_neg (negsuc n) = refl

pub below_neg : (x : ℤ) → below (neg_ℤ x) ≡ above x
below_neg x = sym (above_neg (neg_ℤ x)) ∙ ap above (neg_ℤ-neg_ℤ x)

pub one_side : (x : ℤ) → (above x ≡ 0) ⊎ (below x ≡ 0)
one_side (pos n) = inr refl
one_side (negsuc n) = inl refl

pub abs_parts : (x : ℤ) → nat_abs x ≡ above x + below x
abs_parts (pos n) = omega arith
abs_parts (negsuc n) = omega arith

-- ---- bounds
abbrev pub Bnd : ℕ → ℤ → Type 0
Bnd n x = nat_abs x ≤ n

parts_add : (x y : ℤ) → above (x +ℤ y) + (below x + below y) ≡ (above x + above y) + below (x +ℤ y)
parts_add x y = mk_inj _ _ _ _ (sym (split (x +ℤ y)) ∙ ap₂ ◌+ℤ◌ (split x) (split y) ∙ mk_add (above x) (below x) (above y) (below y))

pub bnd_add : (m n : ℕ) (x y : ℤ) → Bnd m x → Bnd n y → Bnd (m + n) (x +ℤ y)
bnd_add m n x y h k = elim (one_side (x +ℤ y)) [
  | inl z ↦ omega (arith, parts_add x y, abs_parts x, abs_parts y, abs_parts (x +ℤ y))
  | inr z ↦ omega (arith, parts_add x y, abs_parts x, abs_parts y, abs_parts (x +ℤ y))
]

pub bnd_neg : (n : ℕ) (x : ℤ) → Bnd n x → Bnd n (neg_ℤ x)
bnd_neg n x h = omega (arith, abs_parts x, abs_parts (neg_ℤ x), above_neg x, below_neg x)

pub bnd_zero : Bnd 0 (pos 0)
bnd_zero = omega arith

pub bnd_one : Bnd 1 (pos 1)
bnd_one = omega arith

pub bnd_mono : (m n : ℕ) (x : ℤ) → m ≤ n → Bnd m x → Bnd n x
bnd_mono m n x h b = omega arith

-- a number that is 1, 0 or -1 times another
pub scaled : (n : ℕ) (c x : ℤ) → Bnd 1 c → Bnd n x → Bnd n (c *ℤ x)
unfolding one
scaled n (pos zero) x h k = rw (zero-*ℤ x) (omega arith)
scaled n (pos (suc zero)) x h k = rw (*ℤ_comm (pos 1) x ∙ *ℤ-one x) k
scaled n (pos (suc (suc m))) x h k = absurd (omega arith)
scaled n (negsuc zero) x h k = rw (neg_mul (pos 1) x ∙ ap neg_ℤ (*ℤ_comm (pos 1) x ∙ *ℤ-one x)) (bnd_neg n x k)
scaled n (negsuc (suc m)) x h k = absurd (omega arith)
