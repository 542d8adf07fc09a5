-- The order of f64, for every value that a Float can have: `le` is transitive, also where a NaN stands, and off NaN it is reflexive and total,
-- with `lt` the negation of the reversed `le`. Assumes nothing, and asks for no format.
use mathlib.Core.Path.{◌≡◌, refl, sym, ap, ◌∙◌}
use mathlib.Core.Logic.{◌⊎◌, inl, inr, ◌↔◌}
use Prim.Native.Nat.{ℕ, ◌+◌, ◌*◌, ◌≤◌, ◌<◌}
use native.Mathlib.Nat.{mul-le-mul_right, le_of_mul-le-mul_right, eq-or-lt_of_le}
use native.Mathlib.Omega.{arith}
use mathlib.Core.Bool.{Bool, true, false, not, ◌&&◌, ◌||◌, true≢false, false≢true}
use lib.Dec.{T, eqb, ltb→lt, lt→ltb, eqb→eq}
use lib.IntN.{ℤ}
use lib.Ieee.{Float, nan, inf, fin, up, down, below, level, le, lt, is_nan}
use lib.Ieee.Fits.{down_pos, and_i, and_l, and_r, eq→eqb}
use Rattle.list_words.proofs.Tests.{T_of, of_T, never, not_true}

-- ---- finite values: ±a is over s a - under s a, so that an order of two fractions is one inequality of naturals
abbrev over : Bool → ℕ → ℕ
over false a = a
over true a = 0

abbrev under : Bool → ℕ → ℕ
under false a = 0
under true a = a

same_out : (x y : ℕ) → T (eqb x y && true) → x ≡ y
same_out x y h = eqb→eq x y (and_l (eqb x y) true h)

same_in : (x y : ℕ) → x ≡ y → T (eqb x y && true)
same_in x y h = and_i (eqb x y) true (eq→eqb h) tt

zero_out : (x y : ℕ) → T (eqb x y && eqb x 0) → x + y ≡ 0
zero_out x y h = let e = eqb→eq x y (and_l (eqb x y) (eqb x 0) h) in let z = eqb→eq x 0 (and_r (eqb x y) (eqb x 0) h) in omega arith

zero_in : (x y : ℕ) → x + y ≡ 0 → T (eqb x y && eqb x 0)
zero_in x y h = and_i (eqb x y) (eqb x 0) (eq→eqb {a = x} {b = y} (omega arith)) (eq→eqb {a = x} {b = 0} (omega arith))

-- ±a / c against ±b / k: the left side of the inequality, and with the two changed about the right side
abbrev part : Bool → ℕ → ℕ → Bool → ℕ → ℕ → ℕ
part s a k t b c = over s a * k + under t b * c

-- two tests as one, and tests that are opposite
either : (p q : Bool) (m n : ℕ) → (T p ↔ m < n) → (T q ↔ m ≡ n) → T (p || q) ↔ m ≤ n
either true q m n f g = (λ h. omega (arith, f.0 tt), λ h. tt)
either false q m n f g = (λ h. omega (arith, g.0 h), λ h. elim (eq-or-lt_of_le h) [ inl e ↦ g.1 e | inr l ↦ absurd (f.1 l) ])

opposite : (p q : Bool) (m n : ℕ) → (T p ↔ m < n) → (T q ↔ n ≤ m) → p ≡ not q
opposite true true m n f g = absurd (omega (arith, f.0 tt, g.0 tt))
opposite true false m n f g = refl
opposite false true m n f g = refl
opposite false false m n f g = let h : ¬ (n ≤ m) = g.1 in absurd (f.1 (omega arith))

module _ (a k b c : ℕ) where
  below_is : (s t : Bool) → T (below s (a * k) t (b * c)) ↔ part s a k t b c < part t b c s a k
  below_is false false = omega (arith, ltb→lt, lt→ltb)
  below_is false true = omega arith
  below_is true false = omega (arith, ltb→lt, lt→ltb)
  below_is true true = omega (arith, ltb→lt, lt→ltb)

  level_is : (s t : Bool) → T (level s (a * k) t (b * c)) ↔ part s a k t b c ≡ part t b c s a k
  level_is false false = omega (arith, same_out, same_in)
  level_is false true = omega (arith, zero_out, zero_in)
  level_is true false = omega (arith, zero_out, zero_in)
  level_is true true = omega (arith, same_out, same_in)

  at_most_is : (s t : Bool) → T (below s (a * k) t (b * c) || level s (a * k) t (b * c)) ↔ part s a k t b c ≤ part t b c s a k
  at_most_is s t = either (below s (a * k) t (b * c)) (level s (a * k) t (b * c)) _ _ (below_is s t) (level_is s t)

module _ (s : Bool) (m : ℕ) (e : ℤ) (t : Bool) (n : ℕ) (d : ℤ) where
  lt_is : T (lt (fin s m e) (fin t n d)) ↔ part s (m * up e) (down d) t (n * up d) (down e) < part t (n * up d) (down e) s (m * up e) (down d)
  unfolding lt
  lt_is = below_is (m * up e) (down d) (n * up d) (down e) s t

  le_is : T (le (fin s m e) (fin t n d)) ↔ part s (m * up e) (down d) t (n * up d) (down e) ≤ part t (n * up d) (down e) s (m * up e) (down d)
  unfolding le
  le_is = at_most_is (m * up e) (down d) (n * up d) (down e) s t

-- (a - b) / c ≤ (p - q) / r ≤ (x - y) / z
through : (a b c p q r x y z : ℕ) → 0 < r → a * r + q * c ≤ p * c + b * r → p * z + y * r ≤ x * r + q * z → a * z + y * c ≤ x * c + b * z
through a b c p q r x y z R h k = le_of_mul-le-mul_right (omega (arith, mul-le-mul_right z h, mul-le-mul_right c k)) R

-- ---- the laws
nan_right : (x : Float) → le x nan ≡ false
unfolding le
nan_right nan = refl
nan_right (inf s) = refl
nan_right (fin s m e) = refl

-- what stands in an order that holds is no NaN
pub left_number : (x y : Float) → le x y ≡ true → is_nan x ≡ false
unfolding le is_nan
left_number nan y h = absurd (false≢true h)
left_number (inf s) y h = refl
left_number (fin s m e) y h = refl

pub right_number : (x y : Float) → le x y ≡ true → is_nan y ≡ false
unfolding is_nan
right_number x nan h = absurd (never (le x nan) h (nan_right x))
right_number x (inf t) h = refl
right_number x (fin t n d) h = refl

pub le_trans : (x y z : Float) → le x y ≡ true → le y z ≡ true → le x z ≡ true
unfolding le
le_trans nan y z h k = h
le_trans (inf true) y nan h k = absurd (never (le y nan) k (nan_right y))
le_trans (inf true) y (inf true) h k = refl
le_trans (inf true) y (inf false) h k = refl
le_trans (inf true) y (fin u l c) h k = refl
le_trans (inf false) nan z h k = absurd (false≢true h)
le_trans (inf false) (inf true) z h k = absurd (false≢true h)
le_trans (inf false) (inf false) z h k = k
le_trans (inf false) (fin t n d) z h k = absurd (false≢true h)
le_trans (fin s m e) nan z h k = absurd (false≢true h)
le_trans (fin s m e) (inf true) z h k = absurd (false≢true h)
le_trans (fin s m e) (inf false) nan h k = k
le_trans (fin s m e) (inf false) (inf true) h k = k
le_trans (fin s m e) (inf false) (inf false) h k = refl
le_trans (fin s m e) (inf false) (fin u l c) h k = absurd (false≢true k)
le_trans (fin s m e) (fin t n d) nan h k = k
le_trans (fin s m e) (fin t n d) (inf true) h k = k
le_trans (fin s m e) (fin t n d) (inf false) h k = refl
le_trans (fin s m e) (fin t n d) (fin u l c) h k =
    let a = (le_is s m e t n d).0 (T_of _ h) in
    let b = (le_is t n d u l c).0 (T_of _ k) in
    of_T _ ((le_is s m e u l c).1 (through _ _ _ _ _ _ _ _ _ (down_pos d) a b))

pub lt_not_le : (x y : Float) → is_nan x ≡ false → is_nan y ≡ false → lt x y ≡ not (le y x)
unfolding le is_nan
lt_not_le nan y a b = absurd (true≢false a)
lt_not_le (inf s) nan a b = absurd (true≢false b)
lt_not_le (inf true) (inf true) a b = refl
lt_not_le (inf true) (inf false) a b = refl
lt_not_le (inf false) (inf true) a b = refl
lt_not_le (inf false) (inf false) a b = refl
lt_not_le (inf true) (fin t n d) a b = refl
lt_not_le (inf false) (fin t n d) a b = refl
lt_not_le (fin s m e) nan a b = absurd (true≢false b)
lt_not_le (fin s m e) (inf true) a b = refl
lt_not_le (fin s m e) (inf false) a b = refl
lt_not_le (fin s m e) (fin t n d) a b = opposite (lt (fin s m e) (fin t n d)) (le (fin t n d) (fin s m e)) _ _ (lt_is s m e t n d) (le_is t n d s m e)

-- ---- what follows from these two
pub le_of_lt : (x y : Float) → lt x y ≡ true → le x y ≡ true
unfolding le
le_of_lt x y h = rw h

pub lt_not : (x y : Float) → lt x y ≡ true → le y x ≡ false
lt_not x y h = let g = le_of_lt x y h in not_true (le y x) (sym (lt_not_le x y (left_number x y g) (right_number x y g)) ∙ h)

pub not_le : (x y : Float) → is_nan x ≡ false → is_nan y ≡ false → le y x ≡ false → lt x y ≡ true
not_le x y a b h = lt_not_le x y a b ∙ ap not h

pub le_total : (x y : Float) → is_nan x ≡ false → is_nan y ≡ false → (le x y ≡ true) ⊎ (le y x ≡ true)
le_total x y a b = go (le x y) refl
  where
    go : (w : Bool) → le x y ≡ w → (le x y ≡ true) ⊎ (le y x ≡ true)
    go true e = inl e
    go false e = inr (le_of_lt y x (not_le y x b a e))

pub le_self : (x : Float) → is_nan x ≡ false → le x x ≡ true
le_self x a = elim (le_total x x a a) [ inl h ↦ h | inr h ↦ h ]

-- Of three, where x ≤ z fails. No number is asked for.
pub fails : (x y z : Float) → le x y ≡ true → le x z ≡ false → le y z ≡ false
fails x y z h k = go (le y z) refl
  where
    go : (w : Bool) → le y z ≡ w → w ≡ false
    go true e = absurd (never (le x z) (le_trans x y z h e) k)
    go false e = refl

pub fails_right : (x y z : Float) → le y z ≡ true → le x z ≡ false → le x y ≡ false
fails_right x y z h k = go (le x y) refl
  where
    go : (w : Bool) → le x y ≡ w → w ≡ false
    go true e = absurd (never (le x z) (le_trans x y z e h) k)
    go false e = refl

pub lt_le_trans : (x y z : Float) → lt x y ≡ true → le y z ≡ true → lt x z ≡ true
lt_le_trans x y z h k = not_le x z (left_number x y (le_of_lt x y h)) (right_number y z k) (fails y z x k (lt_not x y h))

pub le_lt_trans : (x y z : Float) → le x y ≡ true → lt y z ≡ true → lt x z ≡ true
le_lt_trans x y z h k = not_le x z (left_number x y h) (right_number y z (le_of_lt y z k)) (fails_right z x y h (lt_not y z k))
