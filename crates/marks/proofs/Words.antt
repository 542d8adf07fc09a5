-- Marks by words: what a word's digits say after a mark, and where the next digit stands.
use mathlib.Core.Path.{◌≡◌, refl, sym, ap, ◌∙◌, subst}
use mathlib.Core.Logic.{◌≢◌}
use mathlib.Core.Bool.{Bool, true, false, ◌||◌}
use mathlib.Core.List.{List}
use Prim.Native.Nat.{ℕ, zero, suc, ◌+◌, ◌-◌, ◌*◌, ◌/◌, ◌%◌, ◌^◌, ◌<◌, ◌≤◌, max, min}
use native.Mathlib.Nat.{zero-div, div-one, pow-suc, pow-succ', div-div-eq-div-mul, mul-mod_left, div-lt_iff_lt-mul, zero-lt-suc, pow-le-pow_right, lt_of_le_of_lt, lt_of_lt_of_le}
use native.Mathlib.Omega.{arith}
use native.Mathlib.Decide.{dec_lt, ℕ_discrete}
use borrow.Author.Tests.{eq-eqb, ne_eqb}
use lib.Bits.{bit_or, or_step, or_shr, or_add_and, and_le_l, and_le_r}
use lib.Count.{count_trailing_zeros, under}
use lib.Dec.{eqb}
use lib.ListN.{length, get_or, set}
use lib.Pow.{pow-lt, pow-add, shl-shr, shr-shr, shr_le}
use lib.Seq.{get_or-set_same, get_or-set_other}
use Rattle.marks.specs.Words.{marked, Next}

-- digit i of a word
abbrev digit : ℕ → ℕ → ℕ
digit w i = w / 2 ^ i % 2

less_div : (a b : ℕ) → a < b → a / b ≡ 0
less_div a b h = let p : 0 < b = omega arith in let k : a < 1 * b = omega arith in let e : a / b < 1 = (div-lt_iff_lt-mul p).1 k in omega arith

digit_same : (k : ℕ) → digit (2 ^ k) k ≡ 1
digit_same k =
    let e : 2 ^ k / 2 ^ k ≡ 1 = ap (λ n. n / 2 ^ k) (omega arith) ∙ shl-shr 1 k in
    ap (λ n. n % 2) e

digit_other : (k i : ℕ) → k ≢ i → digit (2 ^ k) i ≡ 0
digit_other k i n = elim (dec_lt k i) [
  | yes h ↦ ap (λ m. m % 2) (less_div (2 ^ k) (2 ^ i) (pow-lt h))
  | no m ↦
      let d : k ≡ suc (k - i - 1) + i = omega arith in
      let e : 2 ^ k ≡ 2 ^ suc (k - i - 1) * 2 ^ i = ap (λ n. 2 ^ n) d ∙ pow-add 2 (suc (k - i - 1)) i in
      ap (λ n. n / 2 ^ i % 2) e ∙ ap (λ n. n % 2) (shl-shr (2 ^ suc (k - i - 1)) i) ∙ ap (λ n. n % 2) (pow-suc 2 (k - i - 1)) ∙ mul-mod_left (2 ^ (k - i - 1)) 2
]

digit_or : (a b i : ℕ) → digit (bit_or a b) i ≡ max (digit a i) (digit b i)
digit_or a b i = ap (λ n. n % 2) (or_shr a b i) ∙ omega (arith, or_step (a / 2 ^ i) (b / 2 ^ i))

-- ---- a mark
pub marked_set : (l : List ℕ) (i j : ℕ) → i < 64 * length l → marked (set l (i / 64) (bit_or (get_or l (i / 64) 0) (2 ^ (i % 64)))) j ≡ (eqb i j || marked l j)
unfolding marked
marked_set l i j h = elim (ℕ_discrete (i / 64) (j / 64)) [ yes e ↦ same e | no n ↦ other n ]
  where
    w : ℕ
    w = get_or l (i / 64) 0

    x : ℕ
    x = digit w (j % 64)

    both : (y : ℕ) (b : Bool) → digit (2 ^ (i % 64)) (j % 64) ≡ y → eqb i j ≡ b → eqb (max x y) 1 ≡ (b || eqb x 1)
        → eqb (digit (bit_or w (2 ^ (i % 64))) (j % 64)) 1 ≡ (eqb i j || eqb x 1)
    both y b e d g = ap (λ n. eqb n 1) (digit_or w (2 ^ (i % 64)) (j % 64) ∙ ap (max x) e) ∙ g ∙ ap (λ c. c || eqb x 1) (sym d)

    pick : i / 64 ≡ j / 64 → eqb (digit (bit_or w (2 ^ (i % 64))) (j % 64)) 1 ≡ (eqb i j || eqb x 1)
    pick e = elim (ℕ_discrete (i % 64) (j % 64)) [
      | yes d ↦ both 1 true (ap (digit (2 ^ (i % 64))) (sym d) ∙ digit_same (i % 64)) (eq-eqb i j (omega arith)) (eq-eqb (max x 1) 1 (omega arith))
      | no n ↦ both 0 false (digit_other (i % 64) (j % 64) n) (ne_eqb i j (λ q. n (ap (λ m. m % 64) q))) (let z : max x 0 ≡ x = omega arith in ap (λ m. eqb m 1) z)
    ]

    same : i / 64 ≡ j / 64 → eqb (digit (get_or (set l (i / 64) (bit_or w (2 ^ (i % 64)))) (j / 64) 0) (j % 64)) 1 ≡ (eqb i j || eqb (digit (get_or l (j / 64) 0) (j % 64)) 1)
    same e = rw (← e, get_or-set_same l (i / 64) (bit_or w (2 ^ (i % 64))) 0 (omega arith)) (pick e)

    other : i / 64 ≢ j / 64 → eqb (digit (get_or (set l (i / 64) (bit_or w (2 ^ (i % 64)))) (j / 64) 0) (j % 64)) 1 ≡ (eqb i j || eqb (digit (get_or l (j / 64) 0) (j % 64)) 1)
    other n =
        rw (get_or-set_other l (i / 64) (j / 64) (bit_or w (2 ^ (i % 64))) 0 (λ q. n (sym q)), ne_eqb i j (λ q. n (ap (λ m. m / 64) q)))

-- ---- the lowest digit that is set
tz_odd : (d q : ℕ) → 0 < q → q < 2 ^ d → digit q (count_trailing_zeros d q) ≡ 1
unfolding count_trailing_zeros
tz_odd zero q h k = absurd (omega arith)
tz_odd (suc d) q h k = go (q % 2) refl (λ e. tz_odd d (q / 2) (omega arith) ((div-lt_iff_lt-mul (zero-lt-suc 1)).1 (subst (λ (x : ℕ). q < x) (pow-suc 2 d) k)))
  where
    go : (r : ℕ) → q % 2 ≡ r → (q % 2 ≡ 0 → digit (q / 2) (count_trailing_zeros d (q / 2)) ≡ 1) → digit q (under r (count_trailing_zeros d (q / 2))) ≡ 1
    go zero e ih =
        let t = count_trailing_zeros d (q / 2) in
        ap (λ (x : ℕ). x % 2) (ap (λ (x : ℕ). q / x) (pow-succ' 2 t) ∙ sym (div-div-eq-div-mul q 2 (2 ^ t))) ∙ ih e
    go (suc r) e ih = ap (λ (x : ℕ). x % 2) (div-one q) ∙ omega arith

tz_even : (k n d : ℕ) → d < count_trailing_zeros k n → digit n d ≡ 0
unfolding count_trailing_zeros
tz_even zero n d h = absurd (omega arith)
tz_even (suc k) n d h = go (n % 2) refl d h (tz_even k (n / 2))
  where
    go : (r : ℕ) → n % 2 ≡ r → (d : ℕ) → d < under r (count_trailing_zeros k (n / 2)) → ((d : ℕ) → d < count_trailing_zeros k (n / 2) → digit (n / 2) d ≡ 0) → digit n d ≡ 0
    go zero e zero h ih = ap (λ (x : ℕ). x % 2) (div-one n) ∙ e
    go zero e (suc d) h ih = ap (λ (x : ℕ). x % 2) (ap (λ (x : ℕ). n / x) (pow-succ' 2 d) ∙ sym (div-div-eq-div-mul n 2 (2 ^ d))) ∙ ih d (omega arith)
    go (suc r) e d h ih = absurd (omega arith)

pos_of : (n : ℕ) → (n ≡ 0 → ⊥) → 0 < n
pos_of zero f = absurd (f refl)
pos_of (suc n) f = omega arith

-- ---- the next mark
-- nothing is marked from `from` up to `at`, as far as `end`
abbrev pub Clear : List ℕ → ℕ → ℕ → ℕ → Type 0
Clear l from end at = (i : ℕ) → from ≤ i → i < at → i < end → marked l i ≡ false

module _ (l : List ℕ) (at : ℕ) where
  -- the rest of the word in which `at` stands
  abbrev pub rest_of : ℕ
  rest_of = get_or l (at / 64) 0 / 2 ^ (at % 64)

  in_word : (d : ℕ) → at % 64 + d < 64 → marked l (at + d) ≡ eqb (digit rest_of d) 1
  unfolding marked
  in_word d h =
      let e : (at + d) / 64 ≡ at / 64 = omega arith in
      let f : (at + d) % 64 ≡ at % 64 + d = omega arith in
      rw (e, f, shr-shr (get_or l (at / 64) 0) (at % 64) d)

  unmarked : (d : ℕ) → at % 64 + d < 64 → digit rest_of d ≡ 0 → marked l (at + d) ≡ false
  unmarked d h e = in_word d h ∙ ap (λ n. eqb n 1) e ∙ ne_eqb 0 1 (λ q. omega arith)

  module _ {from end : ℕ} (clear : Clear l from end at) where
    -- up to the digit t of the rest
    clear_to : (t : ℕ) → at % 64 + t ≤ 64 → ((d : ℕ) → d < t → digit rest_of d ≡ 0) → Clear l from end (at + t)
    clear_to t h z i a b c = elim (dec_lt i at) [
      | yes k ↦ clear i a k c
      | no n ↦ let e : i ≡ at + (i - at) = omega arith in rw e (unmarked (i - at) (omega arith) (z (i - at) (omega arith)))
    ]

    pub clear_word : rest_of ≡ 0 → Clear l from end (64 * (at / 64) + 64)
    clear_word e =
        let q : 64 * (at / 64) + 64 ≡ at + (64 - at % 64) = omega arith in
        subst (Clear l from end) (sym q) (clear_to (64 - at % 64) (omega arith) (λ d h. ap (λ n. n / 2 ^ d % 2) e ∙ ap (λ n. n % 2) (zero-div (2 ^ d))))

    module _ (some : rest_of ≡ 0 → ⊥) (fits : get_or l (at / 64) 0 < 2 ^ 64) where
      abbrev first : ℕ
      first = count_trailing_zeros 64 rest_of

      odd : digit rest_of first ≡ 1
      odd = tz_odd 64 rest_of (pos_of rest_of some) (lt_of_le_of_lt (shr_le (get_or l (at / 64) 0) (at % 64)) fits)

      inside : at % 64 + first < 64
      inside = elim (dec_lt (at % 64 + first) 64) [
        | yes h ↦ h
        | no n ↦
            let k : 64 ≤ at % 64 + first = omega arith in
            let z : get_or l (at / 64) 0 / 2 ^ (at % 64 + first) ≡ 0 = less_div _ _ (lt_of_lt_of_le fits (pow-le-pow_right (zero-lt-suc 1) k)) in
            let o : get_or l (at / 64) 0 / 2 ^ (at % 64 + first) % 2 ≡ 1 = rw (← shr-shr (get_or l (at / 64) 0) (at % 64) first) odd in
            absurd (omega arith)
      ]

      pub first_small : at + first < 64 * (at / 64) + 64
      first_small = omega (arith, inside)

      clear_first : Clear l from end (at + first)
      clear_first = clear_to first (omega (arith, inside)) (λ d h. tz_even 64 rest_of d h)

      pub next_at : from ≤ at → from ≤ end → Next l from end (min end (at + first))
      next_at low h =
          record {
            low = omega arith;
            high = omega arith;
            clear = λ i a b. clear_first i a (omega arith) (omega arith);
            found = λ k. let e : min end (at + first) ≡ at + first = omega arith in rw e (in_word first inside ∙ ap (λ n. eqb n 1) odd);
          }

-- ---- four words of which none has a digit
or_zero : (a b : ℕ) → bit_or a b ≡ 0 → (a ≡ 0) × (b ≡ 0)
or_zero a b h = let s = or_add_and a b in let l = and_le_l a b in let r = and_le_r a b in (omega arith, omega arith)

word_clear : (l : List ℕ) (i : ℕ) → get_or l (i / 64) 0 ≡ 0 → marked l i ≡ false
unfolding marked
word_clear l i e = ap (λ n. eqb (n / 2 ^ (i % 64) % 2) 1) e ∙ ap (λ n. eqb (n % 2) 1) (zero-div (2 ^ (i % 64))) ∙ ne_eqb 0 1 (λ q. omega arith)

pub four_clear : (l : List ℕ) (from end : ℕ) → from % 64 ≡ 0 → from ≤ end → end ≤ from + 256
    → bit_or (bit_or (bit_or (get_or l (from / 64) 0) (get_or l (from / 64 + 1) 0)) (get_or l (from / 64 + 2) 0)) (get_or l (from / 64 + 3) 0) ≡ 0 → Next l from end end
four_clear l from end m low high z =
    let w = from / 64 in
    let p = or_zero (bit_or (bit_or (get_or l w 0) (get_or l (w + 1) 0)) (get_or l (w + 2) 0)) (get_or l (w + 3) 0) z in
    let q = or_zero (bit_or (get_or l w 0) (get_or l (w + 1) 0)) (get_or l (w + 2) 0) p.0 in
    let r = or_zero (get_or l w 0) (get_or l (w + 1) 0) q.0 in
    record { low = low; high = omega arith; clear = λ i a b. word_clear l i (pick i a b r.0 r.1 q.1 p.1); found = λ k. absurd (omega arith) }
  where
    pick : (i : ℕ) → from ≤ i → i < end → get_or l (from / 64) 0 ≡ 0 → get_or l (from / 64 + 1) 0 ≡ 0 → get_or l (from / 64 + 2) 0 ≡ 0 → get_or l (from / 64 + 3) 0 ≡ 0 → get_or l (i / 64) 0 ≡ 0
    pick i a b z0 z1 z2 z3 = elim (dec_lt i (from + 64)) [
      | yes h ↦ let e : i / 64 ≡ from / 64 = omega arith in rw e z0
      | no h ↦ elim (dec_lt i (from + 128)) [
        | yes k ↦ let e : i / 64 ≡ from / 64 + 1 = omega arith in rw e z1
        | no k ↦ elim (dec_lt i (from + 192)) [
          | yes j ↦ let e : i / 64 ≡ from / 64 + 2 = omega arith in rw e z2
          | no j ↦ let e : i / 64 ≡ from / 64 + 3 = omega arith in rw e z3
        ]
      ]
    ]
