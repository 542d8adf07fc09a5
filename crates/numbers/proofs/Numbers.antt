-- Numbers as bytes, there and back: a number that fits, the bytes themselves, and an f64 with every bit but a NaN's.
use mathlib.Core.Path.{◌≡◌, refl, sym, ap, ap₂, ◌∙◌, subst}
use mathlib.Core.Bool.{true, false}
use mathlib.Core.List.{List, [], ◌∷◌, ◌++◌, append_assoc, append-nil}
use Prim.Native.Nat.{ℕ, zero, suc, ◌+◌, ◌-◌, ◌*◌, ◌/◌, ◌%◌, ◌^◌, ◌<◌, ◌≤◌}
use native.Mathlib.Nat.{mod-lt, mod-add-div, lt_of_lt_of_le, pow-le-pow_right}
use native.Mathlib.Omega.{arith}
use lib.Dec.{lit<}
use lib.ListN.{length, set, take, drop, length-drop, length-append}
use Rattle.std.proofs.lemmas.List.{take_more_set}
use lib.Seq.{sets, take_all, take_at, drop_at, take-append-le, drop-append-le, length-take-le}
use lib.Ieee.{Float, nan, inf, fin, binary64, of_bits, to_bits, is_nan, div}
use lib.Ieee.Bits.{of_bits-to_bits, to_bits-lt, of_bits-fits, to_bits-of_bits}
use Rattle.list_words.proofs.Sums.{All, all_take, all_drop}
use Rattle.list_words.proofs.Tests.{never}
use Rattle.numbers.specs.Numbers.{Byte, F64, number, number_at, float_at, bytes, float_bytes}

-- ---- whole numbers
pub number_bytes : (n k : ℕ) → k < 256 ^ n → number (bytes n k) ≡ k
unfolding bytes number
number_bytes zero k h = omega arith
number_bytes (suc n) k h = ap (λ m. k % 256 + 256 * m) (number_bytes n (k / 256) (omega arith)) ∙ mod-add-div k 256

pub length_bytes : (n k : ℕ) → length (bytes n k) ≡ n
unfolding bytes
length_bytes zero k = refl
length_bytes (suc n) k = ap suc (length_bytes n (k / 256))

pub all_bytes : (n k : ℕ) → All Byte (bytes n k)
unfolding bytes
all_bytes zero k = tt
all_bytes (suc n) k = (mod-lt k (lit< tt), all_bytes n (k / 256))

grown : (n b k : ℕ) → b < 256 → k < 256 ^ n → b + 256 * k < 256 ^ suc n
grown n b k h l = omega arith

pub number_lt : (bs : List ℕ) → All Byte bs → number bs < 256 ^ length bs
unfolding number
number_lt [] a = lit< tt
number_lt (b ∷ bs) a = grown (length bs) b (number bs) a.0 (number_lt bs a.1)

pub bytes_number : (bs : List ℕ) → All Byte bs → bytes (length bs) (number bs) ≡ bs
unfolding number bytes
bytes_number [] a = refl
bytes_number (b ∷ bs) a =
    let h : b < 256 = a.0 in
    let low : (b + 256 * number bs) % 256 ≡ b = omega arith in
    let high : (b + 256 * number bs) / 256 ≡ number bs = omega arith in
    ap₂ ◌∷◌ low (ap (bytes (length bs)) high ∙ bytes_number bs a.1)

-- ---- in a list of bytes

-- the n bytes from place i on are not changed by what stands behind them
pub part_front : (i n : ℕ) (bs rest : List ℕ) → i + n ≤ length bs → take n (drop i (bs ++ rest)) ≡ take n (drop i bs)
part_front i n bs rest h =
    let a : i ≤ length bs = omega arith in
    let b : n ≤ length (drop i bs) = rw length-drop (omega arith) in
    rw (drop-append-le i bs rest a) (take-append-le n (drop i bs) rest b)

pub length_part : (i n : ℕ) (bs : List ℕ) → i + n ≤ length bs → length (take n (drop i bs)) ≡ n
length_part i n bs h = length-take-le n (drop i bs) (rw length-drop (omega arith))

-- a number's bytes, with anything in front and behind
pub number_there : (i n k : ℕ) (front rest : List ℕ) → length front ≡ i → k < 256 ^ n → number_at i n (front ++ (bytes n k ++ rest)) ≡ k
unfolding number_at
number_there i n k front rest l h =
    ap number (ap (take n) (drop_at front (bytes n k ++ rest) i l) ∙ take_at (bytes n k) rest n (length_bytes n k)) ∙ number_bytes n k h

pub number_front : (i n : ℕ) (bs rest : List ℕ) → i + n ≤ length bs → number_at i n (bs ++ rest) ≡ number_at i n bs
unfolding number_at
number_front i n bs rest h = ap number (part_front i n bs rest h)

pub float_front : (i : ℕ) (bs rest : List ℕ) → i + 8 ≤ length bs → float_at i (bs ++ rest) ≡ float_at i bs
unfolding float_at
float_front i bs rest h = ap (of_bits binary64) (number_front i 8 bs rest h)

pub number_at_lt : (i n : ℕ) (bs : List ℕ) → All Byte bs → i + n ≤ length bs → number_at i n bs < 256 ^ n
unfolding number_at
number_at_lt i n bs a h =
    subst (λ k. number (take n (drop i bs)) < 256 ^ k) (length_part i n bs h)
    (number_lt (take n (drop i bs)) (all_take Byte n (drop i bs) (all_drop Byte i bs a)))

pub bytes_at : (i n : ℕ) (bs : List ℕ) → All Byte bs → i + n ≤ length bs → bytes n (number_at i n bs) ≡ take n (drop i bs)
unfolding number_at
bytes_at i n bs a h =
    subst (λ k. bytes k (number (take n (drop i bs))) ≡ take n (drop i bs)) (length_part i n bs h)
    (bytes_number (take n (drop i bs)) (all_take Byte n (drop i bs) (all_drop Byte i bs a)))

-- up to 8 bytes
pub fits_8 : (n : ℕ) {k : ℕ} → n ≤ 8 → k < 256 ^ n → k < 2 ^ 64
fits_8 n {k} h l = lt_of_lt_of_le l (pow-le-pow_right (lit< tt) h)

-- ---- read from the last byte to the first
-- the number of some bytes with a number behind them
unfoldable pub behind : List ℕ → ℕ → ℕ
behind [] k = k
behind (b ∷ bs) k = b + 256 * behind bs k

behind_none : (bs : List ℕ) → behind bs 0 ≡ number bs
unfolding behind number
behind_none [] = refl
behind_none (b ∷ bs) = ap (λ k. b + 256 * k) (behind_none bs)

behind_last : (bs : List ℕ) (b k : ℕ) → behind (bs ++ (b ∷ [])) k ≡ behind bs (b + 256 * k)
unfolding behind
behind_last [] b k = refl
behind_last (x ∷ bs) b k = ap (λ m. x + 256 * m) (behind_last bs b k)

-- of the n bytes from place at on, `rest` is left to read, and what was read behind it gives k
pub record Read (at n : ℕ) (bs rest : List ℕ) (k : ℕ) : Type 0 where
  pub within : length rest ≤ n
  pub small : k < 256 ^ (n - length rest)
  pub value : behind rest k ≡ number_at at n bs

module _ (at n : ℕ) (bs : List ℕ) where
  pub read_none : (rest : List ℕ) → at + n ≤ length bs → rest ≡ take (at + n - at) (drop at bs) → Read at n bs rest 0
  unfolding number_at
  read_none rest h e =
      let m : at + n - at ≡ n = omega arith in
      let f : rest ≡ take n (drop at bs) = e ∙ ap (λ k. take k (drop at bs)) m in
      let g : n - length rest ≡ 0 = omega (arith, ap length f, length_part at n bs h) in
      record { within = omega (arith, ap length f, length_part at n bs h); small = rw g (lit< tt); value = behind_none rest ∙ ap number f }

  module _ {rest : List ℕ} {k : ℕ} (r : Read at n bs rest k) where
    pub read_next : (left : List ℕ) (b : ℕ) → b < 256 → rest ≡ left ++ (b ∷ []) → Read at n bs left (b + 256 * k)
    read_next left b h e =
        let m = ap length e ∙ length-append left (b ∷ []) in
        let d : n - length left ≡ suc (n - length rest) = omega (arith, r.within) in
        record { within = omega (arith, r.within); small = rw d (grown (n - length rest) b k h r.small); value = sym (behind_last left b k) ∙ ap (λ l. behind l k) (sym e) ∙ r.value }

    pub read_fits : (left : List ℕ) (b : ℕ) → b < 256 → rest ≡ left ++ (b ∷ []) → n ≤ 8 → b + 256 * k < 2 ^ 64
    read_fits left b h e few = fits_8 (n - length left) (omega arith) (read_next left b h e).small

  pub read_all : (rest : List ℕ) {k : ℕ} → Read at n bs rest k → length rest ≡ 0 → (k ≡ number_at at n bs) × (k < 256 ^ n)
  unfolding behind
  read_all [] r e = (r.value, let h : n - 0 ≡ n = omega arith in rw h at r.small)
  read_all (b ∷ l) r e = absurd (omega arith)

-- ---- stored from the first byte to the last: what is left to store
-- in a list of any length, from place at on
module _ (l : List ℕ) (at n i rest : ℕ) where
  pub left_to_store : i < n → sets (set l (at + i) (rest % 256)) (at + (i + 1)) (bytes (n - (i + 1)) (rest / 256)) ≡ sets l (at + i) (bytes (n - i) rest)
  unfolding bytes
  left_to_store h =
      let e : n - i ≡ suc (n - (i + 1)) = omega arith in
      let f : at + (i + 1) ≡ suc (at + i) = omega arith in
      rw (e, f)

  pub all_stored : n ≤ i → sets l (at + i) (bytes (n - i) rest) ≡ l
  unfolding bytes
  all_stored h = let e : n - i ≡ 0 = omega arith in rw e

-- in a part of n bytes
pub left_to_put : (l : List ℕ) (n i rest : ℕ) → i < n → length l ≡ n
    → take (i + 1) (set l i (rest % 256)) ++ bytes (n - (i + 1)) (rest / 256) ≡ take i l ++ bytes (n - i) rest
unfolding bytes
left_to_put l n i rest h e =
    let f : n - i ≡ suc (n - (i + 1)) = omega arith in
    rw (f, take_more_set l i (rest % 256) (omega arith)) (append_assoc (take i l) (rest % 256 ∷ []) (bytes (n - (i + 1)) (rest / 256)))

pub all_put : (l : List ℕ) (n i rest : ℕ) → n ≤ i → length l ≡ n → take i l ++ bytes (n - i) rest ≡ l
unfolding bytes
all_put l n i rest h e = let f : n - i ≡ 0 = omega arith in rw (f, take_all i l (omega arith)) (append-nil l)

-- ---- f64
pub length_float_bytes : (x : Float) → length (float_bytes x) ≡ 8
unfolding float_bytes
length_float_bytes x = length_bytes 8 _

pub all_float_bytes : (x : Float) → All Byte (float_bytes x)
unfolding float_bytes
all_float_bytes x = all_bytes 8 _

-- Reading an f64's bytes gives the f64, sign of zero and all. Of the NaN too, of which there is one.
pub float_there : (i : ℕ) (x : Float) (front rest : List ℕ) → length front ≡ i → F64 x → float_at i (front ++ (float_bytes x ++ rest)) ≡ x
unfolding float_at float_bytes
float_there i x front rest l h =
    ap (of_bits binary64) (number_there i 8 (to_bits binary64 x) front rest l (to_bits-lt binary64 x h)) ∙ of_bits-to_bits binary64 x h

-- there is one NaN
pub the_nan : (x : Float) → is_nan x ≡ true → x ≡ nan
unfolding is_nan
the_nan nan e = refl
the_nan (inf s) e = absurd (never (is_nan (inf s)) e refl)
the_nan (fin s m k) e = absurd (never (is_nan (fin s m k)) e refl)

pub zero_by_zero : div binary64 (of_bits binary64 0) (of_bits binary64 0) ≡ nan
unfolding of_bits div
zero_by_zero = refl

pub float_fits : (i : ℕ) (bs : List ℕ) → F64 (float_at i bs)
unfolding float_at
float_fits i bs = of_bits-fits binary64 (number_at i 8 bs)

-- Writing what was read from 8 bytes gives those bytes, unless they are a NaN's.
pub float_bytes_at : (i : ℕ) (bs : List ℕ) → All Byte bs → i + 8 ≤ length bs → is_nan (float_at i bs) ≡ false
    → float_bytes (float_at i bs) ≡ take 8 (drop i bs)
unfolding float_at float_bytes
float_bytes_at i bs a h e =
    ap (bytes 8) (to_bits-of_bits binary64 (number_at i 8 bs) (number_at_lt i 8 bs a h) (rw e tt)) ∙ bytes_at i 8 bs a h
