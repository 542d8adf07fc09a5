-- Pieces as numbers of a list: lists of pieces one behind the other, and the pieces read back.
use mathlib.Core.Path.{◌≡◌, refl, sym, ap, ◌∙◌}
use mathlib.Core.List.{List, [], ◌∷◌, ◌++◌, flat_map, append_assoc, append-nil}
use Prim.Native.Nat.{ℕ, zero, suc, ◌+◌, ◌*◌, ◌/◌, ◌<◌, ◌≤◌}
use native.Mathlib.Nat.{add-zero}
use native.Mathlib.Omega.{arith}
use native.Mathlib.Decide.{dec_lt}
use lib.ListN.{length, get_or, take, length-append}
use lib.Seq.{take-suc}
use Rattle.list_words.specs.Lists.{up_to}
use Rattle.list_words.proofs.Sums.{flat_append}
use Rattle.list_words.proofs.UpTo.{map_up_to_suc, flat_up_to_suc}
use Rattle.solids.specs.Solids.{Half}
use Rattle.joined_ends.specs.Words.{flat, firsts, Behind}

-- ---- numbers of pieces
pub numbers_append : (xs ys : List Half) → flat (xs ++ ys) ≡ flat xs ++ flat ys
unfolding flat
numbers_append xs ys = flat_append (λ (h : Half). h.0 ∷ h.1 ∷ []) xs ys

pub two_each : (hs : List Half) → length (flat hs) ≡ 2 * length hs
unfolding flat flat_map
two_each [] = refl
two_each (h ∷ hs) = omega (arith, two_each hs)

pub length_numbers : (xs ys : List Half) → length (flat (xs ++ ys)) ≡ length (flat xs) + length (flat ys)
length_numbers xs ys = ap length (numbers_append xs ys) ∙ length-append (flat xs) (flat ys)

-- what the next of m lists needs is there, if there is room for all
pub room_next : (f : ℕ → List Half) (i m : ℕ) → i < m → length (flat (flat_map f (up_to i))) + length (flat (f i)) ≤ length (flat (flat_map f (up_to m)))
room_next f i zero h = absurd (omega arith)
room_next f i (suc m) h =
    let e = ap (λ hs. length (flat hs)) (flat_up_to_suc f m) ∙ length_numbers (flat_map f (up_to m)) (f m) in
    elim (dec_lt i m) [ yes l ↦ omega (arith, e, room_next f i m l) | no n ↦ let q : i ≡ m = omega arith in rw q (omega (arith, e)) ]

-- ---- one behind the other
pub behind_none : (l : List ℕ) (at : ℕ) → Behind (flat []) l at l at
unfolding flat flat_map
behind_none l at = record { front = sym (append-nil (take at l)); next = sym (add-zero at) }

pub behind_more : (xs ys : List Half) {old l l' : List ℕ} {at r r' : ℕ} → Behind (flat xs) old at l r → Behind (flat ys) l r l' r' → Behind (flat (xs ++ ys)) old at l' r'
behind_more xs ys {old} {l} {l'} {at} {r} {r'} a b =
    rw (numbers_append xs ys) (record {
      front = b.front ∙ rw (a.front, append_assoc (take at old) (flat xs) (flat ys));
      next = rw (length-append (flat xs) (flat ys)) (omega (arith, a.next, b.next));
    })

-- ---- read back
pub firsts_next : (l : List ℕ) (n : ℕ) → firsts l (suc n) ≡ firsts l n ++ ((get_or l (2 * n) 0, get_or l (2 * n + 1) 0) ∷ [])
unfolding firsts
firsts_next l n = map_up_to_suc (λ i. (get_or l (2 * i) 0, get_or l (2 * i + 1) 0)) n

pub numbers_firsts : (l : List ℕ) (n : ℕ) → 2 * n ≤ length l → flat (firsts l n) ≡ take (2 * n) l
unfolding flat firsts flat_map up_to
numbers_firsts l zero h = refl
numbers_firsts l (suc n) h =
    let e : 2 * suc n ≡ suc (suc (2 * n)) = omega arith in
    let d : 2 * n + 1 ≡ suc (2 * n) = omega arith in
    ap flat (firsts_next l n) ∙ numbers_append (firsts l n) ((get_or l (2 * n) 0, get_or l (2 * n + 1) 0) ∷ [])
    ∙ rw (e, d, take-suc l (suc (2 * n)) 0 (omega arith), take-suc l (2 * n) 0 (omega arith), append_assoc, numbers_firsts l n (omega arith))

same_numbers : (xs ys : List Half) → flat xs ≡ flat ys → xs ≡ ys
unfolding flat flat_map
same_numbers [] [] e = refl
same_numbers [] (y ∷ ys) e = absurd (omega (arith, ap length e))
same_numbers (x ∷ xs) [] e = absurd (omega (arith, ap length e))
same_numbers (x ∷ xs) (y ∷ ys) e =
    let p : x.0 ≡ y.0 = ap (λ l. get_or l 0 0) e in
    let q : x.1 ≡ y.1 = ap (λ l. get_or l 1 0) e in
    let r = same_numbers xs ys (cc) in
    λ j. (p j, q j) ∷ r j

-- the pieces that stand in the front of a list
pub firsts_behind : (hs : List Half) (old l : List ℕ) (m : ℕ) → m ≤ length l → Behind (flat hs) old 0 l m → (firsts l (m / 2) ≡ hs) × (m / 2 ≡ length hs)
firsts_behind hs old l m h b =
    let n : m / 2 ≡ length hs = omega (arith, b.next, two_each hs) in
    let e : 2 * (m / 2) ≡ m = omega (arith, b.next, two_each hs) in
    (same_numbers (firsts l (m / 2)) hs (numbers_firsts l (m / 2) (omega arith) ∙ ap (λ k. take k l) e ∙ b.front), n)
