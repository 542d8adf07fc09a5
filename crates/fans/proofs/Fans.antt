-- The fan over the pieces of a list, and triangles stored one behind the other.
use mathlib.Core.Path.{◌≡◌, refl, sym, ap, ◌∙◌}
use mathlib.Core.Bool.{Bool, not}
use mathlib.Core.List.{List, [], ◌∷◌, ◌++◌, flat_map, map-append}
use Prim.Native.Nat.{ℕ, zero, suc, ◌+◌, ◌*◌, ◌<◌, ◌≤◌}
use native.Mathlib.Nat.{add-zero}
use native.Mathlib.Numerals.{add-one}
use native.Mathlib.Omega.{arith}
use borrow.Author.Tests.{eq-eqb, ne_eqb}
use lib.ListN.{length, get_or, take, set, length-append, length-map}
use lib.Seq.{sets}
use Rattle.list_words.specs.Lists.{up_to, keep, least, onto}
use Rattle.list_words.proofs.Sums.{flat_append}
use Rattle.list_words.proofs.UpTo.{length_up_to}
use Rattle.list_words.proofs.Threes.{length_threes}
use Rattle.list_stores.proofs.Kept.{keep_append}
use Rattle.list_stores.proofs.Stores.{sets_append, sets_onto}
use Rattle.solids.specs.Solids.{Half}
use Rattle.results.specs.Triangles.{Triangle, smallest, at_end, fan, corners_of}
use Rattle.joined_ends.specs.Words.{flat, firsts}
use Rattle.joined_ends.proofs.Flat.{firsts_next, numbers_firsts}
use Rattle.fans.specs.Words.{fan_at, origins_of, Laid}

-- ---- the smallest number on a boundary
smallest_number : (hs : List Half) → 0 < length hs → smallest hs ≡ least (get_or (flat hs) 0 0) (flat hs)
unfolding smallest flat flat_map
smallest_number [] h = absurd (omega arith)
smallest_number (x ∷ hs) h = refl

length_firsts : (l : List ℕ) (n : ℕ) → length (firsts l n) ≡ n
unfolding firsts
length_firsts l n = length-map (up_to n) (λ i. (get_or l (2 * i) 0, get_or l (2 * i + 1) 0)) ∙ length_up_to n

smallest_firsts : (l : List ℕ) (n : ℕ) → 0 < n → 2 * n ≤ length l → smallest (firsts l n) ≡ least (get_or (take (2 * n) l) 0 0) (take (2 * n) l)
smallest_firsts l n h k = smallest_number (firsts l n) (omega (arith, length_firsts l n)) ∙ rw (numbers_firsts l n k)

-- ---- the fan
pub fan_none : (o : ℕ) (l : List ℕ) (n : ℕ) → n ≡ 0 → fan o (firsts l n) ≡ []
unfolding fan firsts up_to keep
fan_none o l n e = rw e

pub fan_start : (o a : ℕ) (l : List ℕ) → fan_at o a (firsts l 0) ≡ []
unfolding fan_at firsts up_to keep
fan_start o a l = refl

-- from the smallest number; of no pieces it is the same from any
pub fan_first : (o a : ℕ) (l : List ℕ) (n : ℕ) → 2 * n ≤ length l → a ≡ least (get_or (take (2 * n) l) 0 0) (take (2 * n) l) → fan o (firsts l n) ≡ fan_at o a (firsts l n)
unfolding fan fan_at
fan_first o a l zero k e = fan_none o l 0 refl ∙ sym (fan_start o a l)
fan_first o a l (suc n) k e = ap (λ b. fan_at o b (firsts l (suc n))) (smallest_firsts l (suc n) (omega arith) k ∙ sym e)

fan_append : (o a : ℕ) (xs ys : List Half) → fan_at o a (xs ++ ys) ≡ fan_at o a xs ++ fan_at o a ys
unfolding fan_at
fan_append o a xs ys =
    let p : Half → Bool = λ h. not (at_end a h) in
    rw (keep_append p xs ys) (map-append (λ (h : Half). record { a = a; p = h.0; q = h.1; origin = o }) (keep p xs) (keep p ys))

pub fan_next : (o a : ℕ) (l : List ℕ) (i : ℕ) → fan_at o a (firsts l (i + 1)) ≡ fan_at o a (firsts l i) ++ fan_at o a ((get_or l (2 * i) 0, get_or l (2 * i + 1) 0) ∷ [])
fan_next o a l i = rw (add-one i, firsts_next l i) (fan_append o a (firsts l i) ((get_or l (2 * i) 0, get_or l (2 * i + 1) 0) ∷ []))

module _ (o a p q : ℕ) where
  pub fan_at_p : a ≡ p → fan_at o a ((p, q) ∷ []) ≡ []
  unfolding fan_at keep
  fan_at_p e = rw (eq-eqb _ _ e)

  pub fan_at_q : (a ≡ p → ⊥) → a ≡ q → fan_at o a ((p, q) ∷ []) ≡ []
  unfolding fan_at keep
  fan_at_q n e = rw (ne_eqb _ _ n, eq-eqb _ _ e)

  pub fan_apart : (a ≡ p → ⊥) → (a ≡ q → ⊥) → fan_at o a ((p, q) ∷ []) ≡ record { a = a; p = p; q = q; origin = o } ∷ []
  unfolding fan_at keep
  fan_apart n m = rw (ne_eqb _ _ n, ne_eqb _ _ m)

-- ---- one behind the other
pub three_each : (ts : List Triangle) → length (flat_map corners_of ts) ≡ 3 * length ts
three_each ts = length_threes (λ (t : Triangle). t.a) (λ (t : Triangle). t.p) (λ (t : Triangle). t.q) ts

pub one_each : (ts : List Triangle) → length (origins_of ts) ≡ length ts
one_each ts = length-map ts (λ (t : Triangle). t.origin)

pub laid_none : (cs os : List ℕ) (k : ℕ) → Laid [] cs os k cs os k
unfolding flat_map
laid_none cs os k = record { corners = refl; origins = refl; count = sym (add-zero k) }

pub laid_one : (o a p q : ℕ) (cs os : List ℕ) (k : ℕ) {cs' os' : List ℕ} → cs' ≡ sets cs (3 * k) (a ∷ p ∷ q ∷ []) → os' ≡ set os k o
    → Laid (record { a = a; p = p; q = q; origin = o } ∷ []) cs os k cs' os' (k + 1)
unfolding flat_map
laid_one o a p q cs os k c d = record { corners = c; origins = d; count = refl }

pub laid_more : {ts us : List Triangle} {cs₀ os₀ cs os cs' os' : List ℕ} {k₀ k k' : ℕ} → Laid ts cs₀ os₀ k₀ cs os k → Laid us cs os k cs' os' k' → Laid (ts ++ us) cs₀ os₀ k₀ cs' os' k'
laid_more {ts} {us} {cs₀} {os₀} {cs} {os} {cs'} {os'} {k₀} {k} {k'} a b =
    let e : 3 * k ≡ 3 * k₀ + length (flat_map corners_of ts) = omega (arith, three_each ts, a.count) in
    let d : k ≡ k₀ + length (origins_of ts) = omega (arith, one_each ts, a.count) in
    record {
      corners = b.corners ∙ rw (e, a.corners, flat_append corners_of ts us) (sets_append cs₀ (3 * k₀) (flat_map corners_of ts) (flat_map corners_of us));
      origins =
          b.origins ∙ rw (map-append (λ (t : Triangle). t.origin) ts us, a.origins)
          (ap (λ m. sets (sets os₀ k₀ (origins_of ts)) m (origins_of us)) d ∙ sets_append os₀ k₀ (origins_of ts) (origins_of us));
      count = rw length-append (omega (arith, a.count, b.count));
    }

module _ {ts : List Triangle} {cs₀ os₀ cs os : List ℕ} {k : ℕ} where
  -- where there is room, the fronts hold the triangles, and everything behind is as before
  pub laid_onto : Laid ts cs₀ os₀ 0 cs os k → 3 * k ≤ length cs₀ → k ≤ length os₀ → (cs ≡ onto (flat_map corners_of ts) cs₀) × (os ≡ onto (origins_of ts) os₀)
  laid_onto a h g =
      let x = three_each ts in
      let y = one_each ts in
      let n = a.count in
      (a.corners ∙ sets_onto cs₀ (flat_map corners_of ts) (omega arith), a.origins ∙ sets_onto os₀ (origins_of ts) (omega arith))
