-- Lists of crossings: what some columns cross, what stands behind what in the list, and where rows start.
use mathlib.Core.Path.{◌≡◌, refl, sym, ap, ◌∙◌}
use mathlib.Core.Bool.{Bool, true, false, cond}
use mathlib.Core.List.{List, [], ◌∷◌, ◌++◌, map, flat_map, map-append, append-nil, append_assoc}
use Prim.Native.Nat.{ℕ, ◌+◌, ◌-◌, ◌<◌, ◌≤◌}
use native.Mathlib.Decide.{dec_lt}
use native.Mathlib.Numerals.{add-one}
use native.Mathlib.Omega.{arith}
use lib.IntN.{ℤ, pos, nat_abs, ◌*ℤ◌, *ℤ-zero}
use lib.ListN.{length, get_or, take, drop, set, length-append, length-set, take-append-drop}
use lib.Seq.{take-suc, take-suc-set, get_or-set_same, get_or-set_other}
use Rattle.list_words.specs.Lists.{up_to, keep, nonzero}
use Rattle.list_words.proofs.Sums.{All}
use Rattle.list_words.proofs.UpTo.{flat_up_to_suc}
use Rattle.list_words.proofs.Places.{flat_up_to_add}
use Rattle.list_stores.proofs.Kept.{keep_append}
use Rattle.layouts.specs.Words.{packed, unpacked, Listing}
use Rattle.layouts.proofs.Packing.{column_packed, inclusion_packed}
use Rattle.crossing_rows.specs.Words.{crossing, Behind}

-- ---- what some columns cross
module _ (s : ℤ) (g : ℕ → ℤ) where
  pub crossing_skip : (c : ℕ) (l : List ℕ) → g c ≡ pos 0 → crossing s g (c ∷ l) ≡ crossing s g l
  unfolding keep
  crossing_skip c l e = rw (e, *ℤ-zero s)

  pub crossing_one : (c : ℕ) → nonzero (s *ℤ g c) ≡ true → crossing s g (c ∷ []) ≡ (c, s *ℤ g c) ∷ []
  unfolding keep
  crossing_one c e = rw e

  pub crossing_zero : (c : ℕ) → nonzero (s *ℤ g c) ≡ false → crossing s g (c ∷ []) ≡ []
  unfolding keep
  crossing_zero c e = rw e

  pub crossing_none : (l : List ℕ) → All (λ c. g c ≡ pos 0) l → crossing s g l ≡ []
  unfolding keep
  crossing_none [] h = refl
  crossing_none (c ∷ l) h = crossing_skip c l h.0 ∙ crossing_none l h.1

  pub crossing_keep : (p : ℕ → Bool) (l : List ℕ) → ((c : ℕ) → p c ≡ false → g c ≡ pos 0) → crossing s g (keep p l) ≡ crossing s g l
  unfolding keep
  crossing_keep p [] h = refl
  crossing_keep p (c ∷ l) h = go (p c) refl (crossing_keep p l h)
    where
      go : (w : Bool) → p c ≡ w → crossing s g (keep p l) ≡ crossing s g l → crossing s g (cond w (c ∷ keep p l) (keep p l)) ≡ crossing s g (c ∷ l)
      go true e ih = ap (λ r. cond (nonzero (s *ℤ g c)) ((c, s *ℤ g c) ∷ r) r) ih
      go false e ih = ih ∙ sym (crossing_skip c l (h c e))

  pub crossing_append : (l m : List ℕ) → crossing s g (l ++ m) ≡ crossing s g l ++ crossing s g m
  crossing_append l m =
      ap (keep (λ (x : ℕ × ℤ). nonzero x.1)) (map-append (λ c. (c, s *ℤ g c)) l m)
      ∙ keep_append (λ (x : ℕ × ℤ). nonzero x.1) (map (λ c. (c, s *ℤ g c)) l) (map (λ c. (c, s *ℤ g c)) m)

  -- one column more
  pub crossing_next : (l : List ℕ) (i : ℕ) → i < length l → crossing s g (take (i + 1) l) ≡ crossing s g (take i l) ++ crossing s g (get_or l i 0 ∷ [])
  crossing_next l i h = ap (crossing s g) (ap (λ n. take n l) (add-one i) ∙ take-suc l i 0 h) ∙ crossing_append (take i l) (get_or l i 0 ∷ [])

  pub crossing_within : (l : List ℕ) (i : ℕ) → length (crossing s g (take i l)) ≤ length (crossing s g l)
  crossing_within l i =
      omega (
        arith,
        length-append (crossing s g (take i l)) (crossing s g (drop i l)),
        ap length (crossing_append (take i l) (drop i l)),
        ap (λ l. length (crossing s g l)) (take-append-drop i l),
      )

-- ---- behind what is listed
pub behind_none : (l : List ℕ) (k : ℕ) → k ≤ length l → Behind l k [] l k
behind_none l k h = record { size = omega arith; room = h; front = sym (append-nil (map unpacked (take k l))) }

pub behind_then : {old mid new : List ℕ} {from k total : ℕ} {l m : List (ℕ × ℤ)} → Behind old from l mid k → Behind mid k m new total → Behind old from (l ++ m) new total
behind_then {old} {mid} {new} {from} {k} {total} {l} {m} h g =
    record {
      size = omega (arith, h.size, g.size, length-append l m);
      room = g.room;
      front = g.front ∙ ap (λ x. x ++ m) h.front ∙ append_assoc (map unpacked (take from old)) l m;
    }

pub behind_packed : (l : List ℕ) (k c : ℕ) (n : ℤ) → k < length l → nat_abs n ≤ 2 → nonzero n ≡ true → Behind l k ((c, n) ∷ []) (set l k (packed (c, n))) (k + 1)
behind_packed l k c n h small there =
    record {
      size = refl;
      room = omega (arith, length-set l k (packed (c, n)));
      front =
          ap (λ i. map unpacked (take i (set l k (packed (c, n))))) (add-one k) ∙ ap (map unpacked) (take-suc-set l k (packed (c, n)) h)
          ∙ map-append unpacked (take k l) (packed (c, n) ∷ [])
          ∙ rw (column_packed c n, inclusion_packed c n small there);
    }

-- ---- where rows start
module _ (row : ℕ → List (ℕ × ℤ)) where
  abbrev pub below : ℕ → List (ℕ × ℤ)
  below n = flat_map row (up_to n)

  pub below_next : (n : ℕ) → length (below (n + 1)) ≡ length (below n) + length (row n)
  below_next n = ap (λ i. length (below i)) (add-one n) ∙ ap length (flat_up_to_suc row n) ∙ length-append (below n) (row n)

  pub below_within : (m n : ℕ) → m ≤ n → length (below m) ≤ length (below n)
  below_within m n h =
      let e : m + (n - m) ≡ n = omega arith in
      let d = flat_map (λ i. row (m + i)) (up_to (n - m)) in
      omega (arith, ap (λ i. length (below i)) e, ap length (flat_up_to_add row m (n - m)), length-append (below m) d)

  pub listing_none : (first crossed : List ℕ) → 0 < length first → Listing row 0 (set first 0 0) crossed
  unfolding flat_map up_to
  listing_none first crossed h =
      record { starts = λ r l. let e : r ≡ 0 = omega arith in rw e (get_or-set_same first 0 0 0 h); room = omega arith; front = refl }

  pub listing_next : (n : ℕ) (first : List ℕ) {old new : List ℕ} {total : ℕ} {l : List (ℕ × ℤ)} → n + 1 < length first → l ≡ row n → Listing row n first old
      → Behind old (get_or first n 0) l new total → (total ≡ length (below (n + 1))) × Listing row (n + 1) (set first (n + 1) total) new
  listing_next n first {old} {new} {total} {l} room e h g =
      let size : total ≡ length (below (n + 1)) = omega (arith, g.size, ap length e, h.starts n (omega arith), below_next n) in
      let split : below (n + 1) ≡ below n ++ row n = ap below (add-one n) ∙ flat_up_to_suc row n in (
        size,
        record {
          starts = λ r m. elim (dec_lt r (n + 1)) [
            | yes q ↦ get_or-set_other first (n + 1) r total 0 (λ x. absurd (omega (arith, x))) ∙ h.starts r (omega arith)
            | no q ↦ let x : r ≡ n + 1 = omega arith in rw x (get_or-set_same first (n + 1) total 0 room ∙ size)
          ];
          room = omega (arith, size, g.room);
          front =
              ap (λ i. map unpacked (take i new)) (sym size) ∙ g.front
              ∙ ap (λ x. x ++ l) (ap (λ i. map unpacked (take i old)) (h.starts n (omega arith)) ∙ h.front) ∙ ap (λ x. below n ++ x) e ∙ sym split;
        },
      )
