-- Runs of stores: one run behind another, runs of one length, one for each turn of a loop, and what is left to store at each turn. So a loop's list, with what
-- is left stored into it, is the list that the whole run gives.
use mathlib.Core.Path.{◌≡◌, refl, sym, ap, ap₂, ◌∙◌}
use mathlib.Core.List.{List, [], ◌∷◌, ◌++◌, append_assoc, flat_map}
use Prim.Native.Nat.{ℕ, zero, suc, ◌+◌, ◌*◌, ◌-◌, ◌<◌, ◌≤◌}
use native.Mathlib.Nat.{add-zero, zero-add, mul-zero, mul-suc}
use native.Mathlib.Numerals.{add-one}
use native.Mathlib.Omega.{arith}
use lib.ListN.{take, length, get_or, set, drop, length-set, length-append, drop_of_length-le}
use borrow.Rule.Slice.PartMut.{put_mid, Post-is}
use lib.Seq.{sets, sets-eq, drop-cons}
use Rattle.list_words.specs.Lists.{up_to, onto}
use Rattle.list_words.proofs.UpTo.{flat_up_to_suc}

module _ {A : Type 0} where
  pub sets_append : (l : List A) (i : ℕ) (vs ws : List A) → sets (sets l i vs) (i + length vs) ws ≡ sets l i (vs ++ ws)
  sets_append l i [] ws = ap (λ k. sets l k ws) (add-zero i)
  sets_append l i (a ∷ vs) ws =
      let e : i + suc (length vs) ≡ suc i + length vs = omega arith in
      ap (λ k. sets (sets (set l i a) (suc i) vs) k ws) e ∙ sets_append (set l i a) (suc i) vs ws

  pub sets_onto : (l vs : List A) → length vs ≤ length l → sets l 0 vs ≡ onto vs l
  sets_onto l vs h = sets-eq vs l 0 (omega arith) ∙ ap (λ k. vs ++ drop k l) (zero-add (length vs))

  -- a part written anew
  pub sets_part : (l vs : List A) (at n : ℕ) → at + n ≤ length l → length vs ≡ n → put_mid at (at + n - at) l vs ≡ sets l at vs
  sets_part l vs at n h e =
      let m : at + n ≡ at + length vs = omega arith in
      ap (λ k. take at l ++ (vs ++ k)) (Post-is at (at + n) l (omega arith) ∙ ap (λ k. drop k l) m) ∙ sym (append_assoc (take at l) vs (drop (at + length vs) l)) ∙ sym (sets-eq vs l at (omega arith))

  -- a run behind a front
  pub onto_append : (l vs ws : List A) → length vs + length ws ≤ length l → sets (onto vs l) (length vs) ws ≡ onto (vs ++ ws) l
  onto_append l vs ws h =
      ap (λ k. sets k (length vs) ws) (sym (sets_onto l vs (omega arith))) ∙ ap (λ k. sets (sets l 0 vs) k ws) (sym (zero-add (length vs)))
      ∙ sets_append l 0 vs ws ∙ sets_onto l (vs ++ ws) (omega (arith, length-append vs ws))

  -- three runs and four, each where the one before it ended
  pub sets_three : (l : List A) (at i j : ℕ) (a b c : List A) → at + length a ≡ i → i + length b ≡ j
      → sets (sets (sets l at a) i b) j c ≡ sets l at (a ++ (b ++ c))
  sets_three l at i j a b c e f =
      rw (← f, ← e) (sets_append (sets l at a) (at + length a) b c ∙ sets_append l at a (b ++ c))

  pub sets_four : (l : List A) (at i j k : ℕ) (m a b c : List A) → at + length m ≡ i → i + length a ≡ j → j + length b ≡ k
      → sets (sets (sets (sets l at m) i a) j b) k c ≡ sets l at (m ++ (a ++ (b ++ c)))
  sets_four l at i j k m a b c e f g = sets_three (sets l at m) i j k a b c f g ∙ rw (← e) (sets_append l at m (a ++ (b ++ c)))

  -- three stores
  pub three_stores : (l : List A) (at : ℕ) (a b c : A) → set (set (set l at a) (at + 1) b) (at + 2) c ≡ sets l at (a ∷ b ∷ c ∷ [])
  three_stores l at a b c = rw (add-one at, two at)
    where
      two : (n : ℕ) → n + 2 ≡ suc (suc n)
      two n = omega arith

  -- ---- runs of one length, one for each number
  module _ (g : ℕ → List A) (k : ℕ) (even : (i : ℕ) → length (g i) ≡ k) where
    pub length_run : (n : ℕ) → length (flat_map g (up_to n)) ≡ k * n
    unfolding up_to flat_map
    length_run zero = sym (mul-zero k)
    length_run (suc n) =
        ap length (flat_up_to_suc g n) ∙ length-append (flat_map g (up_to n)) (g n)
        ∙ ap₂ ◌+◌ (length_run n) (even n) ∙ sym (mul-suc k n)

    pub run_next : (l : List A) (at n : ℕ) → sets (sets l at (flat_map g (up_to n))) (at + k * n) (g n) ≡ sets l at (flat_map g (up_to (n + 1)))
    run_next l at n = rw (add-one n, flat_up_to_suc g n, ← length_run n) (sets_append l at (flat_map g (up_to n)) (g n))

  -- ---- a list that is copied, element by element: those below i are there, and storing the others gives the whole copy
  pub record Copied (from old new : List A) (i : ℕ) : Type 0 where
    pub within : i ≤ length from
    pub long : length new ≡ length old
    pub left : sets new i (drop i from) ≡ sets old 0 from

  pub copied_none : (from old : List A) → Copied from old old 0
  copied_none from old = record { within = omega arith; long = refl; left = refl }

  module _ {from old new : List A} {i : ℕ} (g : Copied from old new i) where
    pub copied_next : (d : A) → i < length from → Copied from old (set new i (get_or from i d)) (i + 1)
    copied_next d h = record {
      within = omega arith;
      long = length-set new i (get_or from i d) ∙ g.long;
      left = rw (add-one i) (ap (sets new i) (sym (drop-cons from i d h)) ∙ g.left);
    }

    pub copied_all : length from ≤ i → length from ≤ length old → new ≡ onto from old
    copied_all h k = ap (sets new i) (sym (drop_of_length-le from h)) ∙ g.left ∙ sets_onto old from k
