-- Boxes in a list, six numbers each: what is stored stands there, and the boxes before it stay. Columns: those that are near a box.
use mathlib.Core.Path.{◌≡◌, refl, sym, ap, ap₂, ◌∙◌}
use mathlib.Core.Bool.{Bool, true, false, not, cond}
use mathlib.Core.List.{List, [], ◌∷◌, ◌++◌, append-nil}
use Prim.Native.Nat.{ℕ, zero, suc, ◌+◌, ◌*◌, ◌<◌, ◌≤◌}
use native.Mathlib.Omega.{arith}
use native.Mathlib.Decide.{dec_lt}
use native.Mathlib.Nat.{add-zero}
use native.Mathlib.Numerals.{add-one}
use lib.ListN.{length, get_or, take, set, length-set, length-append}
use lib.Seq.{sets, get_or-set_same, get_or-set_other, take-suc-set, length-take-le}
use lib.Ieee.{Float, nan}
use Rattle.list_words.specs.Lists.{up_to, keep}
use Rattle.list_words.proofs.Places.{all_get_d}
use Rattle.list_words.proofs.Sums.{All}
use Rattle.list_words.proofs.Tests.{all_keep}
use Rattle.list_words.proofs.UpTo.{all_up_to, length_up_to}
use Rattle.list_stores.proofs.Kept.{keep_append}
use Rattle.solids.specs.Solids.{Solid}
use Rattle.bounds.specs.declared.Bounds.{Bounds}
use Rattle.bounds.specs.declared.Far.{Far}
use Rattle.bounds.specs.declared.Thing.{Thing}
use Rattle.bounds.specs.Words.{far, many, box_of, six, box_at, Boxed, Among, near_to, Narrowed}

module _ {A : Type 0} where
  pub sets_below : (l : List A) (at : ℕ) (vs : List A) (k : ℕ) (d : A) → k < at → get_or (sets l at vs) k d ≡ get_or l k d
  sets_below l at [] k d h = refl
  sets_below l at (v ∷ vs) k d h = sets_below (set l at v) (suc at) vs k d (omega arith) ∙ get_or-set_other l at k v d (λ e. absurd (omega (arith, e)))

  pub sets_inside : (l : List A) (at : ℕ) (vs : List A) (k : ℕ) (d : A) → at + length vs ≤ length l → k < length vs → get_or (sets l at vs) (at + k) d ≡ get_or vs k d
  sets_inside l at [] k d r h = absurd (omega arith)
  sets_inside l at (v ∷ vs) zero d r h = rw (add-zero at) (sets_below (set l at v) (suc at) vs at d (omega arith) ∙ get_or-set_same l at v d (omega arith))
  sets_inside l at (v ∷ vs) (suc k) d r h =
      let e : at + suc k ≡ suc at + k = omega arith in
      rw e (sets_inside (set l at v) (suc at) vs k d (omega (arith, length-set l at v)) (omega arith))

module _ (l : List Float) (b : Bounds) (i : ℕ) (room : 6 * i + 6 ≤ length l) where
  stored : (k : ℕ) → k < 6 → get_or (sets l (6 * i) (six b)) (6 * i + k) nan ≡ get_or (six b) k nan
  stored k h = sets_inside l (6 * i) (six b) k nan (omega arith) h

  pub box_put : box_at (sets l (6 * i) (six b)) i ≡ b
  box_put =
      let e : 6 * i ≡ 6 * i + 0 = omega arith in
      let x : get_or (sets l (6 * i) (six b)) (6 * i) nan ≡ b.low.x = ap (λ n. get_or (sets l (6 * i) (six b)) n nan) e ∙ stored 0 (omega arith) in
      λ j. record {
        low = record { x = x j; y = stored 1 (omega arith) j; z = stored 2 (omega arith) j };
        high = record { x = stored 3 (omega arith) j; y = stored 4 (omega arith) j; z = stored 5 (omega arith) j };
      }

  pub box_kept : (k : ℕ) → k < i → box_at (sets l (6 * i) (six b)) k ≡ box_at l k
  box_kept k h =
      let at : (n : ℕ) → n < 6 → get_or (sets l (6 * i) (six b)) (6 * k + n) nan ≡ get_or l (6 * k + n) nan = λ n m. sets_below l (6 * i) (six b) (6 * k + n) nan (omega arith) in
      λ j. record {
        low = record { x = sets_below l (6 * i) (six b) (6 * k) nan (omega arith) j; y = at 1 (omega arith) j; z = at 2 (omega arith) j };
        high = record { x = at 3 (omega arith) j; y = at 4 (omega arith) j; z = at 5 (omega arith) j };
      }

  -- one more box
  pub boxed_next : (box : ℕ → Bounds) (new : List Float) → new ≡ sets l (6 * i) (six b) → b ≡ box i → ((c : ℕ) → c < i → box_at l c ≡ box c) → (c : ℕ) → c < i + 1
      → box_at new c ≡ box c
  boxed_next box new e d h c m = elim (dec_lt c i) [
    | yes q ↦ ap (λ l. box_at l c) e ∙ box_kept c q ∙ h c q
    | no q ↦ let x : c ≡ i = omega arith in rw x (ap (λ l. box_at l i) e ∙ box_put ∙ d)
  ]

-- ---- columns that are near a box
module _ (w : Far) (b : Bounds) (box : ℕ → Bounds) where
  near_next : (columns : List ℕ) (c : ℕ) → near_to w b box (columns ++ (c ∷ [])) ≡ near_to w b box columns ++ cond (not (far w b (box c))) (c ∷ []) []
  unfolding near_to keep
  near_next columns c = keep_append (λ c. not (far w b (box c))) columns (c ∷ [])

  pub narrowed_none : (few : List ℕ) → Narrowed few w b box [] 0
  unfolding near_to keep
  narrowed_none few = record { fits = omega arith; room = omega arith; front = refl }

  module _ {few columns : List ℕ} {k : ℕ} (c : ℕ) (h : Narrowed few w b box columns k) where
    pub narrowed_no : far w b (box c) ≡ true → Narrowed few w b box (columns ++ (c ∷ [])) k
    narrowed_no e =
        record {
          fits = omega (arith, h.fits, length-append columns (c ∷ []));
          room = h.room;
          front = h.front ∙ sym (near_next columns c ∙ ap (λ v. near_to w b box columns ++ cond (not v) (c ∷ []) []) e ∙ append-nil (near_to w b box columns));
        }

    pub narrowed_yes : far w b (box c) ≡ false → k < length few → Narrowed (set few k c) w b box (columns ++ (c ∷ [])) (k + 1)
    narrowed_yes e r =
        record {
          fits = omega (arith, h.fits, length-append columns (c ∷ []));
          room = omega (arith, length-set few k c);
          front =
              rw (add-one k)
              (take-suc-set few k c r ∙ ap (λ l. l ++ (c ∷ [])) h.front ∙ sym (near_next columns c ∙ ap (λ v. near_to w b box columns ++ cond (not v) (c ∷ []) []) e));
        }

pub all_places : (p : ℕ → Type 0) (l : List ℕ) → ((i : ℕ) → i < length l → p (get_or l i 0)) → All p l
all_places p [] h = tt
all_places p (x ∷ l) h = (h 0 (omega arith), all_places p l (λ i r. h (suc i) (omega arith)))

keep_same : (p q : ℕ → Bool) (l : List ℕ) → All (λ c. p c ≡ q c) l → keep p l ≡ keep q l
unfolding keep
keep_same p q [] h = refl
keep_same p q (c ∷ l) h = ap₂ (λ v r. cond v (c ∷ r) r) h.0 (keep_same p q l h.1)

module _ {t : Thing} {s : Solid} where
  pub among_all : many t s ≤ 384 → Among (up_to (many t s)) t s
  among_all h =
      record {
        few = omega (arith, length_up_to (many t s));
        there = λ k l. all_get_d (λ i. i < many t s) (up_to (many t s)) k 0 (all_up_to (λ i. i < many t s) (many t s) (λ i m. m)) l;
      }

  -- what is kept of columns are columns, and their boxes are those of the list
  pub narrowed_among : {few columns : List ℕ} {w : Far} {b : Bounds} {box : ℕ → Bounds} {k : ℕ} → Narrowed few w b box columns k → Among columns t s → Among (take k few) t s
  unfolding near_to
  narrowed_among {few} {columns} {w} {b} {box} {k} h a =
      let all = all_keep (λ c. not (far w b (box c))) (λ i. i < many t s) columns (all_places (λ i. i < many t s) columns a.there) in
      record {
        few = omega (arith, length-take-le k few h.room, h.fits, a.few);
        there = λ i l. (all_get_d (λ c. (not (far w b (box c)) ≡ true) × (c < many t s)) (take k few) i 0 (rw h.front all) l).1;
      }

  pub narrowed_own : {few columns : List ℕ} {boxes : List Float} {w : Far} {b : Bounds} {k : ℕ} → Narrowed few w b (box_at boxes) columns k → Boxed boxes t s → Among columns t s
      → take k few ≡ near_to w b (box_of t s) columns
  unfolding near_to
  narrowed_own {few} {columns} {boxes} {w} {b} {k} h own a =
      h.front
      ∙ keep_same (λ c. not (far w b (box_at boxes c))) (λ c. not (far w b (box_of t s c))) columns
      (all_places (λ c. not (far w b (box_at boxes c)) ≡ not (far w b (box_of t s c))) columns (λ i l. ap (λ x. not (far w b x)) (own.own _ (a.there i l))))
