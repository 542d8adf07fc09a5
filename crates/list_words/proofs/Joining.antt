-- Joining: an element whose count lies below 0 stands that many times among the starts, one whose count lies above 0 that many times
-- among the stops, and the first start is joined to the first stop, the second to the second, and so on.
use mathlib.Core.Path.{◌≡◌, refl, sym, ap, ap₂, ◌∙◌}
use mathlib.Core.List.{List, [], ◌∷◌, map, flat_map, zip, Memᴰ}
use Prim.Native.Nat.{ℕ, zero, suc, ◌<◌}
use native.Mathlib.Omega.{arith}
use lib.ListN.{length, replicate}
use lib.IntN.{ℤ, pos, one, ◌+ℤ◌, ◌-ℤ◌, ◌*ℤ◌, neg_ℤ, zero-*ℤ, suc_ℤ-*ℤ, *ℤ-one, +ℤ_comm}
use Rattle.list_words.specs.Lists.{sum_of, turned, above, below}
use Rattle.list_words.proofs.Integers.{whole, split, mk_eq, lin, add_mul, neg_mul, pos_inj, eq_of_sub, above_neg, below_neg}
use Rattle.list_words.proofs.Sums.{All, all_of, all_mono, all_flat_map, flat_ext, sum_sub, sum_ext, sum_flat_map}

-- ---- two lists of one length
module _ {A B : Type 0} where
  pub all_zip : (Q : A × B → Type 0) (s : List A) (t : List B) → All (λ a. All (λ b. Q (a, b)) t) s → All Q (zip s t)
  unfolding zip
  all_zip Q [] t f = tt
  all_zip Q (a ∷ s) [] f = tt
  all_zip Q (a ∷ s) (b ∷ t) f = (f.0.0, all_zip Q s t (all_mono (λ a. All (λ b. Q (a, b)) (b ∷ t)) (λ a. All (λ b. Q (a, b)) t) s (λ a r. r.1) f.1))

module _ {X : Type 0} where
  pub turned_zip : (s t : List X) → map turned (zip s t) ≡ zip t s
  unfolding zip
  turned_zip [] [] = refl
  turned_zip [] (b ∷ t) = refl
  turned_zip (a ∷ s) [] = refl
  turned_zip (a ∷ s) (b ∷ t) = ap (λ r. (b, a) ∷ r) (turned_zip s t)

  pub sum_zip : (φ : X → ℤ) (s t : List X) → length s ≡ length t → sum_of (λ (h : X × X). φ h.1 -ℤ φ h.0) (zip s t) ≡ sum_of φ t -ℤ sum_of φ s
  unfolding sum_of zip
  sum_zip φ [] [] e = refl
  sum_zip φ [] (b ∷ t) e = absurd (omega arith)
  sum_zip φ (a ∷ s) [] e = absurd (omega arith)
  sum_zip φ (a ∷ s) (b ∷ t) e = ap (λ z. (φ b -ℤ φ a) +ℤ z) (sum_zip φ s t (omega arith)) ∙ regroup (φ b) (φ a) (sum_of φ t) (sum_of φ s)
    where
      regroup : (b a t s : ℤ) → (b -ℤ a) +ℤ (t -ℤ s) ≡ (b +ℤ t) -ℤ (a +ℤ s)
      regroup b a t s = rw (split a, split b, split s, split t) (simp lin (mk_eq _ _ _ _ (omega arith)))

  sum_replicate : (φ : X → ℤ) (n : ℕ) (v : X) → sum_of φ (replicate n v) ≡ pos n *ℤ φ v
  unfolding sum_of
  sum_replicate φ zero v = sym (zero-*ℤ (φ v))
  sum_replicate φ (suc n) v = ap (λ z. φ v +ℤ z) (sum_replicate φ n v) ∙ +ℤ_comm (φ v) (pos n *ℤ φ v) ∙ sym (suc_ℤ-*ℤ (pos n) (φ v))

  all_replicate : (p : X → Type 0) (n : ℕ) (v : X) → (0 < n → p v) → All p (replicate n v)
  all_replicate p zero v f = tt
  all_replicate p (suc n) v f = (f (omega arith), all_replicate p n v (λ h. f (omega arith)))

  sum_one : (l : List X) → sum_of (λ (v : X). one) l ≡ pos (length l)
  unfolding sum_of one
  sum_one [] = refl
  sum_one (v ∷ l) = ap (λ z. pos 1 +ℤ z) (sum_one l) ∙ ap pos (omega arith)

-- ---- starts and stops
module _ {E X : Type 0} (name : E → X) where
  -- each element's name, as often as n says
  abbrev pub copies : (E → ℕ) → List E → List X
  copies n es = flat_map (λ e. replicate (n e) (name e)) es

  sum_copies : (φ : X → ℤ) (n : E → ℕ) (es : List E) → sum_of φ (copies n es) ≡ sum_of (λ e. pos (n e) *ℤ φ (name e)) es
  sum_copies φ n es =
      sum_flat_map φ (λ e. replicate (n e) (name e)) es
      ∙ sum_ext (λ e. sum_of φ (replicate (n e) (name e))) (λ e. pos (n e) *ℤ φ (name e)) es (λ e. sum_replicate φ (n e) (name e))

  pub all_copies : (p : X → Type 0) (n : E → ℕ) (es : List E) → ((e : E) → Memᴰ e es → 0 < n e → p (name e)) → All p (copies n es)
  all_copies p n es f =
      all_flat_map p (λ e. replicate (n e) (name e)) es (all_of (λ e. All p (replicate (n e) (name e))) es (λ e m. all_replicate p (n e) (name e) (f e m)))

  module _ (count : E → ℤ) where
    abbrev pub starts : List E → List X
    starts es = copies (λ e. below (count e)) es

    abbrev pub stops : List E → List X
    stops es = copies (λ e. above (count e)) es

    abbrev pub pieces : List E → List (X × X)
    pieces es = zip (starts es) (stops es)

    pub sum_ends : (φ : X → ℤ) (es : List E) → sum_of φ (stops es) -ℤ sum_of φ (starts es) ≡ sum_of (λ e. count e *ℤ φ (name e)) es
    sum_ends φ es =
        ap₂ ◌-ℤ◌ (sum_copies φ (λ e. above (count e)) es) (sum_copies φ (λ e. below (count e)) es)
        ∙ sym (sum_sub (λ e. pos (above (count e)) *ℤ φ (name e)) (λ e. pos (below (count e)) *ℤ φ (name e)) es)
        ∙ sum_ext (λ e. pos (above (count e)) *ℤ φ (name e) -ℤ pos (below (count e)) *ℤ φ (name e)) (λ e. count e *ℤ φ (name e)) es (λ e. parts (count e) (φ (name e)))
      where
        parts : (n y : ℤ) → pos (above n) *ℤ y -ℤ pos (below n) *ℤ y ≡ n *ℤ y
        parts n y =
            ap (λ z. pos (above n) *ℤ y +ℤ z) (sym (neg_mul (pos (below n)) y))
            ∙ sym (add_mul (pos (above n)) (neg_ℤ (pos (below n))) y) ∙ ap (λ z. z *ℤ y) (whole n)

    pub same_length : (es : List E) → sum_of count es ≡ pos 0 → length (starts es) ≡ length (stops es)
    same_length es z =
        sym (pos_inj (length (stops es)) (length (starts es)) (eq_of_sub (pos (length (stops es))) (pos (length (starts es)))
        (ap₂ ◌-ℤ◌ (sym (sum_one (stops es))) (sym (sum_one (starts es)))
        ∙ sum_ends (λ v. one) es ∙ sum_ext (λ e. count e *ℤ one) count es (λ e. *ℤ-one (count e)) ∙ z)))

    -- the pieces come to each name, less those that leave it, as often as its count says
    pub join_sum : (φ : X → ℤ) (es : List E) → sum_of count es ≡ pos 0
        → sum_of (λ (h : X × X). φ h.1 -ℤ φ h.0) (pieces es) ≡ sum_of (λ e. count e *ℤ φ (name e)) es
    join_sum φ es z = sum_zip φ (starts es) (stops es) (same_length es z) ∙ sum_ends φ es

    -- what holds from each element with starts to each with stops holds of each piece
    pub all_join : (Q : X × X → Type 0) (es : List E)
        → ((e d : E) → Memᴰ e es → Memᴰ d es → 0 < below (count e) → 0 < above (count d) → Q (name e, name d)) → All Q (pieces es)
    all_join Q es f =
        all_zip Q (starts es) (stops es) (all_copies (λ v. All (λ w. Q (v, w)) (stops es)) (λ e. below (count e)) es
        (λ e i m. all_copies (λ w. Q (name e, w)) (λ e. above (count e)) es (λ d j n. f e d i j m n)))

  -- with the counts negated, the pieces turned round
  pub turned_pieces : (count : E → ℤ) (es : List E) → map turned (pieces count es) ≡ pieces (λ e. neg_ℤ (count e)) es
  turned_pieces count es =
      turned_zip (starts count es) (stops count es)
      ∙ ap₂ zip (same (λ e. above (count e)) (λ e. below (neg_ℤ (count e))) (λ e. sym (below_neg (count e))))
      (same (λ e. below (count e)) (λ e. above (neg_ℤ (count e))) (λ e. sym (above_neg (count e))))
    where
      same : (m n : E → ℕ) → ((e : E) → m e ≡ n e) → copies m es ≡ copies n es
      same m n h = flat_ext (λ e. replicate (m e) (name e)) (λ e. replicate (n e) (name e)) es (λ e. ap (λ k. replicate k (name e)) (h e))
