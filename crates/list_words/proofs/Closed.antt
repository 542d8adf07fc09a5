-- Half-edges, pairs of vertices, and closed lists of them, which hold each half-edge as often as the same turned round.
-- A function that changes its sign where the half-edge is turned sums to 0 over a closed list, and only closed lists are so.
use mathlib.Core.Path.{◌≡◌, refl, sym, ap, ap₂, ◌∙◌, subst}
use mathlib.Core.Logic.{◌≢◌}
use mathlib.Core.Bool.{Bool, true, false, ◌&&◌, and_comm}
use mathlib.Core.List.Memᴰ
use mathlib.Core.List.{List, [], ◌∷◌, ◌++◌, map, Memᴰ}
use Prim.Native.Nat.{◌+◌, ◌<◌}
use native.Mathlib.Omega.{arith}
use native.Mathlib.Decide.{dec_lt}
use lib.Dec.{T}
use lib.IntN.{ℤ, pos, ◌+ℤ◌, ◌-ℤ◌, neg_ℤ}
use Rattle.list_words.specs.Lists.{one_if, sum_of, times, turned}
use Rattle.list_words.proofs.Integers.{split, mk_eq, lin, neg_sub, half_zero, pos_inj, eq_of_sub}
use Rattle.list_words.proofs.Sums.{All, all_at, all_mono, sum_append, sum_sub, sum_map, sum_neg, sum_ext_all}
use Rattle.list_words.proofs.Tests.{T_of, of_T, and_true, true_and}

-- ---- counting
module _ {A : Type 0} (eq : A → A → Bool) where
  pub times_append : (x : A) (s t : List A) → times eq x (s ++ t) ≡ times eq x s + times eq x t
  unfolding times
  times_append x [] t = omega arith
  times_append x (y ∷ s) t = omega (arith, times_append x s t)

  module _ (sound : (x y : A) → T (eq x y) → x ≡ y) (self : (x : A) → T (eq x x)) where
    -- what is counted is there
    find : (x : A) (m : List A) → 0 < times eq x m → (s : List A) × (t : List A) × (m ≡ s ++ (x ∷ t))
    unfolding times
    find x [] h = absurd (omega arith)
    find x (y ∷ m) h = go (eq x y) refl (find x m) h
      where
        go : (b : Bool) → eq x y ≡ b → (0 < times eq x m → (s : List A) × (t : List A) × (m ≡ s ++ (x ∷ t)))
            → 0 < one_if b + times eq x m → (s : List A) × (t : List A) × (y ∷ m ≡ s ++ (x ∷ t))
        go true e ih h = ([], m, ap (λ z. z ∷ m) (sym (sound x y (T_of (eq x y) e))))
        go false e ih h = let r = ih (omega arith) in (y ∷ r.0, r.1, ap (λ (z : List A). y ∷ z) r.2)

    one_self : (x : A) → one_if (eq x x) ≡ 1
    one_self x = ap one_if (of_T (eq x x) (self x))

    -- lists with the same counts have the same sums
    pub sum_by_count : (f : A → ℤ) (l m : List A) → ((x : A) → times eq x l ≡ times eq x m) → sum_of f l ≡ sum_of f m
    unfolding sum_of times
    sum_by_count f [] [] h = refl
    sum_by_count f [] (y ∷ m) h = absurd (omega (arith, h y, one_self y))
    sum_by_count f (x ∷ l) m h =
        let r = find x m (omega (arith, h x, one_self x)) in
        let s = r.0 in
        let t = r.1 in
        let e : m ≡ s ++ (x ∷ t) = r.2 in
        ap (λ z. f x +ℤ z) (sum_by_count f l (s ++ t) (λ z. omega (arith, h z, times_append z s t, times_append z s (x ∷ t), ap (times eq z) e)) ∙ sum_append f s t)
        ∙ move (f x) (sum_of f s) (sum_of f t) ∙ sym (sum_append f s (x ∷ t)) ∙ ap (sum_of f) (sym e)
      where
        move : (a b c : ℤ) → a +ℤ (b +ℤ c) ≡ b +ℤ (a +ℤ c)
        move a b c = rw (split a, split b, split c) (simp lin (mk_eq _ _ _ _ (omega arith)))

-- ---- half-edges
module _ {X : Type 0} where
  -- no half-edge goes from a vertex to itself
  abbrev pub Simple : List (X × X) → Type 0
  Simple l = All (λ h. h.0 ≢ h.1) l

  abbrev pub Anti : (X × X → ℤ) → Type 0
  Anti g = (h : X × X) → g (turned h) ≡ neg_ℤ (g h)

module _ {X : Type 0} (eq : X → X → Bool) where
  abbrev pub same_half : X × X → X × X → Bool
  same_half h k = eq h.0 k.0 && eq h.1 k.1

  abbrev pub Closed : List (X × X) → Type 0
  Closed l = (h : X × X) → times same_half h l ≡ times same_half (turned h) l

  times_turned : (h : X × X) (l : List (X × X)) → times same_half h (map turned l) ≡ times same_half (turned h) l
  unfolding times
  times_turned h [] = refl
  times_turned h (k ∷ l) = ap₂ ◌+◌ (ap one_if (and_comm (eq h.0 k.1) (eq h.1 k.0))) (times_turned h l)

  sum_times : (h : X × X) (l : List (X × X)) → sum_of (λ k. pos (one_if (same_half h k))) l ≡ pos (times same_half h l)
  unfolding sum_of times
  sum_times h [] = refl
  sum_times h (k ∷ l) = ap (λ z. pos (one_if (same_half h k)) +ℤ z) (sum_times h l)

  -- h counts 1, h turned round -1
  abbrev turns : X × X → X × X → ℤ
  turns h k = pos (one_if (same_half h k)) -ℤ pos (one_if (same_half (turned h) k))

  turns_anti : (h : X × X) → Anti (turns h)
  turns_anti h k =
      ap₂ (λ b c. pos (one_if b) -ℤ pos (one_if c)) (and_comm (eq h.0 k.1) (eq h.1 k.0)) (and_comm (eq h.1 k.1) (eq h.0 k.0))
      ∙ sym (neg_sub (pos (one_if (same_half h k))) (pos (one_if (same_half (turned h) k))))

  sum_turns : (h : X × X) (l : List (X × X)) → sum_of (turns h) l ≡ pos (times same_half h l) -ℤ pos (times same_half (turned h) l)
  sum_turns h l = sum_sub (λ k. pos (one_if (same_half h k))) (λ k. pos (one_if (same_half (turned h) k))) l ∙ ap₂ ◌-ℤ◌ (sum_times h l) (sum_times (turned h) l)

  pub closed_of_sums : (l : List (X × X)) → ((g : X × X → ℤ) → Anti g → sum_of g l ≡ pos 0) → Closed l
  closed_of_sums l f h =
      pos_inj (times same_half h l) (times same_half (turned h) l)
      (eq_of_sub (pos (times same_half h l)) (pos (times same_half (turned h) l)) (sym (sum_turns h l) ∙ f (turns h) (turns_anti h)))

  module _ (sound : (x y : X) → T (eq x y) → x ≡ y) (self : (x : X) → T (eq x x)) where
    pub same_half_sound : (h k : X × X) → T (same_half h k) → h ≡ k
    same_half_sound h k t =
        let r = and_true (eq h.0 k.0) (eq h.1 k.1) (of_T (same_half h k) t) in
        λ i. (sound h.0 k.0 (T_of (eq h.0 k.0) r.0) i, sound h.1 k.1 (T_of (eq h.1 k.1) r.1) i)

    pub same_half_self : (h : X × X) → T (same_half h h)
    same_half_self h = T_of (same_half h h) (true_and (eq h.0 h.0) (eq h.1 h.1) (same h.0) (same h.1))
      where
        same : (x : X) → eq x x ≡ true
        same x = of_T (eq x x) (self x)

    -- the lemma on closed lists
    pub closed_sum : (l : List (X × X)) → Closed l → Simple l → (g : X × X → ℤ) → ((h : X × X) → h.0 ≢ h.1 → g (turned h) ≡ neg_ℤ (g h)) → sum_of g l ≡ pos 0
    closed_sum l closed simple g anti =
        half_zero (sum_of g l)
        (sum_by_count same_half same_half_sound same_half_self g l (map turned l) (λ h. closed h ∙ sym (times_turned h l))
        ∙ sum_map g turned l
        ∙ sum_ext_all (λ h. g (turned h)) (λ h. neg_ℤ (g h)) l (all_mono (λ h. h.0 ≢ h.1) (λ h. g (turned h) ≡ neg_ℤ (g h)) l anti simple)
        ∙ sum_neg g l)

    -- it is enough to look at the half-edges that are there
    pub closed_of_all : (l : List (X × X)) → All (λ h. times same_half h l ≡ times same_half (turned h) l) l → Closed l
    closed_of_all l a h = elim (dec_lt 0 (times same_half h l)) [
      | yes p ↦ there h p
      | no n ↦ elim (dec_lt 0 (times same_half (turned h) l)) [
        | yes q ↦ sym (there (turned h) q)
        | no m ↦ omega arith
      ]
    ]
      where
        there : (k : X × X) → 0 < times same_half k l → times same_half k l ≡ times same_half (turned k) l
        there k p =
            let r = find same_half same_half_sound same_half_self k l p in
            all_at (λ h. times same_half h l ≡ times same_half (turned h) l) (subst (Memᴰ k) (sym r.2) (Memᴰ.append_right r.0 (Memᴰ.head refl))) a
