-- Checks in order: what several say together, and what a check of each vertex or facet below n says ("the first"), as a loop sees it and as a whole.
use mathlib.Core.Path.{◌≡◌, refl, sym, ap, ◌∙◌}
use mathlib.Core.Bool.{Bool, true, false}
use mathlib.Core.List.{List, [], ◌∷◌, ◌++◌, map, map-append}
use Prim.Native.Nat.{ℕ, zero, suc, ◌+◌, ◌<◌}
use native.Mathlib.Omega.{arith}
use native.Mathlib.Numerals.{add-one}
use native.Mathlib.Decide.{dec_lt}
use Rattle.list_words.specs.Lists.{up_to, any}
use Rattle.list_words.proofs.Sums.{All, all_at, all_map_of, all_of_map}
use Rattle.list_words.proofs.Tests.{any_false, false_any}
use Rattle.list_words.proofs.UpTo.{all_up_to, mem_up_to}
use Rattle.solids.specs.declared.Answer.{Answer}
use Rattle.solids.specs.Refusals.{Verdict, accepted, answer, given, in_order, at_each, told_of}
use Rattle.std.specs.Prelude.{Ok, Err}

pub refused_accepted : (a : Answer) → Err a ≡ accepted → ⊥
refused_accepted a e = let z : ◌≡◌ {A = ℕ} 0 1 = cc in omega arith

-- ---- one check
pub not_given : (a : Answer) (b : Bool) → given a b ≡ accepted → b ≡ false
not_given a true e = absurd (refused_accepted a e)
not_given a false e = refl

pub was_given : (a c : Answer) (b : Bool) → given a b ≡ Err c → (b ≡ true) × (a ≡ c)
unfolding answer
was_given a c true e = (refl, ap answer e)
was_given a c false e = absurd (refused_accepted c (sym e))

-- told as A's or B's it accepts exactly where it did
pub told_accepted : (who : ℕ) (v : Verdict) → told_of who v ≡ accepted → v ≡ accepted
told_accepted who (Ok u) e = refl
told_accepted who (Err a) e = absurd (refused_accepted _ e)

-- ---- several checks
pub all_accepted : (vs : List Verdict) → in_order vs ≡ accepted → All (λ v. v ≡ accepted) vs
unfolding in_order
all_accepted [] e = tt
all_accepted (Ok u ∷ vs) e = (refl, all_accepted vs e)
all_accepted (Err a ∷ vs) e = absurd (refused_accepted a e)

pub accepted_all : (vs : List Verdict) → All (λ v. v ≡ accepted) vs → in_order vs ≡ accepted
unfolding in_order
accepted_all [] a = refl
accepted_all (v ∷ vs) a = rw a.0 (accepted_all vs a.1)

-- a refusal of the first checks decides
pub early : (vs ws : List Verdict) (a : Answer) → in_order vs ≡ Err a → in_order (vs ++ ws) ≡ Err a
unfolding in_order
early [] ws a e = absurd (refused_accepted a (sym e))
early (Ok u ∷ vs) ws a e = early vs ws a e
early (Err b ∷ vs) ws a e = e

-- and where they accept, the others decide
pub late : (vs ws : List Verdict) → in_order vs ≡ accepted → in_order (vs ++ ws) ≡ in_order ws
unfolding in_order
late [] ws e = refl
late (Ok u ∷ vs) ws e = late vs ws e
late (Err b ∷ vs) ws e = absurd (refused_accepted b e)

-- ---- a check of each number below n
module _ (check : ℕ → Verdict) where
  -- a refusal below n stays whatever n says
  longer : (n : ℕ) (a : Answer) → at_each n check ≡ Err a → at_each (suc n) check ≡ Err a
  unfolding up_to
  longer n a e = ap in_order (map-append check (up_to n) (n ∷ [])) ∙ early (map check (up_to n)) (check n ∷ []) a e

  -- where those below n accept, n itself decides
  last : (n : ℕ) → at_each n check ≡ accepted → at_each (suc n) check ≡ check n
  unfolding up_to in_order
  last n e = ap in_order (map-append check (up_to n) (n ∷ [])) ∙ late (map check (up_to n)) (check n ∷ []) e ∙ alone (check n)
    where
      alone : (v : Verdict) → in_order (v ∷ []) ≡ v
      alone (Ok u) = refl
      alone (Err a) = refl

  -- the two steps of a loop
  pub each_next : (n : ℕ) → at_each n check ≡ accepted → check n ≡ accepted → at_each (n + 1) check ≡ accepted
  each_next n e c = ap (λ k. at_each k check) (add-one n) ∙ last n e ∙ c

  pub each_at : (n i : ℕ) (a : Answer) → i < n → at_each i check ≡ accepted → check i ≡ Err a → at_each n check ≡ Err a
  each_at zero i a h e c = absurd (omega arith)
  each_at (suc n) i a h e c = elim (dec_lt i n) [
    | yes l ↦ longer n a (each_at n i a l e c)
    | no l ↦ let s : n ≡ i = omega arith in ap (λ k. at_each (suc k) check) s ∙ last i e ∙ c
  ]

  -- all accept exactly where each does
  pub each_accepts : (n : ℕ) → at_each n check ≡ accepted → (i : ℕ) → i < n → check i ≡ accepted
  each_accepts n e i h = all_at (λ i. check i ≡ accepted) (mem_up_to n i h) (all_of_map (λ v. v ≡ accepted) check (up_to n) (all_accepted (map check (up_to n)) e))

  pub accepts_each : (n : ℕ) → ((i : ℕ) → i < n → check i ≡ accepted) → at_each n check ≡ accepted
  accepts_each n h = accepted_all (map check (up_to n)) (all_map_of (λ v. v ≡ accepted) check (up_to n) (all_up_to (λ i. check i ≡ accepted) n h))

  -- a refusal is the first one's
  pub record Refuses (n : ℕ) (a : Answer) : Type 0 where
    pub place : ℕ
    pub below : place < n
    pub there : check place ≡ Err a
    pub before : (i : ℕ) → i < place → check i ≡ accepted

  pub each_refused : (n : ℕ) (a : Answer) → at_each n check ≡ Err a → Refuses n a
  unfolding up_to in_order
  each_refused zero a e = absurd (refused_accepted a (sym e))
  each_refused (suc n) a e = by (at_each n check) refl (each_refused n a)
    where
      by : (v : Verdict) → at_each n check ≡ v → (at_each n check ≡ Err a → Refuses n a) → Refuses (suc n) a
      by (Ok u) d shorter = record { place = n; below = omega arith; there = sym (last n d) ∙ e; before = each_accepts n d }
      by (Err b) d shorter =
          let r = shorter (d ∙ sym (longer n b d) ∙ e) in
          record { place = r.place; below = omega (arith, r.below); there = r.there; before = r.before }

-- ---- a check that is one test at each number
module _ (a : ℕ → Answer) (test : ℕ → Bool) (n : ℕ) where
  pub none_given : at_each n (λ i. given (a i) (test i)) ≡ accepted → any test (up_to n) ≡ false
  none_given e =
      false_any test (up_to n) (all_up_to (λ i. test i ≡ false) n (λ i h. not_given (a i) (test i) (each_accepts (λ i. given (a i) (test i)) n e i h)))

  pub given_none : any test (up_to n) ≡ false → at_each n (λ i. given (a i) (test i)) ≡ accepted
  given_none e =
      accepts_each (λ i. given (a i) (test i)) n
      (λ i h. ap (given (a i)) (all_at (λ i. test i ≡ false) (mem_up_to n i h) (any_false test (up_to n) e)))
