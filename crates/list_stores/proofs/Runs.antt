-- Lists g 0, g 1, .. stored one behind the other, as a loop does it: what is stored after i of them, and where the next goes.
use mathlib.Core.Path.{◌≡◌, refl, sym, ap, ◌∙◌}
use mathlib.Core.List.{List, flat_map}
use Prim.Native.Nat.{ℕ, suc, ◌+◌, ◌-◌, ◌<◌, ◌≤◌}
use native.Mathlib.Nat.{add-zero}
use native.Mathlib.Numerals.{add-one}
use native.Mathlib.Omega.{arith}
use lib.ListN.{length, length-append}
use lib.Seq.{sets, length-sets}
use Rattle.list_words.specs.Lists.{up_to}
use Rattle.list_words.proofs.Places.{flat_up_to_add}
use Rattle.list_words.proofs.UpTo.{flat_up_to_suc}
use Rattle.list_stores.proofs.Stores.{sets_append}

module _ {A : Type 0} (g : ℕ → List A) where
  -- into the list `old` from place `start` on; the next goes to place `at`
  pub record Run (old new : List A) (start at i : ℕ) : Type 0 where
    pub next : at ≡ start + length (flat_map g (up_to i))
    pub stored : new ≡ sets old start (flat_map g (up_to i))

  pub run_none : (old : List A) (start : ℕ) → Run old old start start 0
  unfolding up_to flat_map
  run_none old start = record { next = sym (add-zero start); stored = refl }

  length_suc : (i : ℕ) → length (flat_map g (up_to (suc i))) ≡ length (flat_map g (up_to i)) + length (g i)
  length_suc i = ap length (flat_up_to_suc g i) ∙ length-append (flat_map g (up_to i)) (g i)

  -- the first ones are no longer than all
  length_front : (i n : ℕ) → i ≤ n → length (flat_map g (up_to i)) ≤ length (flat_map g (up_to n))
  length_front i n h =
      let m = n - i in
      let e : i + m ≡ n = omega arith in
      let l : length (flat_map g (up_to n)) ≡ length (flat_map g (up_to i)) + length (flat_map (λ j. g (i + j)) (up_to m)) =
      ap (λ k. length (flat_map g (up_to k))) (sym e) ∙ ap length (flat_up_to_add g i m) ∙ length-append (flat_map g (up_to i)) (flat_map (λ j. g (i + j)) (up_to m)) in
      omega (arith, l)

module _ {A : Type 0} {g : ℕ → List A} {old new : List A} {start at i : ℕ} (r : Run g old new start at i) where
  pub run_long : length new ≡ length old
  run_long = ap length r.stored ∙ length-sets old start (flat_map g (up_to i))

  -- where there is room for all, there is for the next
  pub run_room : {n : ℕ} → i < n → start + length (flat_map g (up_to n)) ≤ length old → at + length (g i) ≤ length new
  run_room {n} h room = omega (arith, room, r.next, run_long, length_suc g i, length_front g (suc i) n (omega arith))

  pub run_next : {last : List A} {behind : ℕ} → last ≡ sets new at (g i) → behind ≡ at + length (g i) → Run g old last start behind (i + 1)
  run_next e f =
      rw (add-one i) (record {
        next = omega (arith, f, r.next, length_suc g i);
        stored = e ∙ rw (r.stored, r.next) (sets_append old start (flat_map g (up_to i)) (g i)) ∙ ap (sets old start) (sym (flat_up_to_suc g i));
      })

  pub run_all : {n : ℕ} → i ≡ n → (new ≡ sets old start (flat_map g (up_to n))) × (at ≡ start + length (flat_map g (up_to n)))
  run_all e = rw (← e) (r.stored, r.next)
