-- What the loop that numbers the slots has done after i of them.
use mathlib.Core.Path.{◌≡◌, refl, sym, ap, ◌∙◌}
use mathlib.Core.Bool.{true, false}
use mathlib.Core.List.{List, [], ◌∷◌, map}
use Prim.Native.Nat.{ℕ, suc, ◌+◌, ◌<◌, ◌≤◌}
use native.Mathlib.Numerals.{add-one}
use native.Mathlib.Omega.{arith}
use lib.IntN.{ℤ, pos}
use lib.ListN.{length, get_or, set, take, length-append}
use lib.Seq.{take-suc, take-suc-set, take_all}
use Rattle.list_words.specs.Lists.{up_to, keep, nonzero}
use Rattle.list_words.proofs.UpTo.{map_up_to_suc}
use Rattle.list_stores.proofs.Kept.{keep_append}
use Rattle.fans.specs.Words.{rank, ranks}

pub rank_next : (inc : List ℤ) (i : ℕ) → i < length inc → rank inc (suc i) ≡ rank inc i + length (keep nonzero (get_or inc i (pos 0) ∷ []))
unfolding rank
rank_next inc i h =
    let x = get_or inc i (pos 0) ∷ [] in
    ap (λ l. length (keep nonzero l)) (take-suc inc i (pos 0) h) ∙ ap length (keep_append nonzero (take i inc) x) ∙ length-append (keep nonzero (take i inc)) (keep nonzero x)

pub record Numbered (inc : List ℤ) (num : List ℕ) (k i : ℕ) : Type 0 where
  pub few : k ≤ i
  pub next : k ≡ rank inc i
  pub front : take i num ≡ map (rank inc) (up_to i)

pub numbered_none : (inc : List ℤ) (num : List ℕ) → Numbered inc num 0 0
unfolding rank up_to keep
numbered_none inc num = record { few = omega arith; next = refl; front = refl }

module _ {inc : List ℤ} {num : List ℕ} {k i : ℕ} (g : Numbered inc num k i) (h : i < length num) (m : i < length inc) where
  fronts : take (i + 1) (set num i k) ≡ map (rank inc) (up_to (i + 1))
  fronts = rw (add-one i, take-suc-set num i k h, g.front, g.next) (sym (map_up_to_suc (rank inc) i))

  pub numbered_yes : nonzero (get_or inc i (pos 0)) ≡ true → Numbered inc (set num i k) (k + 1) (i + 1)
  unfolding keep
  numbered_yes y = record { few = omega (arith, g.few); next = rw (add-one i, rank_next inc i m, y, g.next); front = fronts }

  pub numbered_no : nonzero (get_or inc i (pos 0)) ≡ false → Numbered inc (set num i k) k (i + 1)
  unfolding keep
  numbered_no y = record { few = omega (arith, g.few); next = rw (add-one i, rank_next inc i m, y) (omega (arith, g.next)); front = fronts }

pub numbered_all : {inc : List ℤ} {num : List ℕ} {k i : ℕ} → Numbered inc num k i → i ≡ length inc → length num ≡ length inc → (num ≡ ranks inc) × (k ≡ rank inc (length inc))
unfolding ranks
numbered_all {inc} {num} {k} {i} g e l = (sym (take_all (length inc) num (omega arith)) ∙ rw (← e) g.front, rw (← e) g.next)
