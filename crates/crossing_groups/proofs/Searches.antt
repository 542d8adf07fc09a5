-- Which of the columns are enough for some rows.
use mathlib.Core.Path.{◌≡◌, sym, ◌∙◌, subst}
use mathlib.Core.Bool.{Bool, true, false, cond}
use mathlib.Core.List.{List, []}
use Prim.Native.Nat.{ℕ, ◌-◌, ◌<◌, ◌≤◌}
use native.Mathlib.Omega.{arith}
use Rattle.list_words.specs.Lists.{keep}
use Rattle.solids.specs.Solids.{Solid}
use Rattle.solids.proofs.Admitted.{Passed}
use Rattle.bounds.specs.declared.Bounds.{Bounds}
use Rattle.bounds.specs.declared.Far.TheVariants.{Apart}
use Rattle.bounds.specs.declared.Thing.{Thing}
use Rattle.bounds.specs.Words.{Present, apart, box_of, span, whole, Among, near_to}
use Rattle.bounds.proofs.Inside.{In}
use Rattle.bounds.proofs.Things.{in_span}
use Rattle.crossing_rows.specs.Words.{round, Lying, count_of, row_of, crossing}
use Rattle.crossing_rows.proofs.Rowwise.{in_round, sound_round, lying_in, none_crossed, row_present, row_near}
use Rattle.crossing_groups.specs.declared.Search.{Search}
use Rattle.crossing_groups.specs.Words.{Searching, Enough}

module _ (a b : Solid) (passed_a : Passed a) (passed_b : Passed b) (q : Search) where
  -- its rows lie in the box round them
  pub rows_in : (r : ℕ) → q.begin ≤ r → r < q.end → Lying (In (span (λ i. round (row_of a i)) q.begin (q.end - q.begin))) (row_of a r)
  rows_in r from to =
      let present : (i : ℕ) → Lying Present (row_of a i) = λ i. row_present a b i passed_a passed_b in
      lying_in (in_span (λ i. round (row_of a i)) (λ i. sound_round (row_of a i) (present i)) q.begin (q.end - q.begin) r from (omega (arith, from, to))) (row_of a r)
      (in_round (row_of a r) (present r))

  module _ (h : Searching q a b) where
    module _ (columns : List ℕ) (p : Bounds) (inside : (r : ℕ) → q.begin ≤ r → r < q.end → Lying (In p) (row_of a r)) (enough : Enough q a b columns) where
      pub enough_near : Enough q a b (near_to Apart p (box_of q.thing b) columns)
      enough_near r from to =
          subst (λ t. crossing q.sign (count_of (row_of a r) b) (near_to Apart p (box_of t b) columns) ≡ crossing q.sign (count_of (row_of a r) b) columns) (h.kind r from to)
          (row_near a b r passed_a passed_b q.sign p columns (inside r from to))
          ∙ enough r from to

      -- and all are left out where the box is apart from B
      pub enough_apart : Among columns q.thing b → (w : Bool) → apart p (whole b) ≡ w → Enough q a b (cond w [] columns)
      unfolding keep
      enough_apart k true e r from to =
          sym (none_crossed q.sign (row_of a r) b passed_b p e (inside r from to) (subst (λ t. Among columns t b) (sym (h.kind r from to)) k)) ∙ enough r from to
      enough_apart k false e r from to = enough r from to

pub among_apart : {columns : List ℕ} {t : Thing} {b : Solid} (w : Bool) → Among columns t b → Among (cond w [] columns) t b
among_apart true h = record { few = omega arith; there = λ k l. absurd (omega (arith, l)) }
among_apart false h = h
