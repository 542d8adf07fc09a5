-- What 2026-01 promises of a refusal on the only solid holds: check by check, whichever refuses is told with the first place where it does.
use mathlib.Core.Path.{◌≡◌, refl, sym, ap, ◌∙◌, subst}
use mathlib.Core.Bool.{Bool, true, false}
use mathlib.Core.List.{[], ◌∷◌}
use Prim.Native.Nat.{ℕ, ◌%◌, ◌<◌}
use lib.ListN.{length}
use lib.Ieee.{is_nan}
use Rattle.list_words.specs.Lists.{up_to, any}
use Rattle.list_words.proofs.Tests.{false_any}
use Rattle.list_words.proofs.Searches.{any_up_to_found}
use Rattle.list_words.proofs.UpTo.{all_up_to}
use Rattle.solids.specs.declared.Answer.{Answer}
use Rattle.solids.specs.Refusals.{Verdict, accepted, answer, on_solid, given, in_order, at_each}
use Rattle.std.specs.Prelude.{Ok, Err}
use Rattle.solids.specs.Solids.{Solid, vertices, facets, vertex, half_edges, pairs}
use Rattle.solids.specs.Admission.{uneven, too_many, blank, beyond, out_of_range, high, twice, differ, unmatched, check_blanks, check_limit, check_facet, check_corners, check_half_edges, check_closure, admission}
use Rattle.solids.specs.Places.{faulty, First, Placed, at_1, at_2, at_3, at_4, at_10, at_11, at_6, admission_01, five_for, Places}
use Rattle.solids.proofs.Checks.{refused_accepted, was_given, not_given, none_given, each_refused, each_accepts}
use Rattle.solids.proofs.Orders.{first_1, then_2, then_3, then_4, then_10_and_11, last_6}
use Rattle.solids.proofs.Admitted.{even, by_vertex, neither, all_fine}
use Rattle.solids.proofs.Closure.{closure_facets, closure_each}

-- a check that is one test at each number below n, told with that number
module _ (k : ℕ) (test : ℕ → Bool) (n : ℕ) where
  told : (a : Answer) → at_each n (λ i. given (on_solid k i) (test i)) ≡ Err a → (i : ℕ) × (a ≡ on_solid k i) × First n test i
  told a e =
      let r = each_refused (λ i. given (on_solid k i) (test i)) n a e in
      let (found, same) = was_given (on_solid k r.place) a (test r.place) r.there in
      (r.place, sym same, record { below = r.below; there = found; none_before = λ i h. not_given _ _ (r.before i h) })

pub somewhere : (n : ℕ) (test : ℕ → Bool) (i : ℕ) → First n test i → any test (up_to n) ≡ true
somewhere n test i first = any_up_to_found test n i first.below first.there

-- ---- what admission says, with what it saw
module _ (s : Solid) where
  abbrev blanks : Bool
  blanks = any is_nan s.points

  abbrev far : Bool
  far = any beyond s.points

  abbrev faults : Bool
  faults = any (faulty s) (up_to (facets s))

  abbrev gap : Bool
  gap = any (differ (half_edges s)) (pairs (vertices s))

  pub data Said : Verdict → Type 0 where
    by_1 : uneven s ≡ true → Said (Err (on_solid 1 0))
    by_2 : uneven s ≡ false → too_many s ≡ true → Said (Err (on_solid 2 0))
    by_3 : (i : ℕ) → uneven s ≡ false → too_many s ≡ false → blanks ≡ true → First (vertices s) (λ i. blank (vertex s i)) i → Said (Err (on_solid 3 i))
    by_4 : (i : ℕ) → uneven s ≡ false → too_many s ≡ false → blanks ≡ false → far ≡ true
        → First (vertices s) (λ i. out_of_range (vertex s i)) i → Said (Err (on_solid 4 i))
    by_10 : (f : ℕ) → uneven s ≡ false → too_many s ≡ false → blanks ≡ false → far ≡ false → First (facets s) (faulty s) f
        → high s f ≡ true → Said (Err (on_solid 10 f))
    by_11 : (f : ℕ) → uneven s ≡ false → too_many s ≡ false → blanks ≡ false → far ≡ false → First (facets s) (faulty s) f
        → high s f ≡ false → twice s f ≡ true → Said (Err (on_solid 11 f))
    by_6 : (f : ℕ) → uneven s ≡ false → too_many s ≡ false → blanks ≡ false → far ≡ false → faults ≡ false → gap ≡ true
        → First (facets s) (unmatched s) f → Said (Err (on_solid 6 f))
    by_none : uneven s ≡ false → too_many s ≡ false → blanks ≡ false → far ≡ false → faults ≡ false → gap ≡ false → Said accepted

  facet_fine : (f : ℕ) → check_facet s f ≡ accepted → faulty s f ≡ false
  unfolding faulty
  facet_fine f e = let (no_10, no_11) = neither s f e in rw (no_10, no_11)

  facets_fine : check_corners s ≡ accepted → faults ≡ false
  unfolding check_corners
  facets_fine e =
      false_any (faulty s) (up_to (facets s))
      (all_up_to (λ f. faulty s f ≡ false) (facets s) (λ f h. facet_fine f (each_accepts (check_facet s) (facets s) e f h)))

  module _ (no_1 : uneven s ≡ false) (no_2 : too_many s ≡ false) where
    whole : length s.points % 3 ≡ 0
    whole = (even s no_1).0

    module _ (c3 : check_blanks s ≡ accepted) where
      no_3 : blanks ≡ false
      unfolding check_blanks
      no_3 = by_vertex s is_nan whole ∙ none_given _ _ (vertices s) c3

      module _ (c4 : check_limit s ≡ accepted) where
        no_4 : far ≡ false
        unfolding check_limit
        no_4 = by_vertex s beyond whole ∙ none_given _ _ (vertices s) c4

        said_6 : check_corners s ≡ accepted → (v : Verdict) → check_closure s ≡ v → Said v
        unfolding check_closure check_half_edges
        said_6 c5 (Ok u) e = by_none no_1 no_2 no_3 no_4 (facets_fine c5) (not_given _ _ e)
        said_6 c5 (Err a) e =
            let proper = all_fine s c5 in
            let (f, same, first) = told 6 (unmatched s) (facets s) a (sym (closure_each s proper) ∙ e) in
            subst (λ a. Said (Err a)) (sym same)
            (by_6 f no_1 no_2 no_3 no_4 (facets_fine c5) (closure_facets s proper ∙ somewhere (facets s) (unmatched s) f first) first)

        facet_said : (f : ℕ) → f < facets s → ((i : ℕ) → i < f → faulty s i ≡ false) → (h : Bool) → high s f ≡ h → (t : Bool) → twice s f ≡ t
            → (a : Answer) → in_order (given (on_solid 10 f) h ∷ given (on_solid 11 f) t ∷ []) ≡ Err a → Said (Err a)
        unfolding in_order faulty
        facet_said f below before true i t j a e =
            subst Said e (by_10 f no_1 no_2 no_3 no_4 record { below = below; there = rw i; none_before = before } i)
        facet_said f below before false i true j a e =
            subst Said e (by_11 f no_1 no_2 no_3 no_4 record { below = below; there = rw (i, j); none_before = before } i j)
        facet_said f below before false i false j a e = absurd (refused_accepted a (sym e))

        said_10_and_11 : (a : Answer) → check_corners s ≡ Err a → Said (Err a)
        unfolding check_corners check_facet
        said_10_and_11 a e =
            let r = each_refused (check_facet s) (facets s) a e in
            facet_said r.place r.below (λ i h. facet_fine i (r.before i h)) (high s r.place) refl (twice s r.place) refl a r.there

        said_5 : (v : Verdict) → check_corners s ≡ v → Said (admission s)
        said_5 (Ok u) e = subst Said (sym (last_6 s no_1 no_2 c3 c4 e (check_closure s) refl)) (said_6 e (check_closure s) refl)
        said_5 (Err a) e = subst Said (sym (then_10_and_11 s no_1 no_2 c3 c4 a e)) (said_10_and_11 a e)

      said_4 : (v : Verdict) → check_limit s ≡ v → Said (admission s)
      unfolding check_limit
      said_4 (Ok u) e = said_5 e (check_corners s) refl
      said_4 (Err a) e =
          let (i, same, first) = told 4 (λ i. out_of_range (vertex s i)) (vertices s) a e in
          subst Said (sym (then_4 s no_1 no_2 c3 a e ∙ ap Err same)) (by_4 i no_1 no_2 no_3 (by_vertex s beyond whole ∙ somewhere (vertices s) _ i first) first)

    said_3 : (v : Verdict) → check_blanks s ≡ v → Said (admission s)
    unfolding check_blanks
    said_3 (Ok u) e = said_4 e (check_limit s) refl
    said_3 (Err a) e =
        let (i, same, first) = told 3 (λ i. blank (vertex s i)) (vertices s) a e in
        subst Said (sym (then_3 s no_1 no_2 a e ∙ ap Err same)) (by_3 i no_1 no_2 (by_vertex s is_nan whole ∙ somewhere (vertices s) _ i first) first)

  said_2 : uneven s ≡ false → (b : Bool) → too_many s ≡ b → Said (admission s)
  said_2 no_1 true e = subst Said (sym (then_2 s no_1 e)) (by_2 no_1 e)
  said_2 no_1 false e = said_3 no_1 e (check_blanks s) refl

  said_1 : (b : Bool) → uneven s ≡ b → Said (admission s)
  said_1 true e = subst Said (sym (first_1 s e)) (by_1 e)
  said_1 false e = said_2 e (too_many s) refl

  pub said : Said (admission s)
  said = said_1 (uneven s) refl

  -- ---- so
  placed : (v : Verdict) → Said v → (a : Answer) → v ≡ Err a → Placed s a
  unfolding answer
  placed v (by_1 _) a d = subst (Placed s) (ap answer d) at_1
  placed v (by_2 _ _) a d = subst (Placed s) (ap answer d) at_2
  placed v (by_3 i _ _ _ first) a d = subst (Placed s) (ap answer d) (at_3 i first)
  placed v (by_4 i _ _ _ _ first) a d = subst (Placed s) (ap answer d) (at_4 i first)
  placed v (by_10 f _ _ _ _ first h) a d = subst (Placed s) (ap answer d) (at_10 f first h)
  placed v (by_11 f _ _ _ _ first h t) a d = subst (Placed s) (ap answer d) (at_11 f first h t)
  placed v (by_6 f _ _ _ _ _ _ first) a d = subst (Placed s) (ap answer d) (at_6 f first)
  placed v (by_none _ _ _ _ _ _) a d = absurd (refused_accepted a (sym d))

  stays : (v : Verdict) → Said v → five_for (answer v).number ≡ (answer (admission_01 s)).number
  unfolding answer admission_01 in_order
  stays v (by_1 c1) = rw c1
  stays v (by_2 c1 c2) = rw (c1, c2)
  stays v (by_3 i c1 c2 c3 first) = rw (c1, c2, c3)
  stays v (by_4 i c1 c2 c3 c4 first) = rw (c1, c2, c3, c4)
  stays v (by_10 f c1 c2 c3 c4 first h) = rw (c1, c2, c3, c4, somewhere (facets s) (faulty s) f first)
  stays v (by_11 f c1 c2 c3 c4 first h t) = rw (c1, c2, c3, c4, somewhere (facets s) (faulty s) f first)
  stays v (by_6 f c1 c2 c3 c4 c5 c6 first) = rw (c1, c2, c3, c4, c5, c6)
  stays v (by_none c1 c2 c3 c4 c5 c6) = rw (c1, c2, c3, c4, c5, c6)

pub places : Places
places = record { place_holds = λ s a d. placed s (admission s) (said s) a d; numbers_stay = λ s. stays s (admission s) (said s) }
