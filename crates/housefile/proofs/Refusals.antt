-- "Reader's order: 9, then 2, 8, 3 to 6." and "The writer checks 1 to 6, then 8.": what `read` and `write` give, refusal by refusal, whatever else is
-- wrong. Then that a refusal gives zero counts and the lent lists as they were, and what answer 0 says.
use mathlib.Core.Path.{◌≡◌, refl, ap, ◌∙◌}
use mathlib.Core.Logic.{◌≢◌}
use mathlib.Core.Bool.{Bool, true, false}
use mathlib.Core.List.{List, [], ◌∷◌, map}
use Prim.Native.Nat.{ℕ, suc, ◌%◌, ◌<◌, ◌≤◌}
use native.Mathlib.Omega.{arith}
use lib.ListN.{length}
use lib.Dec.{ltb}
use lib.Ieee.{Float}
use borrow.Author.Tests.{lt-ltb, le-ltb, ltb-false}
use Rattle.list_words.specs.Lists.{up_to, any, onto}
use Rattle.list_words.proofs.Sums.{All, all_map_of}
use Rattle.list_words.proofs.Tests.{or-false}
use Rattle.list_words.proofs.UpTo.{all_up_to}
use Rattle.solids.specs.declared.Answer.{Answer}
use Rattle.solids.specs.Refusals.{Verdict, accepted, nobody, only_solid, answer, answer_of, no_refusal, on_solid, given, in_order, at_each}
use Rattle.std.specs.Prelude.{Ok, Err}
use Rattle.solids.specs.Solids.{Solid, vertices, facets, vertex, half_edges, pairs}
use Rattle.solids.specs.Admission.{uneven, too_many, blank, out_of_range, high, twice, differ, check_lengths, check_sizes, check_blanks, check_limit, check_facet, check_corners, check_closure, admission}
use Rattle.solids.proofs.Checks.{all_accepted, accepted_all, not_given}
use Rattle.housefile.specs.Reader.{Layout, Reading, fault, laid, layout, unread, reading, too_short, read_solid, by_layout, read}
use Rattle.housefile.specs.Writer.{file, unwritten, writing, write}

-- ---- the reader
module _ (bs : List ℕ) (ps : List Float) (cs : List ℕ) where
  pub read_first_9 : layout bs ≡ fault → read bs ps cs ≡ unread (answer_of 9) ps cs
  unfolding read
  read_first_9 e = rw e

  module _ (used : ℕ) (s : Solid) (follows : layout bs ≡ laid used s.points s.corners) where
    pub read_checked : read bs ps cs ≡ reading (read_solid s ps cs) used s ps cs
    unfolding read
    read_checked = ap (λ l. by_layout l ps cs) follows

    pub read_then_2 : too_many s ≡ true → read bs ps cs ≡ unread (on_solid 2 0) ps cs
    unfolding read_solid in_order check_sizes
    read_then_2 e = read_checked ∙ rw e

    module _ (no_2 : too_many s ≡ false) where
      pub read_then_8 : too_short ps cs s ≡ true → read bs ps cs ≡ unread (answer_of 8) ps cs
      unfolding read_solid in_order check_sizes
      read_then_8 e = read_checked ∙ rw (no_2, e)

      module _ (no_8 : too_short ps cs s ≡ false) where
        pub read_then_3 : (a : Answer) → check_blanks s ≡ Err a → read bs ps cs ≡ unread a ps cs
        unfolding read_solid in_order check_sizes
        read_then_3 a e =
            read_checked ∙ rw (no_2, no_8) (ap (λ v. reading (in_order (v ∷ check_limit s ∷ check_corners s ∷ check_closure s ∷ [])) used s ps cs) e)

        module _ (no_3 : check_blanks s ≡ accepted) where
          pub read_then_4 : (a : Answer) → check_limit s ≡ Err a → read bs ps cs ≡ unread a ps cs
          unfolding read_solid in_order check_sizes
          read_then_4 a e = read_checked ∙ rw (no_2, no_8, no_3, e)

          module _ (no_4 : check_limit s ≡ accepted) where
            pub read_then_10_and_11 : (a : Answer) → check_corners s ≡ Err a → read bs ps cs ≡ unread a ps cs
            unfolding read_solid in_order check_sizes
            read_then_10_and_11 a e = read_checked ∙ rw (no_2, no_8, no_3, no_4, e)

            module _ (no_10_and_11 : check_corners s ≡ accepted) where
              pub read_then_6 : (a : Answer) → check_closure s ≡ Err a → read bs ps cs ≡ unread a ps cs
              unfolding read_solid in_order check_sizes
              read_then_6 a e = read_checked ∙ rw (no_2, no_8, no_3, no_4, no_10_and_11, e)

              pub read_else : check_closure s ≡ accepted
                  → read bs ps cs
                  ≡ record {
                    answer = no_refusal;
                    vertices = vertices s;
                    facets = facets s;
                    used = used;
                    points = onto s.points ps;
                    corners = onto s.corners cs;
                  }
              unfolding read_solid in_order check_sizes
              read_else e = read_checked ∙ rw (no_2, no_8, no_3, no_4, no_10_and_11, e)

-- ---- the writer
module _ (s : Solid) (lent : List ℕ) where
  pub write_first : (n : Answer) → admission s ≡ Err n → write s lent ≡ unwritten n lent
  unfolding write in_order
  write_first n e = rw e

  module _ (fine : admission s ≡ accepted) where
    pub write_then_8 : length lent < length (file s) → write s lent ≡ unwritten (answer_of 8) lent
    unfolding write in_order
    write_then_8 h = rw (fine, lt-ltb (length lent) (length (file s)) h)

    pub write_else : length (file s) ≤ length lent → write s lent ≡ record { answer = no_refusal; used = length (file s); bytes = onto (file s) lent }
    unfolding write in_order
    write_else h = rw (fine, le-ltb (length lent) (length (file s)) h)

-- ---- a refusal gives zero counts and the lent lists as they were
pub read_refusal : (bs : List ℕ) (ps : List Float) (cs : List ℕ) → (read bs ps cs).answer.number ≢ 0
    → read bs ps cs ≡ record { answer = (read bs ps cs).answer; vertices = 0; facets = 0; used = 0; points = ps; corners = cs }
unfolding read
read_refusal bs ps cs = by_case (layout bs)
  where
    Plain : Reading → Type 0
    Plain r = r ≡ record { answer = r.answer; vertices = 0; facets = 0; used = 0; points = ps; corners = cs }

    checked : (v : Verdict) (used : ℕ) (s : Solid) → (reading v used s ps cs).answer.number ≢ 0 → Plain (reading v used s ps cs)
    checked (Ok u) used s d = absurd (d refl)
    checked (Err n) used s d = refl

    by_case : (l : Layout) → (by_layout l ps cs).answer.number ≢ 0 → Plain (by_layout l ps cs)
    by_case fault d = refl
    by_case (laid used xs ds) d = let s : Solid = record { points = xs; corners = ds } in checked (read_solid s ps cs) used s d

pub write_refusal : (s : Solid) (lent : List ℕ) → (write s lent).answer.number ≢ 0
    → write s lent ≡ record { answer = (write s lent).answer; used = 0; bytes = lent }
unfolding write
write_refusal s lent = by_case (in_order (admission s ∷ given (answer_of 8) (ltb (length lent) (length (file s))) ∷ []))
  where
    by_case : (v : Verdict) → (writing v (file s) lent).answer.number ≢ 0
        → writing v (file s) lent ≡ record { answer = (writing v (file s) lent).answer; used = 0; bytes = lent }
    by_case (Ok u) d = absurd (d refl)
    by_case (Err n) d = refl

-- ---- answer 0 is success: no check refuses with the number 0
abbrev pub Numbered : Verdict → Type 0
Numbered v = (answer v).number ≡ 0 → v ≡ accepted

pub in_order_numbered : (vs : List Verdict) → All Numbered vs → Numbered (in_order vs)
unfolding in_order
in_order_numbered [] a e = refl
in_order_numbered (Ok u ∷ vs) a e = in_order_numbered vs a.1 e
in_order_numbered (Err n ∷ vs) a e = a.0 e

pub given_numbered : (n who place : ℕ) (b : Bool) → Numbered (given record { number = suc n; who = who; place = place } b)
unfolding answer
given_numbered n who place true e = absurd (omega arith)
given_numbered n who place false e = refl

each_numbered : (n : ℕ) (check : ℕ → Verdict) → ((i : ℕ) → Numbered (check i)) → Numbered (at_each n check)
each_numbered n check each = in_order_numbered (map check (up_to n)) (all_map_of Numbered check (up_to n) (all_up_to (λ i. Numbered (check i)) n (λ i h. each i)))

module _ (s : Solid) where
  abbrev pub later_checks : List Verdict
  later_checks = check_blanks s ∷ check_limit s ∷ check_corners s ∷ check_closure s ∷ []

  facet_numbered : (f : ℕ) → Numbered (check_facet s f)
  unfolding check_facet
  facet_numbered f = in_order_numbered (_ ∷ _ ∷ []) (given_numbered 9 only_solid f (high s f), (given_numbered 10 only_solid f (twice s f), tt))

  later_numbered : All Numbered later_checks
  unfolding check_blanks check_limit check_corners check_closure
  later_numbered = (
    each_numbered (vertices s) (λ i. given (on_solid 3 i) (blank (vertex s i))) (λ i. given_numbered 2 only_solid i (blank (vertex s i))),
    (
      each_numbered (vertices s) (λ i. given (on_solid 4 i) (out_of_range (vertex s i))) (λ i. given_numbered 3 only_solid i (out_of_range (vertex s i))),
      (each_numbered (facets s) (check_facet s) facet_numbered, (given_numbered 5 only_solid _ (any (differ (half_edges s)) (pairs (vertices s))), tt)),
    ),
  )

  pub admission_numbered : Numbered (admission s)
  unfolding admission check_lengths check_sizes
  admission_numbered =
      in_order_numbered (check_lengths s ∷ check_sizes s ∷ later_checks)
      (given_numbered 0 only_solid 0 (uneven s), (given_numbered 1 only_solid 0 (too_many s), later_numbered))

  read_solid_numbered : (ps : List Float) (cs : List ℕ) → Numbered (read_solid s ps cs)
  unfolding read_solid check_sizes
  read_solid_numbered ps cs =
      in_order_numbered (check_sizes s ∷ given (answer_of 8) (too_short ps cs s) ∷ later_checks)
      (given_numbered 1 only_solid 0 (too_many s), (given_numbered 7 nobody 0 (too_short ps cs s), later_numbered))

pub read_success : (bs : List ℕ) (ps : List Float) (cs : List ℕ) → (read bs ps cs).answer.number ≡ 0
    → (used : ℕ) × (s : Solid) × (layout bs ≡ laid used s.points s.corners) × (read_solid s ps cs ≡ accepted)
unfolding read answer
read_success bs ps cs = by_case (layout bs)
  where
    checked : (v : Verdict) (used : ℕ) (s : Solid) → (reading v used s ps cs).answer.number ≡ 0 → (answer v).number ≡ 0
    checked (Ok u) used s e = refl
    checked (Err n) used s e = e

    by_case : (l : Layout) → (by_layout l ps cs).answer.number ≡ 0
        → (used : ℕ) × (s : Solid) × (l ≡ laid used s.points s.corners) × (read_solid s ps cs ≡ accepted)
    by_case fault e = absurd (omega arith)
    by_case (laid used xs ds) e =
        let s : Solid = record { points = xs; corners = ds } in
        (used, s, refl, read_solid_numbered s ps cs (checked (read_solid s ps cs) used s e))

pub write_success : (s : Solid) (lent : List ℕ) → (write s lent).answer.number ≡ 0 → (admission s ≡ accepted) × (length (file s) ≤ length lent)
unfolding write answer
write_success s lent e =
    let numbered = in_order_numbered checks (admission_numbered s, (given_numbered 7 nobody 0 (ltb (length lent) (length (file s))), tt)) in
    let (a, (b, end)) = all_accepted checks (numbered (checked (in_order checks) e)) in
    (a, ltb-false _ _ (not_given _ _ b))
  where
    checks : List Verdict
    checks = admission s ∷ given (answer_of 8) (ltb (length lent) (length (file s))) ∷ []

    checked : (v : Verdict) → (writing v (file s) lent).answer.number ≡ 0 → (answer v).number ≡ 0
    checked (Ok u) e = refl
    checked (Err n) e = e

-- ---- the reader's checks and admission: of lists of whole threes they differ by 8 alone
pub even : (s : Solid) → length s.points % 3 ≡ 0 → length s.corners % 3 ≡ 0 → uneven s ≡ false
unfolding uneven
even s p c = rw (p, c)

module _ (s : Solid) (ps : List Float) (cs : List ℕ) where
  pub long_enough : length s.points ≤ length ps → length s.corners ≤ length cs → too_short ps cs s ≡ false
  unfolding too_short
  long_enough h k = rw (le-ltb (length ps) (length s.points) h, le-ltb (length cs) (length s.corners) k)

  pub not_too_short : too_short ps cs s ≡ false → (length s.points ≤ length ps) × (length s.corners ≤ length cs)
  unfolding too_short
  not_too_short e =
      let r = or-false (ltb (length ps) (length s.points)) (ltb (length cs) (length s.corners)) e in
      (ltb-false _ _ r.0, ltb-false _ _ r.1)

  pub read_as_admission : uneven s ≡ false → too_many s ≡ false → too_short ps cs s ≡ false → read_solid s ps cs ≡ admission s
  unfolding admission read_solid check_lengths check_sizes in_order
  read_as_admission e1 e2 e8 = rw (e1, e2, e8)

  pub admitted_read : admission s ≡ accepted → too_short ps cs s ≡ false → read_solid s ps cs ≡ accepted
  unfolding admission read_solid
  admitted_read e h =
      let (c1, (c2, (c3, (c4, (c5, (c6, end)))))) = all_accepted _ e in
      accepted_all _ (c2, (ap (given (answer_of 8)) h, (c3, (c4, (c5, (c6, tt))))))

  pub read_admitted : uneven s ≡ false → read_solid s ps cs ≡ accepted → (admission s ≡ accepted) × (too_short ps cs s ≡ false)
  unfolding admission read_solid check_lengths
  read_admitted w e =
      let (c2, (c8, (c3, (c4, (c5, (c6, end)))))) = all_accepted _ e in
      (accepted_all _ (ap (given (on_solid 1 0)) w, (c2, (c3, (c4, (c5, (c6, tt)))))), not_given _ _ c8)
