-- What two walks' lists come to is what their files do: where all is kept the fronts are the files' solids, and where not, both are refused by 2.
use mathlib.Core.Path.{◌≡◌, refl, sym, ap, ap₂, ◌∙◌, subst}
use mathlib.Core.Bool.{Bool, true, false}
use mathlib.Core.List.{List}
use Prim.Native.Nat.{ℕ, ◌+◌, ◌-◌, ◌≤◌, ◌<◌}
use native.Mathlib.Omega.{arith}
use lib.ListN.{length, take, drop, length-drop}
use lib.Seq.{take_all}
use lib.Ieee.{Float}
use borrow.Author.Tests.{ne_eqb, eq-eqb}
use Rattle.solids.specs.declared.Answer.{Answer}
use Rattle.solids.specs.Refusals.{Verdict, accepted, answer_of, on_solid, of_A, of_B}
use Rattle.std.specs.Prelude.{Ok, Err}
use Rattle.solids.specs.Solids.{Solid, solid}
use Rattle.solids.specs.Admission.{admission}
use Rattle.solids.proofs.Orders.{then_2}
use Rattle.solids.proofs.Checks.{refused_accepted}
use Rattle.results.specs.declared.Operation.{Operation}
use Rattle.results.specs.Operation.{refusal, operate}
use Rattle.results.proofs.Refusals.{then_A, then_B}
use Rattle.housefile.specs.Reader.{Layout, fault, layout}
use Rattle.housefile.proofs.Grammar.{layout_follows}
use Rattle.housefile.proofs.Files.{follows_within}
use Rattle.housefile_reader.specs.declared.Walk.{Walk}
use Rattle.housefile_reader.specs.Words.{many, Found}
use Rattle.housefile_reader.proofs.Outcomes.{even_found, too_many_found, points_front, corners_front, few}
use Rattle.solid_line.specs.Line.{room, of_files}
use Rattle.solid_input.specs.Words.{front, kept_admission, of_walks, of_bytes, Rooms, Tells}

-- ---- one walk
module _ (w : Walk) (ps : List Float) (cs : List ℕ) where
  kept_many : many w ≡ true → kept_admission w ps cs ≡ Err (on_solid 2 0)
  unfolding kept_admission
  kept_many e = rw e

  kept_few : many w ≡ false → kept_admission w ps cs ≡ admission (front w ps cs)
  unfolding kept_admission
  kept_few e = rw e

  accepted_few : kept_admission w ps cs ≡ accepted → many w ≡ false
  accepted_few a = by_many (many w) refl
    where
      by_many : (b : Bool) → many w ≡ b → many w ≡ false
      by_many true e = absurd (refused_accepted _ (sym (kept_many e) ∙ a))
      by_many false e = e

  module _ (l : Layout) (f : Found l w ps cs) where
    front_found : many w ≡ false → front w ps cs ≡ solid f.xs f.ds
    front_found e =
        let (v, n) = few w e in
        ap₂ solid (points_front l w ps cs f v) (corners_front l w ps cs f n)

    kept_found : kept_admission w ps cs ≡ admission (solid f.xs f.ds)
    kept_found = by_many (many w) refl
      where
        by_many : (b : Bool) → many w ≡ b → kept_admission w ps cs ≡ admission (solid f.xs f.ds)
        by_many true e = kept_many e ∙ sym (then_2 (solid f.xs f.ds) (even_found l w ps cs f) (too_many_found l w ps cs f ∙ e))
        by_many false e = kept_few e ∙ ap admission (front_found e)

-- ---- two walks
module _ (op : Operation) (w : Walk) (ps : List Float) (cs : List ℕ) (v : Walk) (qs : List Float) (es : List ℕ) where
  pub then_A_kept : (n : Answer) → of_A (kept_admission w ps cs) ≡ Err n → of_walks op w ps cs v qs es ≡ Err n
  unfolding of_walks
  then_A_kept n e = rw e

  pub then_B_kept : (n : Answer) → kept_admission w ps cs ≡ accepted → of_B (kept_admission v qs es) ≡ Err n → of_walks op w ps cs v qs es ≡ Err n
  unfolding of_walks
  then_B_kept n d e = rw (d, e)

  pub then_both : kept_admission w ps cs ≡ accepted → kept_admission v qs es ≡ accepted
      → of_walks op w ps cs v qs es ≡ Ok (record { operation = op; first = w; second = v })
  unfolding of_walks
  then_both d e = rw (d, e)

  module _ (rooms : Rooms ps cs qs es) (l : Layout) (f : Found l w ps cs) (m : Layout) (g : Found m v qs es) where
    abbrev a : Solid
    a = solid f.xs f.ds

    abbrev b : Solid
    b = solid g.xs g.ds

    by_verdicts : (i j : Verdict) → kept_admission w ps cs ≡ i → kept_admission v qs es ≡ j → Tells (operate op a b room) (of_walks op w ps cs v qs es) ps cs qs es
    by_verdicts (Err k) j d e = rw (then_A_kept _ (ap of_A d)) (then_A a b room op _ (ap of_A (sym (kept_found w ps cs l f) ∙ d)))
    by_verdicts (Ok t) (Err k) d e =
        rw (then_B_kept _ d (ap of_B e)) (then_B a b room op _ (sym (kept_found w ps cs l f) ∙ d) (ap of_B (sym (kept_found v qs es m g) ∙ e)))
    by_verdicts (Ok t) (Ok u) d e =
        let no_w = accepted_few w ps cs d in
        let no_v = accepted_few v qs es e in
        rw (then_both d e)
        record {
          rooms = rooms;
          few_A = few w no_w;
          few_B = few v no_v;
          operated = sym (ap₂ (λ s t. operate op s t room) (front_found w ps cs l f no_w) (front_found v qs es m g no_v));
        }

    of_walks_found : Tells (operate op a b room) (of_walks op w ps cs v qs es) ps cs qs es
    of_walks_found = by_verdicts (kept_admission w ps cs) (kept_admission v qs es) refl refl

-- ---- two files behind each other
module _ (op : Operation) (bs : List ℕ) where
  pub first_fault : layout bs ≡ fault → of_bytes op bs ≡ refusal (answer_of 9) room
  unfolding of_bytes
  first_fault e = rw e

  -- a walk over the first, and one over all the bytes behind it
  module _ (w : Walk) (ps : List Float) (cs : List ℕ) (f : Found (layout bs) w ps cs) where
    pub within_A : w.used ≤ length bs
    within_A = let (vs, fs, h, p, q) = layout_follows bs w.used f.xs f.ds f.as_laid in follows_within h

    abbrev behind_A : List ℕ
    behind_A = take (length bs - w.used) (drop w.used bs)

    all_behind : behind_A ≡ drop w.used bs
    all_behind = take_all (length bs - w.used) (drop w.used bs) (rw (length-drop w.used bs) (let h = within_A in omega arith))

    pub second_fault : layout behind_A ≡ fault → of_bytes op bs ≡ refusal (answer_of 9) room
    unfolding of_bytes
    second_fault k = rw (f.as_laid, ap layout (sym all_behind) ∙ k)

    module _ (v : Walk) (qs : List Float) (es : List ℕ) (t : Found (layout behind_A) v qs es) where
      g : Found (layout (drop w.used bs)) v qs es
      g = subst (λ l. Found (layout l) v qs es) all_behind t

      pub within_both : w.used + v.used ≤ length bs
      within_both =
          let (vs, fs, h, p, q) = layout_follows (drop w.used bs) v.used g.xs g.ds g.as_laid in
          omega (arith, within_A, length-drop w.used bs, follows_within h)

      pub trailing : w.used + v.used < length bs → of_bytes op bs ≡ refusal (answer_of 9) room
      unfolding of_bytes
      trailing h = rw (f.as_laid, g.as_laid, of_files, ne_eqb (w.used + v.used) (length bs) (λ all. omega arith))

      both_laid : length bs ≤ w.used + v.used → of_bytes op bs ≡ operate op (solid f.xs f.ds) (solid g.xs g.ds) room
      unfolding of_bytes
      both_laid h = rw (f.as_laid, g.as_laid, of_files, eq-eqb (w.used + v.used) (length bs) (omega (arith, within_both)))

      pub both_found : length bs ≤ w.used + v.used → Rooms ps cs qs es → Tells (of_bytes op bs) (of_walks op w ps cs v qs es) ps cs qs es
      both_found h rooms = rw (both_laid h) (of_walks_found op w ps cs v qs es rooms (layout bs) f (layout (drop w.used bs)) g)
