-- What the reader answers: 9, 2 and 8 by the numbers that a walk found, and past them the solid's admission.
use mathlib.Core.Path.{◌≡◌, sym, ap, ap₂, ◌∙◌, subst}
use mathlib.Core.Bool.{false, ◌||◌}
use mathlib.Core.Logic.{◌⊎◌, inl, inr}
use mathlib.Core.List.{List, ◌++◌}
use Prim.Native.Nat.{ℕ, ◌*◌, ◌<◌, ◌≤◌}
use native.Mathlib.Omega.{arith}
use lib.ListN.{length, take, length-take}
use lib.Dec.{ltb}
use lib.Ieee.{Float}
use borrow.Author.Tests.{lt-ltb, le-ltb, ltb-false}
use Rattle.list_words.proofs.Tests.{or-false}
use Rattle.solids.specs.declared.Answer.{Answer}
use Rattle.std.specs.Prelude.{Err}
use Rattle.solids.specs.Refusals.{answer_of, in_order}
use Rattle.solids.specs.Solids.{Solid, solid, vertices, facets}
use Rattle.solids.specs.Admission.{uneven, too_many, check_sizes, admission}
use Rattle.solids.proofs.Checks.{early}
use Rattle.housefile_reader.specs.declared.Walk.{Walk}
use Rattle.housefile.specs.Reader.{Layout, unread, reading, too_short, read_solid, by_layout}
use Rattle.housefile_reader.specs.Words.{Found, many, check_many, short, by_numbers, handed_over}
use Rattle.housefile.proofs.Refusals.{later_checks, even, read_as_admission}

there : {A : Type 0} (n : ℕ) (l : List A) → length (take n l) ≡ n → n ≤ length l
there n l e = omega (arith, e, length-take n l)

pub few : (w : Walk) → many w ≡ false → (w.vertices ≤ 128) × (w.facets ≤ 256)
few w e = let (no_v, no_f) = or-false (ltb 128 w.vertices) (ltb 256 w.facets) e in (ltb-false _ _ no_v, ltb-false _ _ no_f)

module _ (l : Layout) (w : Walk) (kept_points : List Float) (kept_corners : List ℕ) (f : Found l w kept_points kept_corners) where
  abbrev pub found : Solid
  found = solid f.xs f.ds

  -- ---- what a walk found, by its numbers
  pub even_found : uneven found ≡ false
  even_found = even found (omega (arith, f.points_long)) (omega (arith, f.corners_long))

  pub too_many_found : too_many found ≡ many w
  unfolding too_many
  too_many_found = let v : vertices found ≡ w.vertices = omega (arith, f.points_long) in let n : facets found ≡ w.facets = omega (arith, f.corners_long) in rw (v, n)

  pub points_front : w.vertices ≤ 128 → take (3 * w.vertices) kept_points ≡ f.xs
  points_front h = subst (λ n. take n kept_points ≡ f.xs) f.points_long (f.points_held (omega (arith, f.points_long)))

  pub corners_front : w.facets ≤ 256 → take (3 * w.facets) kept_corners ≡ f.ds
  corners_front h = subst (λ n. take n kept_corners ≡ f.ds) f.corners_long (f.corners_held (omega (arith, f.corners_long)))

  -- ---- the reader, by the numbers that a walk found
  module _ (ps : List Float) (cs : List ℕ) where
    too_short_found : too_short ps cs found ≡ short w (length ps) (length cs)
    unfolding too_short
    too_short_found = ap₂ (λ n m. ltb (length ps) n || ltb (length cs) m) f.points_long f.corners_long

    checks_found : read_solid found ps cs ≡ in_order (by_numbers w (length ps) (length cs) ++ later_checks found)
    unfolding read_solid check_sizes in_order
    checks_found = rw (too_many_found, too_short_found)

    refused_by_numbers : (n : Answer) → in_order (by_numbers w (length ps) (length cs)) ≡ Err n → unread n ps cs ≡ by_layout l ps cs
    unfolding in_order
    refused_by_numbers n d =
        sym (ap (λ v. by_layout v ps cs) f.as_laid
        ∙ ap (λ v. reading v w.used found ps cs) (checks_found ∙ early (by_numbers w (length ps) (length cs)) (later_checks found) n d))

    pub refused_by_2 : (n : Answer) → check_many w ≡ Err n → unread n ps cs ≡ by_layout l ps cs
    unfolding in_order
    refused_by_2 n d = refused_by_numbers n (rw d)

    module _ (n2 : many w ≡ false) where
      pub refused_by_8 : (length ps < 3 * w.vertices) ⊎ ((3 * w.vertices ≤ length ps) × (length cs < 3 * w.facets)) → unread (answer_of 8) ps cs ≡ by_layout l ps cs
      unfolding in_order
      refused_by_8 (inl p) = refused_by_numbers (answer_of 8) (rw (n2, lt-ltb (length ps) (3 * w.vertices) p))
      refused_by_8 (inr (p, c)) = refused_by_numbers (answer_of 8) (rw (n2, le-ltb (length ps) (3 * w.vertices) p, lt-ltb (length cs) (3 * w.facets) c))

    -- past them, the solid in the fronts of what was kept
    pub record Past : Type 0 where
      pub points_there : 3 * w.vertices ≤ length kept_points
      pub corners_there : 3 * w.facets ≤ length kept_corners
      pub rest : by_layout l ps cs ≡ handed_over (solid (take (3 * w.vertices) kept_points) (take (3 * w.facets) kept_corners)) w.used ps cs

    pub past : many w ≡ false → 3 * w.vertices ≤ length ps → 3 * w.facets ≤ length cs → Past
    past n2 p c =
        let n8 : short w (length ps) (length cs) ≡ false = rw (le-ltb (length ps) (3 * w.vertices) p, le-ltb (length cs) (3 * w.facets) c) in
        let (few_v, few_f) = few w n2 in
        let front_p : take (3 * w.vertices) kept_points ≡ f.xs = points_front few_v in
        let front_c : take (3 * w.facets) kept_corners ≡ f.ds = corners_front few_f in
        let same : read_solid found ps cs ≡ admission found =
        read_as_admission found ps cs even_found (too_many_found ∙ n2) (too_short_found ∙ n8) in
        record {
          points_there = there (3 * w.vertices) kept_points (ap length front_p ∙ f.points_long);
          corners_there = there (3 * w.facets) kept_corners (ap length front_c ∙ f.corners_long);
          rest =
              ap (λ v. by_layout v ps cs) f.as_laid
              ∙ ap (λ v. reading v w.used found ps cs) same
              ∙ sym (λ i. reading (admission (solid (front_p i) (front_c i))) w.used (solid (front_p i) (front_c i)) ps cs);
        }
