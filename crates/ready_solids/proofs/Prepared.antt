-- A solid is ready once its edges are listed; and for two admitted solids, how much room the operation needs at most.
use mathlib.Core.Path.{◌≡◌, refl, ap, ◌∙◌}
use mathlib.Core.List.Memᴰ
use mathlib.Core.List.{List, [], ◌++◌, flat_map, append-nil}
use Prim.Native.Nat.{ℕ, ◌+◌, ◌*◌, ◌-◌, ◌≤◌}
use native.Mathlib.Omega.{arith}
use lib.Ieee.{Float}
use lib.ListN.{length, take, drop, replicate, length-append, length-replicate, drop_of_length-le}
use lib.Seq.{take_at, drop_at}
use Rattle.solids.specs.Solids.{Solid, solid, facets, edges}
use Rattle.solids.specs.Refusals.{accepted}
use Rattle.solids.specs.Admission.{admission}
use Rattle.solids.proofs.Admitted.{Passed, passed}
use Rattle.solids.proofs.Closure.{named}
use Rattle.edges.specs.Words.{Listed, Ready}
use Rattle.layouts.specs.Words.{sizes, Sized}
use Rattle.solids.proofs.Room.{edges_room}
use Rattle.layouts.proofs.Lengths.{sized}

-- ---- one solid
pub few_corners : {s : Solid} → Passed s → length s.corners ≤ 768
few_corners p = omega (arith, p.corners_whole, p.few_facets)

-- no edge is listed yet
pub listed_none : {ends : List ℕ} → length ends ≡ 768 → Listed [] ends (replicate 16384 0) 0
unfolding flat_map
listed_none room = record { many = refl; room = room; size = length-replicate {A = ℕ} 16384 0; front = λ few. refl; at = λ e m. absurd (Memᴰ.not-nil m) }

pub made_ready : (points : List Float) (corners : List ℕ) {ends numbers : List ℕ} {k : ℕ} → Passed (solid points corners) → Listed (edges (solid points corners)) ends numbers k → Ready points corners ends
made_ready points corners p listed =
    let s = solid points corners in
    let few : length (edges s) ≤ 384 = omega (arith, edges_room s p, p.few_facets) in
    record {
      named = named s p.corners_whole p.proper;
      few_points = omega (arith, p.points_whole, p.few_vertices);
      few = few_corners p;
      room = listed.room;
      edges_few = few;
      front = listed.front few;
    }

-- ---- two solids
module _ (a b : Solid) (ok_a : admission a ≡ accepted) (ok_b : admission b ≡ accepted) where
  pub admitted_sized : Sized (sizes a b)
  admitted_sized = sized a b (passed a ok_a) (passed b ok_b)

  pub few_halves : 9 * (facets a + facets b) ≤ 4608
  few_halves = let s = admitted_sized in omega arith

-- ---- what two slices of a list are put back to
module _ (x y d : List ℕ) (of_x : length x ≡ 768) (of_y : length y ≡ 768) (of_d : length d ≡ 768) where
  abbrev old : List ℕ
  old = x ++ d

  long : length old ≡ 1536
  long = length-append x d ∙ omega arith

  abbrev pub both_parts : List ℕ
  both_parts = take 768 old ++ (y ++ drop (length old - 768) (drop 768 old))

  pub first_part : take 768 both_parts ≡ x
  first_part = let e = take_at x d 768 of_x in take_at (take 768 old) _ 768 (ap length e ∙ of_x) ∙ e

  pub second_part : drop 768 both_parts ≡ y
  second_part =
      let n = length old - 768 in
      let h : length d ≤ n = omega (arith, long) in
      drop_at (take 768 old) _ 768 (ap length (take_at x d 768 of_x) ∙ of_x)
      ∙ ap (λ l. y ++ l) (ap (drop n) (drop_at x d 768 of_x) ∙ drop_of_length-le d h) ∙ append-nil y
