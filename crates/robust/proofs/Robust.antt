-- DEMAND 3, whole. The parts on the result of an operation are proved over the definitions, in the crates that have them; here they are carried to the
-- result's lists and collected.
use mathlib.Core.Path.{◌≡◌, refl, sym, subst, ◌∙◌}
use mathlib.Core.List.{List, ◌∷◌, [], flat_map}
use Prim.Native.Nat.{ℕ, ◌≤◌, ◌<◌, ◌%◌}
use lib.ListN.{length}
use lib.Ieee.{Float, is_nan}
use mathlib.Core.Bool.{false}
use Rattle.list_words.proofs.Sums.{All, all_at, all_mono}
use Rattle.list_words.proofs.Threes.{third_threes, rest_threes}
use Rattle.solids.specs.Refusals.{accepted}
use Rattle.solids.specs.Solids.{Solid, vertices, facets, corner, half_edges, number_of}
use Rattle.solids.specs.Admission.{beyond, admission}
use Rattle.solids.proofs.Admitted.{Proper, Passed, passed, admitted}
use Rattle.solids.proofs.Shut as Of
use Rattle.solids.proofs.Laid.{laid_whole, laid_half_edges, laid_each}
use Rattle.solids.proofs.Limit.{Near, near, near_number, near_within}
use Rattle.results.specs.declared.Operation.{Operation}
use Rattle.std.specs.Prelude.{Some}
use Rattle.results.specs.Inclusion.{Key, chosen, inclusion, place}
use Rattle.results.specs.Vertices.{keys, kept, number}
use Rattle.results.specs.Triangles.{Triangle, triangles, listed, result}
use Rattle.results.proofs.Refusals.{by_code, else_done}
use Rattle.results.proofs.Adding.{Shut, inclusion_adds}
use Rattle.results.proofs.Closed.{triangles_closed}
use Rattle.results.proofs.Corners.{triangles_proper}
use Rattle.results.proofs.Limit.{result_near}
use Rattle.robust.specs.Robust.{solid_of, RobustResult, Robust}
use Rattle.robust.proofs.Lower.{lower_points}
use Rattle.robust.proofs.AddUp.{ends_add_up}

shut : (s : Solid) → Passed s → Shut s
shut s p = record { closed = Of.closed s p; simple = Of.simple s p }

all_near : (s : Solid) → Passed s → All Near s.points
all_near s p = go s.points p.present p.near
  where
    go : (xs : List Float) → All (λ x. is_nan x ≡ false) xs → All (λ x. beyond x ≡ false) xs → All Near xs
    go [] n e = tt
    go (x ∷ xs) n e = (near x n.0 e.0, go xs n.1 e.1)

module _ (op : Operation) (a b : Solid) (passed_a : Passed a) (passed_b : Passed b) where
  abbrev r : Solid
  r = solid_of (result op a b)

  abbrev ks : List Key
  ks = kept (inclusion op a b) (keys a b)

  abbrev ts : List Triangle
  ts = triangles (inclusion op a b) (number (inclusion op a b) (keys a b)) a b

  -- the two lists: three coordinates a kept vertex, three corners a triangle
  laid : r.corners ≡ flat_map (λ (t : Triangle). t.a ∷ t.p ∷ t.q ∷ []) ts
  unfolding result listed
  laid = refl

  counted : vertices r ≡ length ks
  unfolding result listed
  counted = third_threes (λ k. (place a b k).x) (λ k. (place a b k).y) (λ k. (place a b k).z) ks

  whole : length r.points % 3 ≡ 0
  unfolding result listed
  whole = rest_threes (λ k. (place a b k).x) (λ k. (place a b k).y) (λ k. (place a b k).z) ks

  closed : (h : ℕ × ℕ) → number_of h (half_edges r) ≡ number_of (h.1, h.0) (half_edges r)
  closed h =
      rw (laid_half_edges (λ (t : Triangle). t.a) (λ (t : Triangle). t.p) (λ (t : Triangle). t.q) ts r laid)
      (triangles_closed (inclusion op a b) (number (inclusion op a b) (keys a b)) a b (inclusion_adds op a b (shut a passed_a) (shut b passed_b)) (shut a passed_a) (shut b passed_b) h)

  proper : (t : ℕ) → t < facets r → Proper (vertices r) (corner r t 0) (corner r t 1) (corner r t 2)
  proper =
      laid_each (λ (t : Triangle). t.a) (λ (t : Triangle). t.p) (λ (t : Triangle). t.q) ts r laid (Proper (vertices r))
      (subst (λ n. All (λ (t : Triangle). Proper n t.a t.p t.q) ts) (sym counted) (triangles_proper (inclusion op a b) a b passed_a passed_b))

  within : All Near r.points
  within = result_near op a b (all_near a passed_a) (all_near b passed_b)

  again : vertices r ≤ 128 → facets r ≤ 256 → admission r ≡ accepted
  again v f =
      admitted r
      (record {
        points_whole = whole;
        corners_whole = laid_whole (λ (t : Triangle). t.a) (λ (t : Triangle). t.p) (λ (t : Triangle). t.q) ts r laid;
        few_vertices = v;
        few_facets = f;
        present = all_mono Near (λ x. is_nan x ≡ false) r.points near_number within;
        near = all_mono Near (λ x. beyond x ≡ false) r.points near_within within;
        proper = proper;
        closed = closed;
      })

robust_result : (code : ℕ) (op : Operation) → chosen code ≡ Some op → (a b : Solid) → admission a ≡ accepted → admission b ≡ accepted
    → RobustResult code op a b
robust_result code op known a b ok_a ok_b =
    let pa = passed a ok_a in
    let pb = passed b ok_b in
    record {
      given = λ l room. by_code a b l op code known ∙ else_done a b l op ok_a ok_b room;
      closed = closed op a b pa pb;
      corners =
          λ t i. let h = proper op a b pa pb t i in
          record { below_0 = h.below_p; below_1 = h.below_q; below_2 = h.below_r; apart_01 = h.apart_pq; apart_12 = h.apart_qr; apart_20 = h.apart_rp };
      present = λ x m. near_number x (all_at Near m (within op a b pa pb));
      within = λ x m. near_within x (all_at Near m (within op a b pa pb));
      admitted = again op a b pa pb;
      ends = λ e m. ends_add_up a b e;
    }

pub robust : Robust
robust = record { lower_points = lower_points; of_result = robust_result }
