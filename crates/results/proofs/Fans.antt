-- The fan over a facet's boundary: its triangles have three different corners, and it turns as its boundary does.
use mathlib.Core.Path.{◌≡◌, ◌∙◌}
use mathlib.Core.Logic.{◌≢◌}
use mathlib.Core.Bool.{Bool, true, not}
use mathlib.Core.List.{List, [], ◌∷◌, flat_map}
use Prim.Native.Nat.{ℕ}
use lib.Dec.{eqb, eqb_refl, eqb→eq}
use lib.IntN.{ℤ}
use Rattle.list_words.specs.Lists.{keep, sum_of}
use Rattle.list_words.proofs.Sums.{All, all_mono, all_both, all_map_of, sum_map}
use Rattle.list_words.proofs.Tests.{all_keep}
use Rattle.list_words.proofs.Fans.{fan_apart, least_lt, fan_sum}
use Rattle.solids.specs.Solids.{Half, half_edges_of}
use Rattle.solids.proofs.Admitted.{Proper, Between}
use Rattle.results.specs.Triangles.{Triangle, smallest, at_end, fan}
use Rattle.list_words.proofs.Closed.{Anti}
use Rattle.list_words.proofs.Signed.{Round}

-- ---- three different corners, where the boundary steps between different numbers below n
pub fan_proper : (n o : ℕ) (hs : List Half) → All (Between n) hs → All (λ (t : Triangle). Proper n t.a t.p t.q) (fan o hs)
unfolding fan keep smallest
fan_proper n o [] s = tt
fan_proper n o (k ∷ ks) s =
    all_map_of (λ (t : Triangle). Proper n t.a t.p t.q) (λ (h : Half). record { a = m; p = h.0; q = h.1; origin = o }) (keep test (k ∷ ks))
    (all_mono _ _ (keep test (k ∷ ks)) three
    (all_both _ _ (keep test (k ∷ ks)) (all_keep test (Between n) (k ∷ ks) s)
    (fan_apart eqb eqb_refl m (k ∷ ks) (all_mono (Between n) (λ h. h.0 ≢ h.1) (k ∷ ks) (λ h b. b.apart) s))))
  where
    m : ℕ
    m = smallest (k ∷ ks)

    test : Half → Bool
    test h = not (at_end m h)

    three : (h : Half) → ((test h ≡ true) × Between n h) × ((m ≢ h.0) × (h.0 ≢ h.1) × (h.1 ≢ m)) → Proper n m h.0 h.1
    three h r =
        record {
          below_p = least_lt k.0 n (flat_map (λ (j : Half). j.0 ∷ j.1 ∷ []) (k ∷ ks)) s.0.start;
          below_q = r.0.1.start;
          below_r = r.0.1.end;
          apart_pq = r.1.0;
          apart_qr = r.1.1;
          apart_rp = r.1.2;
        }

-- ---- its turns
abbrev pub triangle_half_edges : Triangle → List Half
triangle_half_edges t = half_edges_of t.a t.p t.q

-- what g is round a triangle
abbrev pub turn : (Half → ℤ) → Triangle → ℤ
turn G t = sum_of G (triangle_half_edges t)

pub fan_turns : (G : Half → ℤ) → Anti G → (o : ℕ) (hs : List Half) → Round hs → sum_of (turn G) (fan o hs) ≡ sum_of G hs
unfolding fan sum_of
fan_turns G anti o hs round =
    sum_map (turn G) (λ (h : Half). record { a = smallest hs; p = h.0; q = h.1; origin = o }) (keep (λ h. not (at_end (smallest hs) h)) hs)
    ∙ fan_sum eqb eqb→eq G anti (smallest hs) hs round
