-- How many vertices, edges and facets admitted solids have at most; and the list of half-edges has nine numbers for each facet.
use mathlib.Core.Path.{◌≡◌}
use Prim.Native.Nat.{◌+◌, ◌*◌}
use native.Mathlib.Omega.{arith}
use lib.ListN.{length, length-append}
use Rattle.list_words.proofs.Threes.{length_threes}
use Rattle.solids.specs.Solids.{Solid, facets, half_edges, edge_of}
use Rattle.solids.proofs.Admitted.{Passed}
use Rattle.solids.proofs.Room.{length_half_edges, edges_room}
use Rattle.layouts.specs.Words.{sizes, Sized, half_first, half_list, halves}

pub length_half_list : (s : Solid) → length (half_list s) ≡ 9 * facets s
unfolding half_list
length_half_list s = omega (arith, length_threes (half_first s) (λ h. (edge_of h).0) (λ h. (edge_of h).1) (half_edges s), length_half_edges s)

pub length_halves : (a b : Solid) → length (halves a b) ≡ 9 * (facets a + facets b)
unfolding halves
length_halves a b = omega (arith, length-append (half_list a) (half_list b), length_half_list a, length_half_list b)

pub sized : (a b : Solid) → Passed a → Passed b → Sized (sizes a b)
sized a b passed_a passed_b =
    record {
      va = passed_a.few_vertices;
      ea = omega (arith, edges_room a passed_a, passed_a.few_facets);
      fa = passed_a.few_facets;
      vb = passed_b.few_vertices;
      eb = omega (arith, edges_room b passed_b, passed_b.few_facets);
      fb = passed_b.few_facets;
    }
