-- What check 6 looks at in code: of proper facets every corner finds its row of the table, and it is enough to look at the half-edges that are there.
use mathlib.Core.Path.{◌≡◌, refl, sym, ap, ◌∙◌}
use mathlib.Core.Bool.{Bool, true, false}
use Prim.Native.Nat.{ℕ, zero, suc, ◌+◌, ◌*◌, ◌/◌, ◌%◌, ◌<◌, ◌≤◌}
use native.Mathlib.Omega.{arith}
use lib.Dec.{eqb, eqb→eq, eqb_refl}
use lib.ListN.{length, get_or}
use Rattle.list_words.specs.Lists.{any, up_to}
use Rattle.list_words.proofs.Sums.{All, all_at, all_mono}
use Rattle.list_words.proofs.Tests.{any_true, any_false, true_any}
use Rattle.list_words.proofs.Closed.{closed_of_all}
use Rattle.list_words.proofs.Searches.{any_flat_map, any_up_to_found}
use Rattle.solids.specs.Refusals.{Verdict, answer, on_solid, given, at_each}
use Rattle.std.specs.Prelude.{Ok, Err}
use Rattle.solids.specs.Solids.{Solid, vertices, facets, facet_half_edges, half_edges, pairs}
use Rattle.solids.specs.Admission.{differ, unmatched, check_half_edges, check_closure}
use Rattle.solids.specs.Words.{Low, Named}
use Rattle.solids.proofs.Pairs.{mem_pairs}
use Rattle.solids.proofs.Checks.{none_given, was_given, each_refused}
use Rattle.solids.proofs.Admitted.{All_proper, Between, sides, all_half_edges, Matched, matched, shut_back}

module _ (s : Solid) where
  -- every corner number names a vertex
  pub named : length s.corners % 3 ≡ 0 → All_proper s → Named s.points s.corners
  named whole proper i h = go (i / 3) (i % 3) (omega arith) (omega arith)
    where
      go : (f k : ℕ) → i ≡ 3 * f + k → k < 3 → get_or s.corners i 0 < vertices s
      go f zero e d = rw e (proper f (omega arith)).below_p
      go f (suc zero) e d = rw e (proper f (omega arith)).below_q
      go f (suc (suc zero)) e d = rw e (proper f (omega arith)).below_r
      go f (suc (suc (suc k))) e d = absurd (omega arith)

  pub low : length s.corners % 3 ≡ 0 → vertices s ≤ 128 → All_proper s → Low s.corners
  low whole few proper i h = let b = named whole proper i h in omega arith

  pub closure_there : All_proper s → any (differ (half_edges s)) (pairs (vertices s)) ≡ any (differ (half_edges s)) (half_edges s)
  closure_there proper = go (any (differ (half_edges s)) (half_edges s)) refl
    where
      between : All (Between (vertices s)) (half_edges s)
      between = all_half_edges (Between (vertices s)) s (λ f i. sides (proper f i))

      go : (b : Bool) → any (differ (half_edges s)) (half_edges s) ≡ b → any (differ (half_edges s)) (pairs (vertices s)) ≡ b
      go true e =
          let (h, m, d) = any_true (differ (half_edges s)) (half_edges s) e in
          let b = all_at (Between (vertices s)) m between in
          true_any (differ (half_edges s)) (mem_pairs (vertices s) h b.start b.end) d
      go false e =
          shut_back s (closed_of_all eqb eqb→eq eqb_refl (half_edges s)
          (all_mono (λ h. differ (half_edges s) h ≡ false) (Matched s) (half_edges s) (matched s) (any_false (differ (half_edges s)) (half_edges s) e)))

  -- facet by facet
  pub closure_facets : All_proper s → any (differ (half_edges s)) (pairs (vertices s)) ≡ any (unmatched s) (up_to (facets s))
  unfolding half_edges
  closure_facets proper = closure_there proper ∙ any_flat_map (differ (half_edges s)) (facet_half_edges s) (up_to (facets s))

  -- so the first facet that is found is the place of 6
  pub closure_each : All_proper s → check_closure s ≡ at_each (facets s) (check_half_edges s)
  unfolding check_closure check_half_edges answer
  closure_each proper = by (at_each (facets s) (check_half_edges s)) refl
    where
      by : (v : Verdict) → at_each (facets s) (check_half_edges s) ≡ v → given (on_solid 6 (answer v).place) (any (differ (half_edges s)) (pairs (vertices s))) ≡ v
      by (Ok u) e = ap (given _) (closure_facets proper ∙ none_given _ (unmatched s) (facets s) e)
      by (Err a) e =
          let r = each_refused (check_half_edges s) (facets s) a e in
          let (found, same) = was_given (on_solid 6 r.place) a (unmatched s r.place) r.there in
          ap (given _) (closure_facets proper ∙ any_up_to_found (unmatched s) (facets s) r.place r.below found)
          ∙ ap (λ c. Err (on_solid 6 c.place)) (sym same) ∙ ap Err same
