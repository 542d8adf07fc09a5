-- Along an edge of A: its crossings, as they are listed, count how often B contains its start more than its end (Theorem 2 of 000, along an edge). So
-- counts can be carried from one end of an edge to the other.
use mathlib.Core.Path.{◌≡◌, refl, ap, ap₂, ◌∙◌}
use mathlib.Core.Bool.{false, true≢false}
use mathlib.Core.List.{List, map}
use Prim.Native.Nat.{ℕ, zero, suc, ◌<◌}
use borrow.Author.Tests.{lt-ltb}
use lib.IntN.{ℤ, pos, negsuc, ◌-ℤ◌, ◌*ℤ◌, +ℤ_idr}
use lib.ListN.{length}
use Rattle.list_words.specs.Lists.{sum_of, up_to, nonzero}
use Rattle.list_words.proofs.Sums.{sum_ext, sum_sub, sum_mul, sum_map, sum_keep}
use Rattle.points.specs.declared.Axis.TheVariants.{Z}
use Rattle.crossings.specs.Crossings.{S, vf, ee}
use Rattle.crossings.proofs.Formulas.{count_ef}
use Rattle.solids.specs.Solids.{Solid, Half, facets, edges, vertex, corner, along, edge, facet}
use Rattle.solids.specs.Containment.{in_B}
use Rattle.solids.proofs.Admitted.{Passed}
use Rattle.solids.proofs.Around.{around, around_closed}
use Rattle.solids.proofs.Shut.{simple, closed}
use Rattle.results.specs.Inclusion.{edge_facet}
use Rattle.edges.specs.Words.{edge_numbered}
use Rattle.crossing_rows.specs.Words.{count_at, row, crossing}

is_zero : (n : ℤ) → nonzero n ≡ false → n ≡ pos 0
is_zero (pos zero) h = refl
is_zero (pos (suc n)) h = absurd (true≢false h)
is_zero (negsuc n) h = absurd (true≢false h)

sum_crossing : (s : ℤ) (count : ℕ → ℤ) (l : List ℕ) → sum_of (λ (x : ℕ × ℤ). x.1) (crossing s count l) ≡ s *ℤ sum_of count l
sum_crossing s count l =
    sum_keep (λ (x : ℕ × ℤ). nonzero x.1) (λ x. x.1) (map (λ c. (c, s *ℤ count c)) l) (λ x e. is_zero x.1 e)
    ∙ sum_map (λ (x : ℕ × ℤ). x.1) (λ c. (c, s *ℤ count c)) l ∙ sum_mul s count l

module _ (s : ℤ) (a b : Solid) (p : Passed b) (i : ℕ) where
  pub along_A : i < length (edges a) → sum_of (λ (x : ℕ × ℤ). x.1) (row s a b i) ≡ s *ℤ (in_B (vertex a (edge_numbered a i).0) b -ℤ in_B (vertex a (edge_numbered a i).1) b)
  unfolding row count_at edge_facet in_B
  along_A l =
      let h = edge_numbered a i in
      let u : ℕ → ℤ = λ f. S Z (vf (vertex a h.0) (facet b f)) in
      let w : ℕ → ℤ = λ f. S Z (vf (vertex a h.1) (facet b f)) in
      let z : Half → ℤ = λ k. S Z (ee (edge a h) (edge b k)) in
      rw (lt-ltb i (length (edges a)) l)
      (sum_crossing s _ (up_to (facets b))
      ∙ ap (λ n. s *ℤ n)
      (sum_ext _ (λ f. u f -ℤ w f -ℤ around b z f) (up_to (facets b)) (λ f. count_ef (vertex b) along (corner b f 0) (corner b f 1) (corner b f 2) (edge a h))
      ∙ sum_sub (λ f. u f -ℤ w f) (around b z) (up_to (facets b))
      ∙ ap₂ ◌-ℤ◌ (sum_sub u w (up_to (facets b))) (around_closed b (closed b p) (simple b p) z)
      ∙ +ℤ_idr (sum_of u (up_to (facets b)) -ℤ sum_of w (up_to (facets b)))))
