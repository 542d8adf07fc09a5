-- For a caller: what `number` and `put_triangles` answer and leave, in the words of the result.
use mathlib.Core.Path.{◌≡◌, sym, ap, ◌∙◌, subst}
use mathlib.Core.List.{List}
use Prim.Native.Nat.{ℕ, ◌*◌, ◌≤◌}
use lib.ListN.{length}
use Rattle.list_words.specs.Lists.{onto}
use Rattle.list_words.proofs.Threes.{length_threes}
use Rattle.solids.specs.Solids.{Solid}
use Rattle.solids.proofs.Admitted.{Passed}
use Rattle.results.specs.declared.Operation.{Operation}
use Rattle.results.specs.Inclusion.{inclusion, place}
use Rattle.results.specs.Vertices.{keys, kept, number}
use Rattle.results.specs.Triangles.{Triangle, triangles, listed, result}
use Rattle.fans.specs.Words.{rank, Laid}
use Rattle.fans.proofs.Fans.{three_each, one_each, laid_onto}
use Rattle.vertex_table.specs.Words as T
use Rattle.vertex_table.specs.Words.{inclusions, filled}
use Rattle.layouts.specs.Words.{halves, sizes}
use Rattle.vertex_table.proofs.Numbers.{ranks_count}
use Rattle.vertex_table.proofs.Good.{read_triangles}

module _ (op : Operation) (a b : Solid) where
  -- `number` answers n: three coordinates each
  pub numbered : (n : ℕ) → n ≡ rank (inclusions op a b) (length (inclusions op a b)) → 3 * n ≡ length (result op a b).points
  unfolding result listed
  numbered n e =
      let ks = kept (inclusion op a b) (keys a b) in
      ap (λ n. 3 * n) (e ∙ ranks_count op a b) ∙ sym (length_threes (λ k. (place a b k).x) (λ k. (place a b k).y) (λ k. (place a b k).z) ks)

  module _ (passed_a : Passed a) (passed_b : Passed b) where
    abbrev own : List Triangle
    own = triangles (inclusion op a b) (number (inclusion op a b) (keys a b)) a b

    -- measured: how many there are
    pub counted : {n : ℕ} → n ≡ length (T.triangles (filled op a b) (halves a b) (sizes a b)) → (3 * n ≡ length (result op a b).corners) × (n ≡ length (result op a b).origins)
    unfolding result listed
    counted e =
        let f = e ∙ ap length (read_triangles op a b passed_a passed_b) in
        (ap (λ n. 3 * n) f ∙ sym (three_each own), f ∙ sym (one_each own))

    -- made: where there is room
    pub made : {cs₀ os₀ cs os : List ℕ} {n : ℕ} → Laid (T.triangles (filled op a b) (halves a b) (sizes a b)) cs₀ os₀ 0 cs os n → 3 * n ≤ length cs₀ → n ≤ length os₀
        → (cs ≡ onto (result op a b).corners cs₀) × (os ≡ onto (result op a b).origins os₀)
    unfolding result listed
    made {cs₀} {os₀} {cs} {os} {n} laid h k = laid_onto (subst (λ ts. Laid ts cs₀ os₀ 0 cs os n) (read_triangles op a b passed_a passed_b) laid) h k
