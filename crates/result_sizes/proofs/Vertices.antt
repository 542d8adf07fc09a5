-- The short lists of the vertices hold what the table of two solids has, and the last number is how many vertices the result has.
use mathlib.Core.Path.{◌≡◌, sym, ap, ap₂, ◌∙◌, subst}
use mathlib.Core.List.{List}
use Prim.Native.Nat.{ℕ, zero, suc, ◌+◌, ◌*◌, ◌<◌, ◌≤◌}
use native.Mathlib.Omega.{arith}
use lib.IntN.{ℤ, pos, nat_abs}
use lib.ListN.{length, get_or, replicate}
use Rattle.list_words.proofs.Places.{at_up_to}
use Rattle.solids.specs.Solids.{Solid, vertices}
use Rattle.results.specs.declared.Operation.{Operation}
use Rattle.results.specs.Triangles.{result}
use Rattle.fans.specs.Words.{rank, ranks, Follows, Ranked}
use Rattle.layouts.specs.Words.{sizes}
use Rattle.vertex_table.specs.Words as T
use Rattle.vertex_table.specs.Words.{inclusions, numbers, filled}
use Rattle.vertex_table.proofs.Numbers.{ranks_numbers}
use Rattle.vertex_table.proofs.Use.{numbered}
use Rattle.vertex_table.proofs.Good.{long_inclusions}
use Rattle.kept_lists.specs.Words as K
use Rattle.kept_lists.specs.Words.{tidy}
use Rattle.result_numbers.proofs.Numbered as N

module _ (op : Operation) (a b : Solid) where
  abbrev t : List ℤ
  t = inclusions op a b

  abbrev total : ℕ
  total = T.total (sizes a b)

  abbrev behind_all : ℕ
  behind_all = N.behind_all op a b

  from_B : (i : ℕ) → behind_all + i ≡ T.of_B (sizes a b) i
  from_B = N.from_B op a b

  number_at : (i : ℕ) → i < total → get_or (numbers op a b) i 0 ≡ rank t i
  unfolding ranks
  number_at i h = ap (λ l. get_or l i 0) (sym (ranks_numbers op a b)) ∙ at_up_to (rank t) (length t) i 0 (omega (arith, long_inclusions op a b))

  -- a slot that the lists hold
  held : (inc : List ℤ) (num : List ℕ) (i j : ℕ) → i < total → get_or inc j (pos 0) ≡ get_or t i (pos 0) → get_or num j 0 ≡ rank t i → tidy (T.end (filled op a b) i) ≡ tidy (K.vertex inc num j)
  held inc num i j h c n =
      let v : get_or (numbers op a b) i 0 ≡ get_or num j 0 = number_at i h ∙ sym n in
      ap₂ (λ (v : ℕ) (c : ℤ). tidy (record { vertex = v; count = c })) v (sym c)

  pub own_A : {inc : List ℤ} {num : List ℕ} {k : ℕ} → Follows t inc 0 0 (vertices a) → Ranked t num 0 0 (vertices a) k
      → (i : ℕ) → i < vertices a → tidy (T.end (filled op a b) i) ≡ tidy (K.vertex inc num i)
  own_A {inc} {num} f r i h =
      let z : 0 + i ≡ i = omega arith in
      held inc num i i (omega arith) (subst (λ j. get_or inc j (pos 0) ≡ get_or t j (pos 0)) z (f.each i h)) (subst (λ j. get_or num j 0 ≡ rank t j) z (r.each i h))

  pub own_B : {inc : List ℤ} {num : List ℕ} {k : ℕ} → Follows t inc behind_all (vertices a) (vertices b) → Ranked t num behind_all (vertices a) (vertices b) k
      → (i : ℕ) → i < vertices b → tidy (T.end (filled op a b) (T.of_B (sizes a b) i)) ≡ tidy (K.vertex inc num (vertices a + i))
  own_B {inc} {num} f r i h =
      held inc num (T.of_B (sizes a b) i) (vertices a + i) (omega arith) (subst (λ j. get_or inc (vertices a + i) (pos 0) ≡ get_or t j (pos 0)) (from_B i) (f.each i h)) (subst (λ j. get_or num (vertices a + i) 0 ≡ rank t j) (from_B i) (r.each i h))

  -- the number behind B's last is how many vertices the result has
  pub all_vertices : {num : List ℕ} {n : ℕ} → Ranked t num behind_all (vertices a) (vertices b) n → 3 * n ≡ length (result op a b).points
  all_vertices {num} {n} r =
      let q : behind_all + vertices b ≡ length t = omega (arith, long_inclusions op a b) in
      numbered op a b n (r.next ∙ ap (rank t) q)

-- a list of nothing yet
pub zeros : (n i : ℕ) → nat_abs (get_or (replicate n (pos 0)) i (pos 0)) ≤ 257
zeros zero i = omega arith
zeros (suc n) zero = omega arith
zeros (suc n) (suc i) = zeros n i
