-- The room that is always enough: of two admitted solids at most 196,608 pairs of an edge and a facet cross.
use mathlib.Core.Path.{◌≡◌, ap, ◌∙◌}
use mathlib.Core.List.{List, flat_map, map}
use Prim.Native.Nat.{ℕ, zero, suc, ◌+◌, ◌*◌, ◌<◌, ◌≤◌}
use native.Mathlib.Nat.{mul-le-mul_right, suc-mul}
use native.Mathlib.Omega.{arith}
use borrow.Author.Tests.{lt-ltb, le-ltb}
use lib.IntN.{ℤ, ◌*ℤ◌}
use lib.ListN.{length, length-append, length-map}
use Rattle.list_words.specs.Lists.{up_to, nonzero}
use Rattle.list_words.proofs.UpTo.{length_up_to, flat_up_to_suc}
use Rattle.list_words.proofs.Places.{flat_up_to_add}
use Rattle.solids.specs.Solids.{Solid, facets, edges}
use Rattle.solids.specs.Refusals.{accepted}
use Rattle.solids.specs.Admission.{admission}
use Rattle.solids.proofs.Admitted.{passed}
use Rattle.edges.proofs.Edges.{keep_le}
use Rattle.layouts.specs.Words.{sizes, columns}
use Rattle.layouts.proofs.Lengths.{sized}
use Rattle.crossing_rows.specs.Words.{row, rows, count_at}

-- rows of at most m each
few_in : {A : Type 0} (F : ℕ → List A) (m n : ℕ) → ((r : ℕ) → r < n → length (F r) ≤ m) → length (flat_map F (up_to n)) ≤ n * m
unfolding up_to flat_map
few_in F m zero h = omega arith
few_in F m (suc n) h =
    let e = ap length (flat_up_to_suc F n) ∙ length-append (flat_map F (up_to n)) (F n) in
    omega (arith, e, few_in F m n (λ r k. h r (omega arith)), h n (omega arith), suc-mul n m)

module _ (s : ℤ) (a b : Solid) where
  row_few : (r : ℕ) → length (row s a b r) ≤ columns (sizes a b) r
  unfolding row
  row_few r =
      let at : ℕ → ℕ × ℤ = λ c. (c, s *ℤ count_at a b r c) in
      let cs = up_to (columns (sizes a b) r) in
      omega (arith, keep_le (λ (x : ℕ × ℤ). nonzero x.1) (map at cs), length-map cs at, length_up_to (columns (sizes a b) r))

  pub enough : admission a ≡ accepted → admission b ≡ accepted → length (flat_map (row s a b) (up_to (rows a b))) ≤ 196608
  enough ok_a ok_b =
      let z = sized a b (passed a ok_a) (passed b ok_b) in
      let ea = length (edges a) in
      let eb = length (edges b) in
      let of_edges = few_in (row s a b) (facets b) ea (λ r h. let q = lt-ltb r ea h in let e : columns (sizes a b) r ≡ facets b = rw q in omega (arith, row_few r, e)) in
      let of_facets = few_in (λ i. row s a b (ea + i)) eb (facets a) (λ i h. let q = le-ltb (ea + i) ea (omega arith) in let e : columns (sizes a b) (ea + i) ≡ eb = rw q in omega (arith, row_few (ea + i), e)) in
      let both = ap length (flat_up_to_add (row s a b) ea (facets a)) ∙ length-append (flat_map (row s a b) (up_to ea)) (flat_map (λ i. row s a b (ea + i)) (up_to (facets a))) in
      omega (arith, both, of_edges, of_facets, mul-le-mul_right (facets b) z.ea, mul-le-mul_right eb z.fa, z.fb, z.eb)
