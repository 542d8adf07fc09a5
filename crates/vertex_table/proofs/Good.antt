-- For passed solids the table and the list of half-edges are as `put_triangles` asks, and its triangles are the result's.
use mathlib.Core.Path.{◌≡◌, sym, ◌∙◌, subst}
use Prim.Native.Nat.{ℕ, ◌+◌, ◌*◌, ◌-◌, ◌<◌, ◌≤◌}
use native.Mathlib.Omega.{arith}
use native.Mathlib.Decide.{dec_lt}
use lib.IntN.{ℤ, pos, ◌+ℤ◌, ◌*ℤ◌}
use lib.ListN.{length, get_or, length-map, get_or-eq_default}
use Rattle.list_words.proofs.Integers.{Bnd, bnd_add, scaled}
use Rattle.crossings.proofs.Sizes.{two_ef, two_fe}
use Rattle.solids.specs.Solids.{Solid, Half, vertices, facets, vertex, edge, facet, edges}
use Rattle.solids.specs.Containment.{in_A, in_B}
use Rattle.solids.proofs.Admitted.{Passed}
use Rattle.results.specs.declared.Operation.{Operation}
use Rattle.results.specs.declared.Operation.TheVariants.{Union, Intersection, Difference}
use Rattle.results.specs.Inclusion.{Key, vA, eAfB, fAeB, vB, cA, cB, cI, edge_facet, facet_edge, inclusion}
use Rattle.results.specs.Vertices.{keys, number}
use Rattle.results.specs.Triangles.{triangles}
use Rattle.vertex_table.specs.Words as T
use Rattle.vertex_table.specs.Words.{inclusions, numbers, filled}
use Rattle.layouts.specs.Words.{halves, edge_at, sizes}
use Rattle.list_words.proofs.Places.{at_map}
use Rattle.solids.proofs.Sizes.{size_in_A, size_in_B}
use Rattle.vertex_table.proofs.Keys.{no_key, length_keys, at_crossing}
use Rattle.layouts.proofs.Reading.{reads_A, reads_B, known}
use Rattle.layouts.proofs.Lengths.{length_halves, sized}
use Rattle.vertex_table.proofs.Same.{same_triangles}

-- ---- sizes of inclusions
pub shifted : (n : ℕ) (c i x : ℤ) → Bnd 1 c → Bnd 1 i → Bnd n x → Bnd (1 + n) (c +ℤ i *ℤ x)
shifted n c i x h k l = bnd_add 1 n c (i *ℤ x) h (scaled n i x k l)

pub small_numbers : (op : Operation) → Bnd 1 (cA op) × Bnd 1 (cB op) × Bnd 1 (cI op)
small_numbers Union = (omega arith, omega arith, omega arith)
small_numbers Intersection = (omega arith, omega arith, omega arith)
small_numbers Difference = (omega arith, omega arith, omega arith)

module _ (op : Operation) (a b : Solid) where
  size_eAfB : (e : Half) (g : ℕ) → Bnd 2 (inclusion op a b (eAfB e g))
  unfolding inclusion edge_facet
  size_eAfB e g = scaled 2 (cI op) _ (small_numbers op).2 (two_ef (edge a e) (facet b g))

  size_fAeB : (f : ℕ) (e : Half) → Bnd 2 (inclusion op a b (fAeB f e))
  unfolding inclusion facet_edge
  size_fAeB f e = scaled 2 (cI op) _ (small_numbers op).2 (two_fe (facet a f) (edge b e))

  -- a table of inclusions by the key at each slot
  pub slot : (i : ℕ) → i < length (keys a b) → get_or (inclusions op a b) i (pos 0) ≡ inclusion op a b (get_or (keys a b) i no_key)
  unfolding inclusions
  slot i h = at_map (inclusion op a b) (keys a b) i (pos 0) no_key h

  pub long_inclusions : length (inclusions op a b) ≡ T.total (sizes a b)
  unfolding inclusions
  long_inclusions = length-map (keys a b) (inclusion op a b) ∙ length_keys a b

  long_numbers : length (numbers op a b) ≡ T.total (sizes a b)
  unfolding numbers
  long_numbers = length-map (keys a b) (number (inclusion op a b) (keys a b)) ∙ length_keys a b

  module _ (passed_a : Passed a) (passed_b : Passed b) where
    pub size_any : (k : Key) → Bnd 257 (inclusion op a b k)
    unfolding inclusion
    size_any (vA i) = let s = shifted (facets b) (cA op) (cI op) (in_B (vertex a i) b) (small_numbers op).0 (small_numbers op).2 (size_in_B (vertex a i) b) in omega (arith, s, passed_b.few_facets)
    size_any (eAfB e g) = let s = size_eAfB e g in omega (arith, s)
    size_any (fAeB f e) = let s = size_fAeB f e in omega (arith, s)
    size_any (vB i) = let s = shifted (facets a) (cB op) (cI op) (in_A a (vertex b i)) (small_numbers op).1 (small_numbers op).2 (size_in_A a (vertex b i)) in omega (arith, s, passed_a.few_facets)

    size_slot : (i : ℕ) → Bnd 257 (get_or (inclusions op a b) i (pos 0))
    size_slot i = elim (dec_lt i (length (keys a b))) [
      | yes h ↦ rw (slot i h) (size_any (get_or (keys a b) i no_key))
      | no n ↦ rw (get_or-eq_default (inclusions op a b) (pos 0) {n = i} (omega (arith, long_inclusions, length_keys a b))) (omega arith)
    ]

    size_crossing : (i : ℕ) → vertices a ≤ i → i < T.of_B (sizes a b) 0 → Bnd 2 (get_or (inclusions op a b) i (pos 0))
    size_crossing i h k =
        let e : i ≡ vertices a + (i - vertices a) = omega arith in
        rw (slot i (omega (arith, length_keys a b)))
        (subst (λ n. Bnd 2 (inclusion op a b (get_or (keys a b) n no_key))) (sym e)
        (at_crossing a b (λ k. Bnd 2 (inclusion op a b k)) size_eAfB size_fAeB (i - vertices a) (omega arith)))

    -- ---- half-edges
    half_edges_good : T.Halves (halves a b) (sizes a b)
    half_edges_good =
        record {
          sized = sized a b passed_a passed_b;
          long = length_halves a b;
          edge_A = λ h l. rw (reads_A a b h l).edge (known a passed_a h l).number;
          start_A = λ h l. rw (reads_A a b h l).start (known a passed_a h l).start;
          end_A = λ h l. rw (reads_A a b h l).end (known a passed_a h l).end;
          edge_B = λ h k l. let n = h - 3 * facets a in let m : n < 3 * facets b = omega arith in subst (λ h. edge_at (halves a b) h < length (edges b)) (back h k) (rw (reads_B a b n m).edge (known b passed_b n m).number);
          start_B = λ h k l. let n = h - 3 * facets a in let m : n < 3 * facets b = omega arith in subst (λ h. get_or (halves a b) (3 * h + 1) 0 < vertices b) (back h k) (rw (reads_B a b n m).start (known b passed_b n m).start);
          end_B = λ h k l. let n = h - 3 * facets a in let m : n < 3 * facets b = omega arith in subst (λ h. get_or (halves a b) (3 * h + 2) 0 < vertices b) (back h k) (rw (reads_B a b n m).end (known b passed_b n m).end);
        }
      where
        back : (h : ℕ) → 3 * facets a ≤ h → 3 * facets a + (h - 3 * facets a) ≡ h
        back h k = omega arith

    -- ---- what a caller needs
    pub good : T.Good (filled op a b) (halves a b) (sizes a b)
    good =
        record {
          ok = record { same = long_numbers ∙ sym long_inclusions; small = size_slot };
          halves = half_edges_good;
          size = long_inclusions;
          few = size_crossing;
        }

    pub read_triangles : T.triangles (filled op a b) (halves a b) (sizes a b) ≡ triangles (inclusion op a b) (number (inclusion op a b) (keys a b)) a b
    unfolding inclusions numbers
    read_triangles = same_triangles (inclusion op a b) (number (inclusion op a b) (keys a b)) a b passed_a passed_b
