-- For two solids the points that the lists give are the points of the result.
use mathlib.Core.Path.{◌≡◌, refl, sym, ap, ap₂, ◌∙◌}
use mathlib.Core.Bool.{Bool, true, false, cond}
use mathlib.Core.List.{List, [], ◌∷◌, ◌++◌, map, flat_map, append_assoc}
use Prim.Native.Nat.{ℕ, ◌+◌, ◌-◌, ◌<◌}
use native.Mathlib.Nat.{zero-add}
use native.Mathlib.Omega.{arith}
use borrow.Author.Tests.{lt-ltb, le-ltb}
use lib.Dec.{ltb}
use lib.Ieee.{Float}
use lib.IntN.{ℤ, pos, ◌*ℤ◌}
use lib.ListN.{length, get_or}
use Rattle.list_words.specs.Lists.{up_to, keep, nonzero}
use Rattle.list_words.proofs.Places.{flat_up_to_add}
use Rattle.list_words.proofs.Sums.{flat_append, flat_map_map, flat_ext}
use Rattle.list_words.proofs.UpTo.{flat_up_to}
use Rattle.points.specs.declared.Point.{Point}
use Rattle.points.specs.Points.{coordinates}
use Rattle.crossings.specs.Crossings.{count}
use Rattle.solids.specs.Solids.{Solid, Half, vertices, facets, edges, vertex}
use Rattle.edges.specs.Words.{edge_numbered}
use Rattle.results.specs.declared.Operation.{Operation}
use Rattle.results.specs.Inclusion.{Key, vA, eAfB, fAeB, vB, cI, edge_facet, facet_edge, inclusion, place}
use Rattle.results.specs.Vertices.{keys, kept}
use Rattle.results.specs.Triangles.{listed, result}
use Rattle.layouts.specs.Words.{sizes, columns, Listing}
use Rattle.crossing_rows.specs.Words.{count_at, row, rows}
use Rattle.inclusions.specs.Words.{Included}
use Rattle.crossing_points.specs.Words.{key_at, stretch, of_row, of_rows}
use Rattle.result_points.specs.Words.{of_vertices, placed}
use Rattle.result_points.proofs.Reading.{flat_places, flat_row}

-- ---- lists put together

-- what is left out gives nothing
flat_keep : {A B : Type 0} (f : A → List B) (p : A → Bool) (l : List A) → flat_map f (keep p l) ≡ flat_map (λ x. cond (p x) (f x) []) l
unfolding keep flat_map
flat_keep f p [] = refl
flat_keep f p (x ∷ l) = go (p x) (flat_keep f p l)
  where
    go : (b : Bool) → flat_map f (keep p l) ≡ flat_map (λ x. cond (p x) (f x) []) l
        → flat_map f (cond b (x ∷ keep p l) (keep p l)) ≡ cond b (f x) [] ++ flat_map (λ x. cond (p x) (f x) []) l
    go true e = ap (λ r. f x ++ r) e
    go false e = e

-- lists of lists of lists
flat_flat : {A B C : Type 0} (f : B → List C) (g : A → List B) (l : List A) → flat_map f (flat_map g l) ≡ flat_map (λ x. flat_map f (g x)) l
unfolding flat_map
flat_flat f g [] = refl
flat_flat f g (x ∷ l) = flat_append f (g x) (flat_map g l) ∙ ap (λ r. flat_map f (g x) ++ r) (flat_flat f g l)

module _ (op : Operation) (a b : Solid) where
  -- a key's point, where it is kept
  abbrev point_if : Key → List Float
  point_if k = cond (nonzero (inclusion op a b k)) (coordinates (place a b k)) []

  -- ---- vertices, A's as B's
  vertices_are : (inc : List ℤ) (s : Solid) (key : ℕ → Key) (from : ℕ) → ((i : ℕ) → place a b (key i) ≡ vertex s i)
      → ((i : ℕ) → i < vertices s → get_or inc (from + i) (pos 0) ≡ inclusion op a b (key i))
      → of_vertices s inc from ≡ flat_map point_if (map key (up_to (vertices s)))
  unfolding of_vertices
  vertices_are inc s key from here same =
      flat_up_to (vertices s) (λ i. cond (nonzero (get_or inc (from + i) (pos 0))) (coordinates (vertex s i)) []) (λ i. point_if (key i))
      (λ i h. ap₂ (λ (n : ℤ) (v : Point). cond (nonzero n) (coordinates v) []) (same i h) (sym (here i)))
      ∙ sym (flat_map_map point_if key (up_to (vertices s)))

  -- ---- rows

  -- what is counted there is the key's inclusion
  counted : (r c : ℕ) → cI op *ℤ count_at a b r c ≡ inclusion op a b (key_at a b r c)
  unfolding count_at inclusion key_at
  counted r c = go (ltb r (length (edges a)))
    where
      e : Half
      e = edge_numbered a r

      f : ℕ
      f = r - length (edges a)

      g : Half
      g = edge_numbered b c

      go : (t : Bool) → cI op *ℤ cond t (count (edge_facet a b e c)) (count (facet_edge a b f g)) ≡ inclusion op a b (cond t (eAfB e c) (fAeB f g))
      go true = refl
      go false = refl

  -- all columns of a row
  abbrev across : ℕ → List Float
  across r = flat_map (λ c. point_if (key_at a b r c)) (up_to (columns (sizes a b) r))

  row_is : {first crossed : List ℕ} → Listing (row (cI op) a b) (rows a b) first crossed → (r : ℕ) → r < rows a b → of_row a b first crossed r ≡ across r
  unfolding of_row stretch row
  row_is l r h =
      let point : ℕ → List Float = λ c. coordinates (place a b (key_at a b r c)) in
      let n : ℕ → ℤ = λ c. cI op *ℤ count_at a b r c in
      let cs = up_to (columns (sizes a b) r) in
      let entry : ℕ → ℕ × ℤ = λ c. (c, n c) in
      flat_row l r h point
      ∙ flat_keep (λ (x : ℕ × ℤ). point x.0) (λ x. nonzero x.1) (map entry cs)
      ∙ flat_map_map (λ (x : ℕ × ℤ). cond (nonzero x.1) (point x.0) []) entry cs
      ∙ flat_ext (λ c. cond (nonzero (n c)) (point c) []) (λ c. point_if (key_at a b r c)) cs (λ c. ap (λ (k : ℤ). cond (nonzero k) (point c) []) (counted r c))

  -- those of A's edges
  edge_row : (r : ℕ) → r < length (edges a) → across r ≡ flat_map point_if (map (eAfB (edge_numbered a r)) (up_to (facets b)))
  unfolding key_at
  edge_row r h = rw (lt-ltb r (length (edges a)) h) (sym (flat_map_map point_if (eAfB (edge_numbered a r)) (up_to (facets b))))

  edge_rows : flat_map across (up_to (length (edges a))) ≡ flat_map point_if (flat_map (λ e. map (eAfB e) (up_to (facets b))) (edges a))
  edge_rows =
      let g : Half → List Key = λ e. map (eAfB e) (up_to (facets b)) in
      flat_up_to (length (edges a)) across (λ r. flat_map point_if (g (edge_numbered a r))) edge_row
      ∙ flat_places (λ e. flat_map point_if (g e)) (edges a) (0, 0) ∙ sym (flat_flat point_if g (edges a))

  -- those of its facets
  facet_row : (f : ℕ) → across (length (edges a) + f) ≡ flat_map point_if (map (fAeB f) (edges b))
  unfolding key_at
  facet_row f =
      let n = length (edges a) in
      let back : n + f - n ≡ f = omega arith in
      rw (le-ltb (n + f) n (omega arith), back) (flat_places (λ e. point_if (fAeB f e)) (edges b) (0, 0) ∙ sym (flat_map_map point_if (fAeB f) (edges b)))

  facet_rows : flat_map (λ f. across (length (edges a) + f)) (up_to (facets a)) ≡ flat_map point_if (flat_map (λ f. map (fAeB f) (edges b)) (up_to (facets a)))
  facet_rows =
      let g : ℕ → List Key = λ f. map (fAeB f) (edges b) in
      flat_ext (λ f. across (length (edges a) + f)) (λ f. flat_map point_if (g f)) (up_to (facets a)) facet_row ∙ sym (flat_flat point_if g (up_to (facets a)))

  -- ---- all
  pub placed_is : {inc : List ℤ} {first crossed : List ℕ} → Included op a b inc → Listing (row (cI op) a b) (rows a b) first crossed
      → placed a b inc first crossed ≡ (result op a b).points
  unfolding placed of_rows result listed kept keys place
  placed_is {inc} {first} {crossed} i l =
      let va = map vA (up_to (vertices a)) in
      let ef = flat_map (λ e. map (eAfB e) (up_to (facets b))) (edges a) in
      let fe = flat_map (λ f. map (fAeB f) (edges b)) (up_to (facets a)) in
      let vb = map vB (up_to (vertices b)) in
      let of_rows_is : flat_map (of_row a b first crossed) (up_to (rows a b)) ≡ flat_map point_if (ef ++ fe) =
      flat_up_to (rows a b) (of_row a b first crossed) across (row_is l)
      ∙ flat_up_to_add across (length (edges a)) (facets a) ∙ ap₂ ◌++◌ edge_rows facet_rows ∙ sym (flat_append point_if ef fe) in
      ap₂ ◌++◌ (vertices_are inc a vA 0 (λ j. refl) (λ j h. ap (λ k. get_or inc k (pos 0)) (zero-add j) ∙ i.of_a j h))
      (ap₂ ◌++◌ of_rows_is (vertices_are inc b vB (vertices a) (λ j. refl) i.of_b))
      ∙ ap (λ r. flat_map point_if va ++ r) (sym (flat_append point_if (ef ++ fe) vb)) ∙ sym (flat_append point_if va ((ef ++ fe) ++ vb))
      ∙ ap (λ r. flat_map point_if (va ++ r)) (append_assoc ef fe vb)
      ∙ sym (flat_keep (λ k. coordinates (place a b k)) (λ k. nonzero (inclusion op a b k)) (va ++ (ef ++ (fe ++ vb))))
