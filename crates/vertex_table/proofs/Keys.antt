-- Keys by their slots, and that no key is listed twice.
use mathlib.Core.Path.{◌≡◌, ap, ◌∙◌}
use mathlib.Core.Logic.{◌≢◌}
use mathlib.Core.List.{List, ◌++◌, map, flat_map, append_assoc}
use Prim.Native.Nat.{ℕ, ◌+◌, ◌*◌, ◌<◌, ◌≤◌}
use native.Mathlib.Omega.{arith}
use lib.ListN.{length, get_or, length-append, length-map, get_or-append}
use Rattle.list_words.specs.Lists.{up_to}
use Rattle.list_words.proofs.Sums.{All, all_of, all_mono, all-++, all_map_of, all_flat_map}
use Rattle.list_words.proofs.UpTo.{Distinct, Apart, distinct-++, distinct_map, distinct_blocks, apart_maps, distinct_up_to, length_up_to}
use Rattle.solids.specs.Solids.{Solid, Half, vertices, facets, edges}
use Rattle.solids.proofs.Shut.{edges_distinct}
use Rattle.results.specs.Inclusion.{Key, vA, eAfB, fAeB, vB}
use Rattle.results.specs.Vertices.{keys}
use Rattle.vertex_table.specs.Words.{on_edge, on_facet, of_B, total}
use Rattle.vertex_table.proofs.Slots.{in_row}
use Rattle.layouts.specs.Words.{sizes}
use Rattle.layouts.proofs.Reading.{no_half}
use Rattle.list_words.proofs.Places.{all_get_d, get_or_behind, at_map, at_up_to, get_or_up_to, length_blocks, get_or_blocks}

-- what would stand beyond the lists
abbrev pub no_key : Key
no_key = vA 0

module _ (a b : Solid) where
  abbrev of_edge : Half → List Key
  of_edge e = map (eAfB e) (up_to (facets b))

  abbrev of_facet : ℕ → List Key
  of_facet f = map (fAeB f) (edges b)

  abbrev block_vA : List Key
  block_vA = map vA (up_to (vertices a))

  abbrev block_eAfB : List Key
  block_eAfB = flat_map of_edge (edges a)

  abbrev block_fAeB : List Key
  block_fAeB = flat_map of_facet (up_to (facets a))

  abbrev block_vB : List Key
  block_vB = map vB (up_to (vertices b))

  -- ---- lengths
  long_vA : length block_vA ≡ vertices a
  long_vA = length-map (up_to (vertices a)) vA ∙ length_up_to (vertices a)

  long_of_edge : (e : Half) → length (of_edge e) ≡ facets b
  long_of_edge e = length-map (up_to (facets b)) (eAfB e) ∙ length_up_to (facets b)

  long_eAfB : length block_eAfB ≡ length (edges a) * facets b
  long_eAfB = length_blocks of_edge (facets b) long_of_edge (edges a)

  long_of_facet : (f : ℕ) → length (of_facet f) ≡ length (edges b)
  long_of_facet f = length-map (edges b) (fAeB f)

  long_fAeB : length block_fAeB ≡ facets a * length (edges b)
  long_fAeB = length_blocks of_facet (length (edges b)) long_of_facet (up_to (facets a)) ∙ ap (λ n. n * length (edges b)) (length_up_to (facets a))

  long_vB : length block_vB ≡ vertices b
  long_vB = length-map (up_to (vertices b)) vB ∙ length_up_to (vertices b)

  pub length_keys : length (keys a b) ≡ total (sizes a b)
  unfolding keys
  length_keys =
      omega (
        arith,
        length-append block_vA (block_eAfB ++ (block_fAeB ++ block_vB)),
        length-append block_eAfB (block_fAeB ++ block_vB),
        length-append block_fAeB block_vB,
        long_vA,
        long_eAfB,
        long_fAeB,
        long_vB,
      )

  -- ---- what stands at each slot
  pub key_vA : (i : ℕ) → i < vertices a → get_or (keys a b) i no_key ≡ vA i
  unfolding keys
  key_vA i h = get_or-append block_vA (block_eAfB ++ (block_fAeB ++ block_vB)) no_key i (omega (arith, long_vA)) ∙ at_up_to vA (vertices a) i no_key h

  pub key_eAfB : (e g : ℕ) → e < length (edges a) → g < facets b → get_or (keys a b) (on_edge (sizes a b) e g) no_key ≡ eAfB (get_or (edges a) e no_half) g
  unfolding keys
  key_eAfB e g h k =
      let n : on_edge (sizes a b) e g ≡ vertices a + (e * facets b + g) = omega arith in
      let m : e * facets b + g < length block_eAfB = omega (arith, long_eAfB, in_row e (length (edges a)) (facets b) h) in
      rw n (get_or_behind block_vA (block_eAfB ++ (block_fAeB ++ block_vB)) (vertices a) (e * facets b + g) no_key long_vA
      ∙ get_or-append block_eAfB (block_fAeB ++ block_vB) no_key (e * facets b + g) m
      ∙ get_or_blocks of_edge (facets b) long_of_edge (edges a) e g no_key no_half h k ∙ at_up_to (eAfB (get_or (edges a) e no_half)) (facets b) g no_key k)

  pub key_fAeB : (f e : ℕ) → f < facets a → e < length (edges b) → get_or (keys a b) (on_facet (sizes a b) f e) no_key ≡ fAeB f (get_or (edges b) e no_half)
  unfolding keys
  key_fAeB f e h k =
      let n : on_facet (sizes a b) f e ≡ vertices a + (length (edges a) * facets b + (f * length (edges b) + e)) = omega arith in
      let m : f * length (edges b) + e < length block_fAeB = omega (arith, long_fAeB, in_row f (facets a) (length (edges b)) h) in
      rw n (get_or_behind block_vA (block_eAfB ++ (block_fAeB ++ block_vB)) (vertices a) (length (edges a) * facets b + (f * length (edges b) + e)) no_key long_vA
      ∙ get_or_behind block_eAfB (block_fAeB ++ block_vB) (length (edges a) * facets b) (f * length (edges b) + e) no_key long_eAfB
      ∙ get_or-append block_fAeB block_vB no_key (f * length (edges b) + e) m
      ∙ get_or_blocks of_facet (length (edges b)) long_of_facet (up_to (facets a)) f e no_key 0 (rw (length_up_to (facets a)) h) k
      ∙ at_map (fAeB (get_or (up_to (facets a)) f 0)) (edges b) e no_key no_half k ∙ ap (λ g. fAeB g (get_or (edges b) e no_half)) (get_or_up_to (facets a) f 0 h))

  pub key_vB : (i : ℕ) → i < vertices b → get_or (keys a b) (of_B (sizes a b) i) no_key ≡ vB i
  unfolding keys
  key_vB i h =
      let n : of_B (sizes a b) i ≡ vertices a + (length (edges a) * facets b + (facets a * length (edges b) + i)) = omega arith in
      rw n (get_or_behind block_vA (block_eAfB ++ (block_fAeB ++ block_vB)) (vertices a) (length (edges a) * facets b + (facets a * length (edges b) + i)) no_key long_vA
      ∙ get_or_behind block_eAfB (block_fAeB ++ block_vB) (length (edges a) * facets b) (facets a * length (edges b) + i) no_key long_eAfB
      ∙ get_or_behind block_fAeB block_vB (facets a * length (edges b)) i no_key long_fAeB ∙ at_up_to vB (vertices b) i no_key h)

  -- ---- what holds of every key of one kind
  each_eAfB : (P : Key → Type 0) → ((e : Half) (g : ℕ) → P (eAfB e g)) → All P block_eAfB
  each_eAfB P p = all_flat_map P of_edge (edges a) (all_of (λ e. All P (of_edge e)) (edges a) (λ e n. all_map_of P (eAfB e) (up_to (facets b)) (all_of (λ g. P (eAfB e g)) (up_to (facets b)) (λ g l. p e g))))

  each_fAeB : (P : Key → Type 0) → ((f : ℕ) (e : Half) → P (fAeB f e)) → All P block_fAeB
  each_fAeB P q = all_flat_map P of_facet (up_to (facets a)) (all_of (λ f. All P (of_facet f)) (up_to (facets a)) (λ f n. all_map_of P (fAeB f) (edges b) (all_of (λ e. P (fAeB f e)) (edges b) (λ e l. q f e))))

  each_vA : (P : Key → Type 0) → ((i : ℕ) → P (vA i)) → All P block_vA
  each_vA P p = all_map_of P vA (up_to (vertices a)) (all_of (λ i. P (vA i)) (up_to (vertices a)) (λ i m. p i))

  each_vB : (P : Key → Type 0) → ((i : ℕ) → P (vB i)) → All P block_vB
  each_vB P p = all_map_of P vB (up_to (vertices b)) (all_of (λ i. P (vB i)) (up_to (vertices b)) (λ i m. p i))

  -- what holds of every crossing holds at every slot between A's vertices and B's
  pub at_crossing : (P : Key → Type 0) → ((e : Half) (g : ℕ) → P (eAfB e g)) → ((f : ℕ) (e : Half) → P (fAeB f e))
      → (i : ℕ) → i < length (edges a) * facets b + facets a * length (edges b) → P (get_or (keys a b) (vertices a + i) no_key)
  unfolding keys
  at_crossing P p q i h =
      let crossings = block_eAfB ++ block_fAeB in
      let m : i < length crossings = omega (arith, length-append block_eAfB block_fAeB, long_eAfB, long_fAeB) in
      rw (get_or_behind block_vA (block_eAfB ++ (block_fAeB ++ block_vB)) (vertices a) i no_key long_vA, ← append_assoc block_eAfB block_fAeB block_vB, get_or-append crossings block_vB no_key i m)
      (all_get_d P crossings i no_key (all-++ P block_eAfB block_fAeB (each_eAfB P p) (each_fAeB P q)) m)

  -- ---- nothing is listed twice
  abbrev kind : Key → ℕ
  kind (vA i) = 0
  kind (eAfB e f) = 1
  kind (fAeB f e) = 2
  kind (vB i) = 3

  abbrev After : ℕ → List Key → Type 0
  After n ks = All (λ k. n < kind k) ks

  abbrev UpToKind : ℕ → List Key → Type 0
  UpToKind n ks = All (λ k. kind k ≤ n) ks

  by_kind : (n : ℕ) (s t : List Key) → UpToKind n s → After n t → Apart s t
  by_kind n s t p q =
      all_mono (λ k. kind k ≤ n) (λ k. All (λ l. k ≢ l) t) s
      (λ k h. all_mono (λ l. n < kind l) (λ l. k ≢ l) t (λ l i e. omega (arith, ap kind e)) q) p

  pub distinct_keys : Distinct (keys a b)
  unfolding keys
  distinct_keys =
      let late : (n : ℕ) → n < 3 → After n block_vB = λ n h. each_vB (λ k. n < kind k) (λ i. h) in
      let later : (n : ℕ) → n < 2 → After n (block_fAeB ++ block_vB) =
      λ n h. all-++ (λ k. n < kind k) block_fAeB block_vB (each_fAeB (λ k. n < kind k) (λ f e. h)) (late n (omega arith)) in
      let last : After 0 (block_eAfB ++ (block_fAeB ++ block_vB)) =
      all-++ (λ k. 0 < kind k) block_eAfB (block_fAeB ++ block_vB) (each_eAfB (λ k. 0 < kind k) (λ e g. omega arith)) (later 0 (omega arith)) in
      distinct-++ block_vA (block_eAfB ++ (block_fAeB ++ block_vB)) (distinct_map vA (λ x y q. cc) (up_to (vertices a)) (distinct_up_to (vertices a)))
      (distinct-++ block_eAfB (block_fAeB ++ block_vB) edge_keys
      (distinct-++ block_fAeB block_vB facet_keys (distinct_map vB (λ x y q. cc) (up_to (vertices b)) (distinct_up_to (vertices b)))
      (by_kind 2 block_fAeB block_vB (each_fAeB (λ k. kind k ≤ 2) (λ f e. omega arith)) (late 2 (omega arith))))
      (by_kind 1 block_eAfB (block_fAeB ++ block_vB) (each_eAfB (λ k. kind k ≤ 1) (λ e g. omega arith)) (later 1 (omega arith))))
      (by_kind 0 block_vA (block_eAfB ++ (block_fAeB ++ block_vB)) (each_vA (λ k. kind k ≤ 0) (λ i. omega arith)) last)
    where
      edge_keys : Distinct block_eAfB
      edge_keys =
          distinct_blocks of_edge (edges a) (λ e. distinct_map (eAfB e) (λ x y q. cc) (up_to (facets b)) (distinct_up_to (facets b)))
          (λ e d n. apart_maps (eAfB e) (eAfB d) (up_to (facets b)) (up_to (facets b)) (λ x y q. n (cc))) (edges_distinct a)

      facet_keys : Distinct block_fAeB
      facet_keys =
          distinct_blocks of_facet (up_to (facets a)) (λ f. distinct_map (fAeB f) (λ x y q. cc) (edges b) (edges_distinct b))
          (λ f d n. apart_maps (fAeB f) (fAeB d) (edges b) (edges b) (λ x y q. n (cc))) (distinct_up_to (facets a))
