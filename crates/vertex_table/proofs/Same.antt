-- The triangles read from the table are those of the definitions, where the table has each key at its slot.
use mathlib.Core.Path.{◌≡◌, refl, sym, ap, ap₂, ◌∙◌}
use mathlib.Core.Bool.{Bool, true, false, not, cond}
use mathlib.Core.List.{List, [], ◌∷◌, ◌++◌, map, flat_map, map-map, append-nil}
use Prim.Native.Nat.{ℕ, ◌+◌, ◌*◌, ◌-◌, ◌<◌, ◌≤◌}
use native.Mathlib.Nat.{zero-mul}
use native.Mathlib.Omega.{arith}
use borrow.Author.Tests.{lt-ltb, le-ltb}
use lib.IntN.{ℤ, pos, neg_ℤ, neg_ℤ-neg_ℤ}
use lib.ListN.{length, get_or}
use Rattle.list_words.specs.Lists.{up_to, turned}
use Rattle.list_words.proofs.UpTo.{map_up_to, flat_up_to}
use Rattle.solids.specs.Solids.{Solid, Half, facets, facet_half_edges, along, edge_of, signed}
use Rattle.solids.proofs.Admitted.{Passed}
use Rattle.results.specs.declared.End.{End}
use Rattle.results.specs.Inclusion.{Key, vA, eAfB, fAeB, vB}
use Rattle.results.specs.Vertices.{keys}
use Rattle.results.specs.Pieces.{SignedEnd, plain, ends_of_eA, ends_of_fAfB, ends_of_eB, gathered, pieces, as_half}
use Rattle.results.specs.Triangles.{fan, pieces_of_eA, pieces_of_fAfB, pieces_of_eB, boundary_A, boundary_B, triangles}
use Rattle.layouts.specs.declared.Sizes.{Sizes}
use Rattle.layouts.specs.Words.{edge_at, edge_number, halves, sizes}
use Rattle.vertex_table.specs.Words as T
use Rattle.vertex_table.proofs.Slots.{edge_in, facet_in}
use Rattle.list_words.proofs.Places.{at_map, flat_up_to_add}
use Rattle.vertex_table.proofs.Keys.{no_key, length_keys, key_vA, key_eAfB, key_fAeB, key_vB}
use Rattle.layouts.proofs.Reading.{no_half, half_at, facet_half, reads_A, reads_B, known}

-- ---- signs
-- a half-edge's pieces are its edge's, turned round if it runs against it
as_turn : (h : Half) (ps : List Half) → as_half h ps ≡ T.turn (not (along h)) ps
as_turn h ps = by (along h)
  where
    by : (b : Bool) → cond b ps (map turned ps) ≡ T.turn (not b) ps
    by true = refl
    by false = refl

plus_flip : (b : Bool) (v : ℕ) (n : ℤ) → T.flip (not b) (record { vertex = v; count = n }) ≡ record { vertex = v; count = cond b n (neg_ℤ n) }
plus_flip true v n = refl
plus_flip false v n = refl

minus_flip : (b : Bool) (v : ℕ) (n : ℤ) → T.flip (not (not b)) (record { vertex = v; count = n }) ≡ record { vertex = v; count = neg_ℤ (cond b n (neg_ℤ n)) }
minus_flip true v n = refl
minus_flip false v n = rw (neg_ℤ-neg_ℤ n)

flat_three : {A B : Type 0} (f : A → List B) (x y w : A) → flat_map f (x ∷ y ∷ w ∷ []) ≡ f x ++ (f y ++ f w)
unfolding flat_map
flat_three f x y w = ap (λ r. f x ++ (f y ++ r)) (append-nil (f w))

module _ (inc : Key → ℤ) (num : Key → ℕ) (a b : Solid) (passed_a : Passed a) (passed_b : Passed b) where
  abbrev z : Sizes
  z = sizes a b

  abbrev hs : List ℕ
  hs = halves a b

  abbrev t : T.Table
  t = T.table (map inc (keys a b)) (map num (keys a b))

  abbrev E : Key → End
  E k = record { vertex = num k; count = inc k }

  -- ---- each key at its slot
  at_slot : (i : ℕ) (k : Key) → i < T.total z → get_or (keys a b) i no_key ≡ k → T.end t i ≡ E k
  at_slot i k h e =
      let l : i < length (keys a b) = omega (arith, length_keys a b) in
      let p = at_map num (keys a b) i 0 no_key l ∙ ap num e in
      let q = at_map inc (keys a b) i (pos 0) no_key l ∙ ap inc e in
      λ j. record { vertex = p j; count = q j }

  at_vA : (i n : ℕ) → n ≡ i → i < z.va → T.end t n ≡ E (vA i)
  at_vA i n e h = ap (T.end t) e ∙ at_slot i (vA i) (omega arith) (key_vA a b i h)

  at_vB : (i n : ℕ) → n ≡ i → i < z.vb → T.end t (T.of_B z n) ≡ E (vB i)
  at_vB i n e h = ap (λ n. T.end t (T.of_B z n)) e ∙ at_slot (T.of_B z i) (vB i) (omega arith) (key_vB a b i h)

  -- ---- half-edges of A
  module _ (h : ℕ) (l : h < 3 * z.fa) where
    abbrev kA : Half
    kA = half_at a h

    cross_A : (g : ℕ) → g < z.fb → T.end t (T.on_edge z (edge_at hs h) g) ≡ E (eAfB (edge_of kA) g)
    cross_A g i =
        let r = reads_A a b h l in
        let k = known a passed_a h l in
        ap (λ n. T.end t (T.on_edge z n g)) r.edge
        ∙ at_slot (T.on_edge z (edge_number a (edge_of kA)) g) (eAfB (edge_of kA) g) (omega (arith, edge_in z (edge_number a (edge_of kA)) g k.number i))
        (key_eAfB a b (edge_number a (edge_of kA)) g k.number i ∙ ap (λ e. eAfB e g) k.at)

    ends_A : gathered num (ends_of_eA inc b (edge_of kA)) ≡ T.off (E (vA (edge_of kA).0)) ∷ E (vA (edge_of kA).1) ∷ map (λ g. E (eAfB (edge_of kA) g)) (up_to z.fb)
    unfolding ends_of_eA
    ends_A =
        let G : SignedEnd → End = λ e. record { vertex = num e.key; count = e.count } in
        ap (λ r. T.off (E (vA (edge_of kA).0)) ∷ E (vA (edge_of kA).1) ∷ r)
        (map-map G (plain inc) (map (eAfB (edge_of kA)) (up_to z.fb)) ∙ map-map (λ k. G (plain inc k)) (eAfB (edge_of kA)) (up_to z.fb))

    -- its edge's ends
    pub line_A : let l = T.line_of hs z h in T.line_ends t l l.many ≡ gathered num (ends_of_eA inc b (edge_of kA))
    unfolding T.line_of T.line_ends
    line_A =
        let r = reads_A a b h l in
        let k = known a passed_a h l in
        let s = at_vA (edge_of kA).0 (get_or hs (3 * h + 1) 0) r.start k.start in
        let e = at_vA (edge_of kA).1 (get_or hs (3 * h + 2) 0) r.end k.end in
        let x = map_up_to z.fb (λ i. T.end t (T.on_edge z (edge_at hs h) 0 + i * 1)) (λ g. E (eAfB (edge_of kA) g)) (λ i m. ap (T.end t) (place i) ∙ cross_A i m) in
        rw (lt-ltb _ _ l) ((λ j. T.off (s j) ∷ e j ∷ x j) ∙ sym ends_A)
      where
        place : (i : ℕ) → T.on_edge z (edge_at hs h) 0 + i * 1 ≡ T.on_edge z (edge_at hs h) i
        place i = omega arith

    way_A : (T.line_of hs z h).against ≡ not (along kA)
    unfolding T.line_of
    way_A = rw (lt-ltb _ _ l) (reads_A a b h l).way

    half_A : T.half t hs z h ≡ as_half kA (pieces_of_eA inc num a b (edge_of kA))
    unfolding T.half T.line_pieces
    half_A = (λ j. T.turn (way_A j) (pieces (line_A j))) ∙ sym (as_turn kA (pieces_of_eA inc num a b (edge_of kA)))

  -- ---- half-edges of B
  module _ (h : ℕ) (l : h < 3 * z.fb) where
    abbrev kB : Half
    kB = half_at b h

    abbrev n : ℕ
    n = 3 * z.fa + h

    cross_B : (f : ℕ) → f < z.fa → T.end t (T.on_facet z f (edge_at hs n)) ≡ E (fAeB f (edge_of kB))
    cross_B f i =
        let r = reads_B a b h l in
        let k = known b passed_b h l in
        ap (λ m. T.end t (T.on_facet z f m)) r.edge
        ∙ at_slot (T.on_facet z f (edge_number b (edge_of kB))) (fAeB f (edge_of kB)) (omega (arith, facet_in z f (edge_number b (edge_of kB)) i k.number))
        (key_fAeB a b f (edge_number b (edge_of kB)) i k.number ∙ ap (fAeB f) k.at)

    ends_B : gathered num (ends_of_eB inc a (edge_of kB)) ≡ T.off (E (vB (edge_of kB).0)) ∷ E (vB (edge_of kB).1) ∷ map (λ f. E (fAeB f (edge_of kB))) (up_to z.fa)
    unfolding ends_of_eB
    ends_B =
        let G : SignedEnd → End = λ e. record { vertex = num e.key; count = e.count } in
        ap (λ r. T.off (E (vB (edge_of kB).0)) ∷ E (vB (edge_of kB).1) ∷ r)
        (map-map G (plain inc) (map (λ f. fAeB f (edge_of kB)) (up_to z.fa)) ∙ map-map (λ k. G (plain inc k)) (λ f. fAeB f (edge_of kB)) (up_to z.fa))

    pub line_B : let l = T.line_of hs z n in T.line_ends t l l.many ≡ gathered num (ends_of_eB inc a (edge_of kB))
    unfolding T.line_of T.line_ends
    line_B =
        let r = reads_B a b h l in
        let k = known b passed_b h l in
        let s = at_vB (edge_of kB).0 (get_or hs (3 * n + 1) 0) r.start k.start in
        let e = at_vB (edge_of kB).1 (get_or hs (3 * n + 2) 0) r.end k.end in
        let x = map_up_to z.fa (λ i. T.end t (T.on_facet z 0 (edge_at hs n) + i * z.eb)) (λ f. E (fAeB f (edge_of kB))) (λ i m. ap (T.end t) (place i) ∙ cross_B i m) in
        let o : 3 * z.fa ≤ n = omega arith in
        rw (le-ltb _ _ o) ((λ j. T.off (s j) ∷ e j ∷ x j) ∙ sym ends_B)
      where
        place : (i : ℕ) → T.on_facet z 0 (edge_at hs n) + i * z.eb ≡ T.on_facet z i (edge_at hs n)
        place i = omega (arith, zero-mul z.eb)

    way_B : (T.line_of hs z n).against ≡ not (along kB)
    unfolding T.line_of
    way_B = let o : 3 * z.fa ≤ n = omega arith in rw (le-ltb _ _ o) (reads_B a b h l).way

    half_B : T.half t hs z n ≡ as_half kB (pieces_of_eB inc num a b (edge_of kB))
    unfolding T.half T.line_pieces
    half_B = (λ j. T.turn (way_B j) (pieces (line_B j))) ∙ sym (as_turn kB (pieces_of_eB inc num a b (edge_of kB)))

  -- ---- by facet and which of its three: the half-edge's number m is 3 f + k
  module _ (f : ℕ) (i : f < z.fa) (k m : ℕ) (l : k < 3) (e : m ≡ 3 * f + k) where
    abbrev hA : Half
    hA = get_or (facet_half_edges a f) k no_half

    named_A : half_at a m ≡ hA
    named_A = ap (half_at a) e ∙ facet_half a f k i l

    bounds_A : m < 3 * z.fa
    bounds_A = omega arith

    side_A : T.half t hs z m ≡ as_half hA (pieces_of_eA inc num a b (edge_of hA))
    side_A = half_A m bounds_A ∙ ap (λ h. as_half h (pieces_of_eA inc num a b (edge_of h))) named_A

    end_A : (g : ℕ) → g < z.fb → T.a_end t hs z g m ≡ record { vertex = num (eAfB (edge_of hA) g); count = neg_ℤ (signed hA (inc (eAfB (edge_of hA) g))) }
    end_A g j =
        (λ x. T.flip (not ((reads_A a b m bounds_A).way x)) (cross_A m bounds_A g j x))
        ∙ ap (λ h. T.flip (not (not (along h))) (E (eAfB (edge_of h) g))) named_A ∙ minus_flip (along hA) (num (eAfB (edge_of hA) g)) (inc (eAfB (edge_of hA) g))

  module _ (g : ℕ) (i : g < z.fb) (k m : ℕ) (l : k < 3) (e : m ≡ 3 * (z.fa + g) + k) where
    abbrev hB : Half
    hB = get_or (facet_half_edges b g) k no_half

    named_B : half_at b (3 * g + k) ≡ hB
    named_B = facet_half b g k i l

    bounds_B : 3 * g + k < 3 * z.fb
    bounds_B = omega arith

    moved : m ≡ 3 * z.fa + (3 * g + k)
    moved = omega arith

    side_B : T.half t hs z m ≡ as_half hB (pieces_of_eB inc num a b (edge_of hB))
    side_B = ap (T.half t hs z) moved ∙ half_B (3 * g + k) bounds_B ∙ ap (λ h. as_half h (pieces_of_eB inc num a b (edge_of h))) named_B

    end_B : (f : ℕ) → f < z.fa → T.b_end t hs z f m ≡ record { vertex = num (fAeB f (edge_of hB)); count = signed hB (inc (fAeB f (edge_of hB))) }
    end_B f j =
        ap (T.b_end t hs z f) moved ∙ (λ x. T.flip ((reads_B a b (3 * g + k) bounds_B).way x) (cross_B (3 * g + k) bounds_B f j x))
        ∙ ap (λ h. T.flip (not (along h)) (E (fAeB f (edge_of h)))) named_B ∙ plus_flip (along hB) (num (fAeB f (edge_of hB))) (inc (fAeB f (edge_of hB)))

  -- ---- two facets
  pub pair_A_B : (f g : ℕ) → f < z.fa → g < z.fb → T.pair_ends t hs z f g ≡ gathered num (ends_of_fAfB inc a b f g)
  unfolding T.pair_ends ends_of_fAfB
  pair_A_B f g i j =
      let m = z.fa + g in
      let a0 = end_A f i 0 (3 * f) (omega arith) (omega arith) g j in
      let a1 = end_A f i 1 (3 * f + 1) (omega arith) refl g j in
      let a2 = end_A f i 2 (3 * f + 2) (omega arith) refl g j in
      let b0 = end_B g j 0 (3 * m) (omega arith) (omega arith) f i in
      let b1 = end_B g j 1 (3 * m + 1) (omega arith) refl f i in
      let b2 = end_B g j 2 (3 * m + 2) (omega arith) refl f i in
      λ x. a0 x ∷ a1 x ∷ a2 x ∷ b0 x ∷ b1 x ∷ b2 x ∷ []

  both_facets : (f g : ℕ) → f < z.fa → g < z.fb → pieces (T.pair_ends t hs z f g) ≡ pieces_of_fAfB inc num a b f g
  both_facets f g i j = ap pieces (pair_A_B f g i j)

  pair_A : (f g : ℕ) → f < z.fa → g < z.fb → T.pair t hs z f g ≡ pieces_of_fAfB inc num a b f g
  unfolding T.pair
  pair_A f g i j = rw (lt-ltb _ _ i) (both_facets f g i j)

  pair_B : (g f : ℕ) → g < z.fb → f < z.fa → T.pair t hs z (z.fa + g) f ≡ map turned (pieces_of_fAfB inc num a b f g)
  unfolding T.pair
  pair_B g f j i =
      let e : z.fa + g - z.fa ≡ g = omega arith in
      rw (le-ltb (z.fa + g) z.fa (omega arith), e) (ap (map turned) (both_facets f g i j))

  -- ---- boundaries
  same_A : (f : ℕ) → f < z.fa → T.boundary t hs z f ≡ boundary_A inc num a b f
  unfolding T.boundary T.round T.row boundary_A
  same_A f i =
      let s : Half → List Half = λ h. as_half h (pieces_of_eA inc num a b (edge_of h)) in
      let c = side_A f i 0 (3 * f) (omega arith) (omega arith) in
      let d = side_A f i 1 (3 * f + 1) (omega arith) refl in
      let e = side_A f i 2 (3 * f + 2) (omega arith) refl in
      let r = flat_up_to z.fb (T.pair t hs z f) (pieces_of_fAfB inc num a b f) (λ g j. pair_A f g i j) in
      rw (lt-ltb _ _ i) (ap₂ ◌++◌ ((λ x. c x ++ (d x ++ e x)) ∙ sym (flat_three s _ _ _)) r)

  same_B : (g : ℕ) → g < z.fb → T.boundary t hs z (z.fa + g) ≡ boundary_B inc num a b g
  unfolding T.boundary T.round T.row boundary_B
  same_B g j =
      let m = z.fa + g in
      let s : Half → List Half = λ h. as_half h (pieces_of_eB inc num a b (edge_of h)) in
      let c = side_B g j 0 (3 * m) (omega arith) (omega arith) in
      let d = side_B g j 1 (3 * m + 1) (omega arith) refl in
      let e = side_B g j 2 (3 * m + 2) (omega arith) refl in
      let r = flat_up_to z.fa (T.pair t hs z m) (λ f. map turned (pieces_of_fAfB inc num a b f g)) (λ f i. pair_B g f j i) in
      rw (le-ltb (z.fa + g) z.fa (omega arith)) (ap₂ ◌++◌ r ((λ x. c x ++ (d x ++ e x)) ∙ sym (flat_three s _ _ _)))

  -- ---- the whole
  pub same_triangles : T.triangles t hs z ≡ triangles inc num a b
  unfolding T.triangles T.fan_of triangles
  same_triangles =
      flat_up_to_add (T.fan_of t hs z) z.fa z.fb
      ∙ ap₂ ◌++◌
      (flat_up_to z.fa (T.fan_of t hs z) (λ f. fan f (boundary_A inc num a b f)) (λ f i. ap (fan f) (same_A f i)))
      (flat_up_to z.fb (λ g. T.fan_of t hs z (z.fa + g)) (λ g. fan (facets a + g) (boundary_B inc num a b g)) (λ g j. ap (fan (z.fa + g)) (same_B g j)))
