-- Every triangle of a result has three different corners, each the number of a kept vertex: the keys of one composite edge are all different, and kept
-- keys have different numbers, so no piece goes from a vertex to itself.
use mathlib.Core.Path.{◌≡◌, refl, sym, ap, ap₂, subst}
use mathlib.Core.Logic.{◌≢◌}
use mathlib.Core.Bool.{Bool, true, false, cond}
use mathlib.Core.List.{List, [], ◌∷◌, map, flat_map, zip, Memᴰ}
use Prim.Native.Nat.{ℕ, zero, suc, ◌+◌, ◌<◌}
use native.Mathlib.Omega.{arith}
use lib.ListN.{length, replicate}
use lib.IntN.{ℤ, pos, negsuc, neg_ℤ}
use Rattle.list_words.specs.Lists.{up_to, turned, nonzero, above, below}
use Rattle.list_words.proofs.Sums.{All, all_at, all_of, all_mono, all-++, all_map_of, all_flat_map, flat_map_map}
use Rattle.list_words.proofs.UpTo.{Distinct, distinct-++, distinct_map, apart_maps, distinct_up_to, all_up_to}
use Rattle.list_words.proofs.Joining as Joining
use Rattle.list_words.proofs.Numbering.{number_inj, number_lt, join_keys}
use Rattle.solids.specs.Solids.{Solid, Half, facets, facet_half_edges, edges, along, edge_of, signed}
use Rattle.solids.proofs.Admitted.{Proper, Passed, Between}
use Rattle.solids.proofs.Shut.{IsEdge, all_edges, facet_edges, facet_edges_distinct}
use Rattle.results.specs.declared.End.{End}
use Rattle.results.specs.Inclusion.{Key, vA, eAfB, fAeB, vB}
use Rattle.results.specs.Vertices.{keys, kept, number, same_key}
use Rattle.results.specs.Pieces.{SignedEnd, minus, plain, signed_as, ends_along, ends_of_eA, ends_of_fAfB, ends_of_eB, starts, stops, pieces, as_half}
use Rattle.results.specs.Triangles.{Triangle, fan, joined, pieces_of_eA, pieces_of_fAfB, pieces_of_eB, boundary_A, boundary_B, triangles}
use Rattle.results.proofs.Fans.{fan_proper}
use Rattle.results.proofs.Keys.{same_key_sound, same_key_self, mem_vA, mem_eAfB, mem_fAeB, mem_vB}

differ : ◌≡◌ {A = ℕ} 0 1 → ⊥
differ e = omega arith

nonzero_of : (x : ℤ) → x ≢ pos 0 → nonzero x ≡ true
nonzero_of (pos zero) n = absurd (n refl)
nonzero_of (pos (suc k)) n = refl
nonzero_of (negsuc k) n = refl

signed_ne : (h : Half) (x : ℤ) → signed h x ≢ pos 0 → x ≢ pos 0
signed_ne h x = go (along h)
  where
    go : (b : Bool) → cond b x (neg_ℤ x) ≢ pos 0 → x ≢ pos 0
    go true n = n
    go false n = λ e. n (ap neg_ℤ e)

turned_between : (n : ℕ) (h : Half) → Between n h → Between n (turned h)
turned_between n h s = record { start = s.end; end = s.start; apart = λ e. s.apart (sym e) }

module _ (inc : Key → ℤ) (a b : Solid) where
  abbrev pub num : Key → ℕ
  num k = number inc (keys a b) k

  abbrev pub vertex_count : ℕ
  vertex_count = length (kept inc (keys a b))

  abbrev pub Listed : Key → Type 0
  Listed k = Memᴰ k (keys a b)

  abbrev pub Kept : Key → Type 0
  Kept k = Listed k × (nonzero (inc k) ≡ true)

  -- what an end asks of its key
  abbrev pub Fits : SignedEnd → Type 0
  Fits e = e.count ≢ pos 0 → Kept e.key

  abbrev pub Step : Half → Type 0
  Step h = Between vertex_count h

  -- kept keys have different numbers, below the vertex count
  pub good : (k l : Key) → Kept k → Kept l → k ≢ l → Step (num k, num l)
  unfolding number kept
  good k l u v n =
      record {
        start = number_lt same_key (λ k. nonzero (inc k)) same_key_sound same_key_self k (keys a b) u.0 u.1;
        end = number_lt same_key (λ k. nonzero (inc k)) same_key_sound same_key_self l (keys a b) v.0 v.1;
        apart = λ e. n (number_inj same_key (λ k. nonzero (inc k)) same_key_sound same_key_self k l (keys a b) u.0 u.1 v.0 v.1 e);
      }

  -- ---- one composite edge: different keys, each kept if it has an end
  joined_keys : (es : List SignedEnd) → joined inc num a b es ≡ Joining.pieces (λ (e : SignedEnd). num e.key) (λ (e : SignedEnd). e.count) es
  unfolding pieces starts stops
  joined_keys es =
      ap₂ zip
      (flat_map_map (λ (e : End). replicate (below e.count) e.vertex) _ es)
      (flat_map_map (λ (e : End). replicate (above e.count) e.vertex) _ es)

  joined_steps : (es : List SignedEnd) → Distinct (map (λ (e : SignedEnd). e.key) es) → All Fits es → All Step (joined inc num a b es)
  joined_steps es d h =
      subst (All Step) (sym (joined_keys es)) (join_keys (λ (e : SignedEnd). e.key) (λ (e : SignedEnd). e.count) num Step Kept good es d h)

  keys_plain : (ks : List Key) → map (λ (e : SignedEnd). e.key) (map (plain inc) ks) ≡ ks
  keys_plain [] = refl
  keys_plain (k ∷ ks) = ap {B = List Key} (λ r. k ∷ r) (keys_plain ks)

  plain_kept : (k : Key) → Listed k → inc k ≢ pos 0 → Kept k
  plain_kept k m n = (m, nonzero_of (inc k) n)

  -- different keys, each kept if it has an end
  abbrev pub Sound : List SignedEnd → Type 0
  Sound es = Distinct (map (λ (e : SignedEnd). e.key) es) × All Fits es

  -- an edge: its two ends, and crossings with the other solid's facets
  along_sound :
      (start end : Key) (F : ℕ → Key) (n : ℕ) → start ≢ end → ((o : ℕ) → start ≢ F o) → ((o : ℕ) → end ≢ F o) → ((o p : ℕ) → F o ≡ F p → o ≡ p) → Listed start → Listed end
      → ((o : ℕ) → o < n → Listed (F o)) → Sound (ends_along inc start end (map F (up_to n)))
  along_sound start end F n se sF eF inj ms me mF = (
    subst (λ ks. Distinct (start ∷ end ∷ ks)) (sym (keys_plain (map F (up_to n)))) ((se, off start sF), (off end eF, distinct_map F inj (up_to n) (distinct_up_to n))),
    (
      (λ n. plain_kept start ms (λ e. n (ap neg_ℤ e))),
      (
        plain_kept end me,
        all_map_of Fits (plain inc) (map F (up_to n))
            (all_map_of (λ k. inc k ≢ pos 0 → Kept k) F (up_to n) (all_up_to (λ o. inc (F o) ≢ pos 0 → Kept (F o)) n (λ o i. plain_kept (F o) (mF o i)))),
      ),
    ),
  )
    where
      off : (k : Key) → ((o : ℕ) → k ≢ F o) → All (λ l. k ≢ l) (map F (up_to n))
      off k h = all_map_of (λ l. k ≢ l) F (up_to n) (all_of (λ o. k ≢ F o) (up_to n) (λ o m. h o))

  -- two facets: the edges of each with the other
  pair_sound :
      (f g : ℕ) → Distinct (map edge_of (facet_half_edges a f)) → Distinct (map edge_of (facet_half_edges b g))
      → All (λ h. Listed (eAfB (edge_of h) g)) (facet_half_edges a f) → All (λ h. Listed (fAeB f (edge_of h))) (facet_half_edges b g)
      → Sound (ends_of_fAfB inc a b f g)
  unfolding ends_of_fAfB
  pair_sound f g da db ma mb = (
    distinct-++ (map (λ e. eAfB e g) (map edge_of (facet_half_edges a f))) (map (fAeB f) (map edge_of (facet_half_edges b g)))
        (distinct_map (λ e. eAfB e g) (λ x y q. cc) (map edge_of (facet_half_edges a f)) da)
        (distinct_map (fAeB f) (λ x y q. cc) (map edge_of (facet_half_edges b g)) db)
        (apart_maps (λ e. eAfB e g) (fAeB f) (map edge_of (facet_half_edges a f)) (map edge_of (facet_half_edges b g)) (λ x y q. differ (cc))),
    all-++ Fits (map (λ h. minus (signed_as inc h (eAfB (edge_of h) g))) (facet_half_edges a f)) (map (λ h. signed_as inc h (fAeB f (edge_of h))) (facet_half_edges b g))
        (all_map_of Fits (λ h. minus (signed_as inc h (eAfB (edge_of h) g))) (facet_half_edges a f)
        (all_mono (λ h. Listed (eAfB (edge_of h) g)) (λ h. Fits (minus (signed_as inc h (eAfB (edge_of h) g)))) (facet_half_edges a f) (λ h m n. plain_kept (eAfB (edge_of h) g) m (signed_ne h (inc (eAfB (edge_of h) g)) (λ e. n (ap neg_ℤ e)))) ma))
        (all_map_of Fits (λ h. signed_as inc h (fAeB f (edge_of h))) (facet_half_edges b g)
        (all_mono (λ h. Listed (fAeB f (edge_of h))) (λ h. Fits (signed_as inc h (fAeB f (edge_of h)))) (facet_half_edges b g) (λ h m n. plain_kept (fAeB f (edge_of h)) m (signed_ne h (inc (fAeB f (edge_of h))) n)) mb)),
  )

  -- ---- boundaries of admitted solids
  turned_steps : (ps : List Half) → All Step ps → All Step (map turned ps)
  turned_steps ps s = all_map_of Step turned ps (all_mono Step (λ h. Step (turned h)) ps (turned_between vertex_count) s)

  -- the pieces of a facet's half-edges, from those of its edges
  halves_steps :
      (s : Solid) (f : ℕ) (p : Half → List Half) → ((h : Half) → Memᴰ h (facet_half_edges s f) → All Step (p (edge_of h)))
      → All Step (flat_map (λ h. as_half h (p (edge_of h))) (facet_half_edges s f))
  halves_steps s f p each =
      all_flat_map Step (λ h. as_half h (p (edge_of h))) (facet_half_edges s f)
      (all_of (λ h. All Step (as_half h (p (edge_of h)))) (facet_half_edges s f) (λ h m. go (along h) (p (edge_of h)) (each h m)))
    where
      go : (b : Bool) (ps : List Half) → All Step ps → All Step (cond b ps (map turned ps))
      go true ps r = r
      go false ps r = turned_steps ps r

  -- what is made for each facet of a solid
  row_steps : (n : ℕ) (p : ℕ → List Half) → ((o : ℕ) → o < n → All Step (p o)) → All Step (flat_map p (up_to n))
  row_steps n p each = all_flat_map Step p (up_to n) (all_up_to (λ o. All Step (p o)) n each)

  module _ (passed_a : Passed a) (passed_b : Passed b) where
    pub eA_sound : (e : Half) → Memᴰ e (edges a) → Sound (ends_of_eA inc b e)
    unfolding ends_of_eA
    eA_sound e m =
        let i = all_at (IsEdge a) m (all_edges a) in
        along_sound (vA e.0) (vA e.1) (eAfB e) (facets b) (λ q. let z : e.0 ≡ e.1 = cc in let r = i.rises in omega arith) (λ o q. differ (cc)) (λ o q. differ (cc)) (λ o p q. cc)
        (mem_vA a b e.0 (let r = i.rises in let s = i.below in omega arith)) (mem_vA a b e.1 i.below) (λ o h. mem_eAfB a b e o m h)

    pub eB_sound : (e : Half) → Memᴰ e (edges b) → Sound (ends_of_eB inc a e)
    unfolding ends_of_eB
    eB_sound e m =
        let i = all_at (IsEdge b) m (all_edges b) in
        along_sound (vB e.0) (vB e.1) (λ f. fAeB f e) (facets a) (λ q. let z : e.0 ≡ e.1 = cc in let r = i.rises in omega arith) (λ o q. differ (cc)) (λ o q. differ (cc)) (λ o p q. cc)
        (mem_vB a b e.0 (let r = i.rises in let s = i.below in omega arith)) (mem_vB a b e.1 i.below) (λ o h. mem_fAeB a b o e h m)

    pub fAfB_sound : (f g : ℕ) → f < facets a → g < facets b → Sound (ends_of_fAfB inc a b f g)
    fAfB_sound f g i j =
        pair_sound f g (facet_edges_distinct a passed_a f i) (facet_edges_distinct b passed_b g j)
        (all_of (λ h. Listed (eAfB (edge_of h) g)) (facet_half_edges a f) (λ h m. mem_eAfB a b (edge_of h) g (facet_edges a passed_a f i m) j))
        (all_of (λ h. Listed (fAeB f (edge_of h))) (facet_half_edges b g) (λ h m. mem_fAeB a b f (edge_of h) i (facet_edges b passed_b g j m)))

    eA_steps : (e : Half) → Memᴰ e (edges a) → All Step (pieces_of_eA inc num a b e)
    eA_steps e m = let s = eA_sound e m in joined_steps (ends_of_eA inc b e) s.0 s.1

    eB_steps : (e : Half) → Memᴰ e (edges b) → All Step (pieces_of_eB inc num a b e)
    eB_steps e m = let s = eB_sound e m in joined_steps (ends_of_eB inc a e) s.0 s.1

    fAfB_steps : (f g : ℕ) → f < facets a → g < facets b → All Step (pieces_of_fAfB inc num a b f g)
    fAfB_steps f g i j = let s = fAfB_sound f g i j in joined_steps (ends_of_fAfB inc a b f g) s.0 s.1

    boundary_A_steps : (f : ℕ) → f < facets a → All Step (boundary_A inc num a b f)
    unfolding boundary_A
    boundary_A_steps f i =
        all-++ Step (flat_map (λ h. as_half h (pieces_of_eA inc num a b (edge_of h))) (facet_half_edges a f)) (flat_map (pieces_of_fAfB inc num a b f) (up_to (facets b)))
        (halves_steps a f (pieces_of_eA inc num a b) (λ h m. eA_steps (edge_of h) (facet_edges a passed_a f i m)))
        (row_steps (facets b) (pieces_of_fAfB inc num a b f) (λ g j. fAfB_steps f g i j))

    boundary_B_steps : (g : ℕ) → g < facets b → All Step (boundary_B inc num a b g)
    unfolding boundary_B
    boundary_B_steps g j =
        all-++ Step (flat_map (λ f. map turned (pieces_of_fAfB inc num a b f g)) (up_to (facets a))) (flat_map (λ h. as_half h (pieces_of_eB inc num a b (edge_of h))) (facet_half_edges b g))
        (row_steps (facets a) (λ f. map turned (pieces_of_fAfB inc num a b f g)) (λ f i. turned_steps (pieces_of_fAfB inc num a b f g) (fAfB_steps f g i j)))
        (halves_steps b g (pieces_of_eB inc num a b) (λ h m. eB_steps (edge_of h) (facet_edges b passed_b g j m)))

    fans_proper :
        (n : ℕ) (o : ℕ → ℕ) (boundary : ℕ → List Half) → ((f : ℕ) → f < n → All Step (boundary f))
        → All (λ (t : Triangle). Proper vertex_count t.a t.p t.q) (flat_map (λ f. fan (o f) (boundary f)) (up_to n))
    fans_proper n o boundary each =
        all_flat_map _ (λ f. fan (o f) (boundary f)) (up_to n)
        (all_up_to (λ f. All (λ (t : Triangle). Proper vertex_count t.a t.p t.q) (fan (o f) (boundary f))) n
        (λ f i. fan_proper vertex_count (o f) (boundary f) (each f i)))

    -- THREE DIFFERENT CORNERS, each below the vertex count
    pub triangles_proper : All (λ (t : Triangle). Proper vertex_count t.a t.p t.q) (triangles inc num a b)
    unfolding triangles
    triangles_proper =
        all-++ (λ (t : Triangle). Proper vertex_count t.a t.p t.q) (flat_map (λ f. fan f (boundary_A inc num a b f)) (up_to (facets a))) (flat_map (λ g. fan (facets a + g) (boundary_B inc num a b g)) (up_to (facets b)))
        (fans_proper (facets a) (λ f. f) (boundary_A inc num a b) boundary_A_steps)
        (fans_proper (facets b) (λ g. facets a + g) (boundary_B inc num a b) boundary_B_steps)
