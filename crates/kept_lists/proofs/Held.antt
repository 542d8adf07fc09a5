-- The triangles from the lists are those of every table that the lists stand for: a vertex that does not count makes no piece, whatever its number.
use mathlib.Core.Path.{◌≡◌, refl, sym, ap, ap₂, ◌∙◌}
use mathlib.Core.Logic.{◌⊎◌, inl, inr}
use mathlib.Core.Bool.{Bool, true, false, not, cond}
use mathlib.Core.List.Memᴰ
use mathlib.Core.List.{List, [], ◌∷◌, ◌++◌, map, flat_map, zip, map-map, Memᴰ}
use Prim.Native.Nat.{ℕ, zero, suc, ◌+◌, ◌*◌, ◌-◌, ◌<◌, ◌≤◌}
use native.Mathlib.Nat.{mul-one, zero-mul}
use native.Mathlib.Omega.{arith}
use native.Mathlib.Decide.{dec_lt, ℕ_discrete}
use borrow.Author.Tests.{lt-ltb, le-ltb, eq-eqb, ne_eqb}
use lib.IntN.{ℤ, pos, negsuc}
use lib.ListN.{get_or, replicate}
use Rattle.list_words.specs.Lists.{up_to, keep, nonzero, above, below, turned}
use Rattle.list_words.proofs.UpTo.{map_up_to, flat_up_to, mem_up_to}
use Rattle.results.specs.declared.End.{End}
use Rattle.results.specs.Pieces.{starts, stops, pieces}
use Rattle.results.specs.Triangles.{fan}
use Rattle.layouts.specs.declared.Sizes.{Sizes}
use Rattle.layouts.specs.Words.{edge_at, against}
use Rattle.vertex_table.specs.Words as T
use Rattle.kept_lists.specs.Words as K
use Rattle.kept_lists.specs.Words.{Rows, blank, look, in_row, crossing, vertex, dense, tidy, Held}
use Rattle.kept_lists.proofs.Same.{same_half, same_row}

-- ---- pieces of tidied ends
starts_tidy : (e : End) → replicate (below (tidy e).count) (tidy e).vertex ≡ replicate (below e.count) e.vertex
starts_tidy e = go e.count
  where
    go : (n : ℤ) → let d = cond (nonzero n) (record { vertex = e.vertex; count = n }) blank in replicate (below d.count) d.vertex ≡ replicate (below n) e.vertex
    go (pos zero) = refl
    go (pos (suc n)) = refl
    go (negsuc n) = refl

stops_tidy : (e : End) → replicate (above (tidy e).count) (tidy e).vertex ≡ replicate (above e.count) e.vertex
stops_tidy e = go e.count
  where
    go : (n : ℤ) → let d = cond (nonzero n) (record { vertex = e.vertex; count = n }) blank in replicate (above d.count) d.vertex ≡ replicate (above n) e.vertex
    go (pos zero) = refl
    go (pos (suc n)) = refl
    go (negsuc n) = refl

all_starts : (es : List End) → starts (map tidy es) ≡ starts es
unfolding starts flat_map
all_starts [] = refl
all_starts (e ∷ es) = ap₂ ◌++◌ (starts_tidy e) (all_starts es)

all_stops : (es : List End) → stops (map tidy es) ≡ stops es
unfolding stops flat_map
all_stops [] = refl
all_stops (e ∷ es) = ap₂ ◌++◌ (stops_tidy e) (all_stops es)

pub tidy_pieces : (es ds : List End) → map tidy es ≡ map tidy ds → pieces es ≡ pieces ds
unfolding pieces
tidy_pieces es ds e = ap₂ zip (sym (all_starts es) ∙ ap starts e ∙ all_starts ds) (sym (all_stops es) ∙ ap stops e ∙ all_stops ds)

tidy_flip : (b : Bool) (e : End) → tidy (T.flip b e) ≡ T.flip b (tidy e)
tidy_flip b e = go b e.count
  where
    go : (b : Bool) (n : ℤ) → tidy (T.flip b (record { vertex = e.vertex; count = n })) ≡ T.flip b (tidy (record { vertex = e.vertex; count = n }))
    go true (pos zero) = refl
    go true (pos (suc n)) = refl
    go true (negsuc n) = refl
    go false n = refl

pub tidy_twice : (e : End) → tidy (tidy e) ≡ tidy e
tidy_twice e = go e.count
  where
    go : (n : ℤ) → let d : End = record { vertex = e.vertex; count = n } in tidy (cond (nonzero n) d blank) ≡ cond (nonzero n) d blank
    go (pos zero) = refl
    go (pos (suc n)) = refl
    go (negsuc n) = refl

flip_same : (b : Bool) (e d : End) → tidy e ≡ tidy d → tidy (T.flip b e) ≡ tidy (T.flip b d)
flip_same b e d q = tidy_flip b e ∙ ap (T.flip b) q ∙ sym (tidy_flip b d)

module _ (hs : List ℕ) (z : Sizes) (inc : List ℤ) (num : List ℕ) (w : Rows) (t : T.Table) (halves : T.Halves hs z) (held : Held z inc num w t) where
  cross_A : (e g : ℕ) → e < z.ea → g < z.fb → tidy (crossing w e g) ≡ tidy (T.end t (T.on_edge z e g))
  cross_A e g h k = ap tidy (sym (held.edge_A e g h k)) ∙ tidy_twice (T.end t (T.on_edge z e g))

  cross_B : (f e : ℕ) → f < z.fa → e < z.eb → tidy (crossing w (z.ea + f) e) ≡ tidy (T.end t (T.on_facet z f e))
  cross_B f e h k = ap tidy (sym (held.edge_B f e h k)) ∙ tidy_twice (T.end t (T.on_facet z f e))

  -- ---- a half-edge
  along_A : (h : ℕ) → h < 3 * z.fa
      → map tidy (map (K.line_end w hs z h) (up_to z.fb)) ≡ map tidy (map (λ i. T.end t (T.on_edge z (edge_at hs h) 0 + i * 1)) (up_to z.fb))
  along_A h k =
      let e = edge_at hs h in
      map-map tidy (K.line_end w hs z h) (up_to z.fb)
      ∙ map_up_to z.fb (λ i. tidy (K.line_end w hs z h i)) (λ i. tidy (T.end t (T.on_edge z e 0 + i * 1)))
      (λ i l. let q : T.on_edge z e i ≡ T.on_edge z e 0 + i * 1 = omega (arith, mul-one i) in rw (lt-ltb _ _ k) (cross_A e i (halves.edge_A h k) l ∙ ap (λ n. tidy (T.end t n)) q))
      ∙ sym (map-map tidy (λ i. T.end t (T.on_edge z e 0 + i * 1)) (up_to z.fb))

  along_B : (h : ℕ) → 3 * z.fa ≤ h → h < 3 * (z.fa + z.fb)
      → map tidy (map (K.line_end w hs z h) (up_to z.fa)) ≡ map tidy (map (λ i. T.end t (T.on_facet z 0 (edge_at hs h) + i * z.eb)) (up_to z.fa))
  along_B h k m =
      let e = edge_at hs h in
      map-map tidy (K.line_end w hs z h) (up_to z.fa)
      ∙ map_up_to z.fa (λ i. tidy (K.line_end w hs z h i)) (λ i. tidy (T.end t (T.on_facet z 0 e + i * z.eb)))
      (λ i l. let q : T.on_facet z i e ≡ T.on_facet z 0 e + i * z.eb = omega (arith, zero-mul z.eb) in rw (le-ltb _ _ k) (cross_B i e l (halves.edge_B h k m) ∙ ap (λ n. tidy (T.end t n)) q))
      ∙ sym (map-map tidy (λ i. T.end t (T.on_facet z 0 e + i * z.eb)) (up_to z.fa))

  -- start, end, crossings
  three : (a b c d : End) (es ds : List End) → tidy a ≡ tidy b → tidy c ≡ tidy d → map tidy es ≡ map tidy ds → map tidy (T.off a ∷ c ∷ es) ≡ map tidy (T.off b ∷ d ∷ ds)
  three a b c d es ds p q r = λ j. flip_same true a b p j ∷ q j ∷ r j

  pub tidy_line : (h : ℕ) → h < 3 * (z.fa + z.fb) → map tidy (K.line_ends inc num w hs z h (K.line_many z h)) ≡ map tidy (T.line_ends t (T.line_of hs z h) (T.line_of hs z h).many)
  unfolding K.line_ends T.line_ends T.line_of
  tidy_line h m = elim (dec_lt h (3 * z.fa)) [
    | yes k ↦
        simp (lt-ltb _ _ k)
        (three (vertex inc num (get_or hs (3 * h + 1) 0)) (T.end t (get_or hs (3 * h + 1) 0)) (vertex inc num (get_or hs (3 * h + 2) 0)) (T.end t (get_or hs (3 * h + 2) 0)) (map (K.line_end w hs z h) (up_to z.fb)) (map (λ i. T.end t (T.on_edge z (edge_at hs h) 0 + i * 1)) (up_to z.fb))
        (sym (held.own_A (get_or hs (3 * h + 1) 0) (halves.start_A h k))) (sym (held.own_A (get_or hs (3 * h + 2) 0) (halves.end_A h k))) (along_A h k))
    | no n ↦
        let k : 3 * z.fa ≤ h = omega arith in
        simp (le-ltb _ _ k)
        (three (vertex inc num (z.va + get_or hs (3 * h + 1) 0)) (T.end t (T.of_B z (get_or hs (3 * h + 1) 0))) (vertex inc num (z.va + get_or hs (3 * h + 2) 0)) (T.end t (T.of_B z (get_or hs (3 * h + 2) 0))) (map (K.line_end w hs z h) (up_to z.fa)) (map (λ i. T.end t (T.on_facet z 0 (edge_at hs h) + i * z.eb)) (up_to z.fa))
        (sym (held.own_B (get_or hs (3 * h + 1) 0) (halves.start_B h k m))) (sym (held.own_B (get_or hs (3 * h + 2) 0) (halves.end_B h k m))) (along_B h k m))
  ]

  way : (h : ℕ) → (T.line_of hs z h).against ≡ against hs h
  unfolding T.line_of
  way h = elim (dec_lt h (3 * z.fa)) [
    | yes k ↦ rw (lt-ltb _ _ k)
    | no n ↦ let k : 3 * z.fa ≤ h = omega arith in rw (le-ltb _ _ k)
  ]

  held_half : (h : ℕ) → h < 3 * (z.fa + z.fb) → K.half inc num w hs z h ≡ T.half t hs z h
  unfolding K.half T.half T.line_pieces
  held_half h m =
      let l = T.line_of hs z h in
      ap (T.turn (against hs h)) (tidy_pieces (K.line_ends inc num w hs z h (K.line_many z h)) (T.line_ends t l l.many) (tidy_line h m))
      ∙ ap (λ b. T.turn b (pieces (T.line_ends t l l.many))) (sym (way h))

  -- ---- two facets
  held_a : (g h : ℕ) → g < z.fb → h < 3 * z.fa → tidy (K.a_end w hs g h) ≡ tidy (T.a_end t hs z g h)
  held_a g h l k = flip_same (not (against hs h)) (crossing w (edge_at hs h) g) (T.end t (T.on_edge z (edge_at hs h) g)) (cross_A (edge_at hs h) g (halves.edge_A h k) l)

  held_b : (f h : ℕ) → f < z.fa → 3 * z.fa ≤ h → h < 3 * (z.fa + z.fb) → tidy (K.b_end w hs z f h) ≡ tidy (T.b_end t hs z f h)
  held_b f h l k m = flip_same (against hs h) (crossing w (z.ea + f) (edge_at hs h)) (T.end t (T.on_facet z f (edge_at hs h))) (cross_B f (edge_at hs h) l (halves.edge_B h k m))

  pub tidy_pair : (f g : ℕ) → f < z.fa → g < z.fb → map tidy (K.pair_ends w hs z f g) ≡ map tidy (T.pair_ends t hs z f g)
  unfolding K.pair_ends T.pair_ends
  tidy_pair f g k l =
      let m = z.fa + g in
      let a0 = held_a g (3 * f) l (omega arith) in
      let a1 = held_a g (3 * f + 1) l (omega arith) in
      let a2 = held_a g (3 * f + 2) l (omega arith) in
      let b0 = held_b f (3 * m) k (omega arith) (omega arith) in
      let b1 = held_b f (3 * m + 1) k (omega arith) (omega arith) in
      let b2 = held_b f (3 * m + 2) k (omega arith) (omega arith) in
      λ j. a0 j ∷ a1 j ∷ a2 j ∷ b0 j ∷ b1 j ∷ b2 j ∷ []

  held_ends : (f g : ℕ) → f < z.fa → g < z.fb → pieces (K.pair_ends w hs z f g) ≡ pieces (T.pair_ends t hs z f g)
  held_ends f g k l = tidy_pieces (K.pair_ends w hs z f g) (T.pair_ends t hs z f g) (tidy_pair f g k l)

  held_pair : (x i : ℕ) → x < z.fa + z.fb → i < T.others z x → K.pair w hs z x i ≡ T.pair t hs z x i
  unfolding K.pair T.pair
  held_pair x i k l = elim (dec_lt x z.fa) [
    | yes h ↦ rw (lt-ltb _ _ h) (held_ends x i h (rw (lt-ltb _ _ h) at l))
    | no n ↦ let h : z.fa ≤ x = omega arith in rw (le-ltb _ _ h) (ap (map turned) (held_ends i (x - z.fa) (rw (le-ltb _ _ h) at l) (omega arith)))
  ]

  held_row : (x : ℕ) → x < z.fa + z.fb → K.row w hs z x ≡ T.row t hs z x
  unfolding K.row T.row
  held_row x k = flat_up_to (T.others z x) (K.pair w hs z x) (T.pair t hs z x) (λ i l. held_pair x i k l)

  -- ---- the whole
  same_boundary : (x : ℕ) → x < z.fa + z.fb → T.boundary (dense z inc num w) hs z x ≡ T.boundary t hs z x
  unfolding T.boundary T.round
  same_boundary x k =
      let r = sym (same_row hs z inc num w halves x k) ∙ held_row x k in
      let h0 = sym (same_half hs z inc num w halves (3 * x) (omega arith)) ∙ held_half (3 * x) (omega arith) in
      let h1 = sym (same_half hs z inc num w halves (3 * x + 1) (omega arith)) ∙ held_half (3 * x + 1) (omega arith) in
      let h2 = sym (same_half hs z inc num w halves (3 * x + 2) (omega arith)) ∙ held_half (3 * x + 2) (omega arith) in
      rw (r, h0, h1, h2)

  -- THE SAME TRIANGLES as from any table that the lists stand for
  pub held_triangles : T.triangles (dense z inc num w) hs z ≡ T.triangles t hs z
  unfolding T.triangles T.fan_of
  held_triangles = flat_up_to (z.fa + z.fb) (T.fan_of (dense z inc num w) hs z) (T.fan_of t hs z) (λ x k. ap (fan x) (same_boundary x k))

-- ---- a row that lists what counts, with its columns, has in each column what stands there
abbrev pub counts : ℕ × End → Bool
counts x = nonzero x.1.count

module _ (M : ℕ → End) where
  abbrev pub at_column : ℕ → ℕ × End
  at_column c = (c, M c)

  abbrev listed : List ℕ → List (ℕ × End)
  listed cs = keep counts (map at_column cs)

  -- a column that is kept, or is not
  look_kept : (c d : ℕ) (r : List (ℕ × End)) (b : Bool) → (b ≡ true → d ≡ c → look c ((d, M d) ∷ r) ≡ M c) × ((d ≡ c → ⊥) → look c (cond b ((d, M d) ∷ r) r) ≡ look c r)
  unfolding look
  look_kept c d r true = ((λ t e. rw (eq-eqb d c e) (ap M e)), (λ n. rw (ne_eqb d c n)))
  look_kept c d r false = ((λ t e. rw (eq-eqb d c e) (ap M e)), (λ n. refl))

  look_off : (c : ℕ) (cs : List ℕ) → nonzero (M c).count ≡ false → look c (listed cs) ≡ blank
  unfolding look keep
  look_off c [] q = refl
  look_off c (d ∷ cs) q = elim (ℕ_discrete d c) [
    | yes e ↦ let f : nonzero (M d).count ≡ false = ap (λ n. nonzero (M n).count) e ∙ q in rw f (look_off c cs q)
    | no n ↦ (look_kept c d (listed cs) (nonzero (M d).count)).1 n ∙ look_off c cs q
  ]

  look_one : (c : ℕ) (cs : List ℕ) → Memᴰ c cs → nonzero (M c).count ≡ true → look c (listed cs) ≡ M c
  unfolding keep
  look_one c [] m q = absurd (Memᴰ.not-nil m)
  look_one c (d ∷ cs) m q = elim (ℕ_discrete d c) [
    | yes e ↦ let f : nonzero (M d).count ≡ true = ap (λ n. nonzero (M n).count) e ∙ q in rw f ((look_kept c d (listed cs) true).0 refl e)
    | no n ↦ (look_kept c d (listed cs) (nonzero (M d).count)).1 n ∙ look_one c cs (rest n (Memᴰ.cases_cons m)) q
  ]
    where
      rest : (d ≡ c → ⊥) → (c ≡ d) ⊎ Memᴰ c cs → Memᴰ c cs
      rest n (inl e) = absurd (n (sym e))
      rest n (inr i) = i

  pub row_crossing : (w : Rows) (r n : ℕ) → in_row w r ≡ keep counts (map at_column (up_to n)) → (c : ℕ) → c < n → tidy (M c) ≡ crossing w r c
  unfolding crossing
  row_crossing w r n e c h = sym (ap (look c) e ∙ go (nonzero (M c).count) refl)
    where
      go : (b : Bool) → nonzero (M c).count ≡ b → look c (listed (up_to n)) ≡ tidy (M c)
      go true q = look_one c (up_to n) (mem_up_to n c h) q ∙ rw q
      go false q = look_off c (up_to n) q ∙ rw q
