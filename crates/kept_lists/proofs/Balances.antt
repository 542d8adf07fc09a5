-- The composite edges of two admitted solids have as many starts as stops, and no vertex has both; so have those of lists that stand for their table.
use mathlib.Core.Path.{◌≡◌, refl, sym, ap, ◌∙◌, subst}
use mathlib.Core.Logic.{◌≢◌}
use mathlib.Core.Bool.{true, cond}
use mathlib.Core.List.Memᴰ
use mathlib.Core.List.{List, map, Memᴰ}
use Prim.Native.Nat.{ℕ, zero, suc, ◌+◌, ◌-◌, ◌*◌, ◌<◌}
use native.Mathlib.Omega.{arith}
use native.Mathlib.Decide.{dec_lt}
use lib.IntN.{ℤ, pos, negsuc}
use Rattle.list_words.specs.Lists.{above, below, nonzero, sum_of}
use Rattle.list_words.proofs.Sums.{sum_ext, sum_map}
use Rattle.solids.specs.Solids.{Solid, facets, edge_of}
use Rattle.solids.proofs.Admitted.{Passed}
use Rattle.solids.proofs.Shut as Of
use Rattle.results.specs.declared.End.{End}
use Rattle.results.specs.declared.Operation.{Operation}
use Rattle.results.specs.Inclusion.{inclusion}
use Rattle.results.specs.Vertices.{keys, number}
use Rattle.results.proofs.Adding.{Adds, inclusion_adds}
use Rattle.layouts.specs.Words.{sizes, halves}
use Rattle.vertex_table.specs.Words as T
use Rattle.vertex_table.specs.Words.{inclusions, numbers, filled}
use Rattle.layouts.proofs.Reading.{half_at, edge_mem}
use Rattle.vertex_table.proofs.Same.{line_A, line_B, pair_A_B}
use Rattle.vertex_table.proofs.Good.{good}
use Rattle.fan_counts.specs.Words.{Composite}
use Rattle.fan_counts.proofs.Results.{mem_of_map, composite_eA, composite_eB, composite_fAfB}
use Rattle.kept_lists.specs.Words as K
use Rattle.kept_lists.specs.Words.{Rows, blank, tidy, Held, Balanced}
use Rattle.kept_lists.proofs.Held.{tidy_line, tidy_pair}

-- ---- tidied ends: an end that counts is as it was
tidy_count : (e : End) → (tidy e).count ≡ e.count
tidy_count e = go e.count
  where
    go : (n : ℤ) → (cond (nonzero n) (record { vertex = e.vertex; count = n }) blank).count ≡ n
    go (pos zero) = refl
    go (pos (suc n)) = refl
    go (negsuc n) = refl

counted : (e : End) → nonzero e.count ≡ true → tidy e ≡ e
counted e q = rw q

some_below : (n : ℤ) → 0 < below n → nonzero n ≡ true
some_below (pos n) h = absurd (omega arith)
some_below (negsuc n) h = refl

some_above : (n : ℤ) → 0 < above n → nonzero n ≡ true
some_above (pos zero) h = absurd (omega arith)
some_above (pos (suc n)) h = refl
some_above (negsuc n) h = absurd (omega arith)

even_same : (es : List End) → sum_of (λ (e : End). e.count) (map tidy es) ≡ sum_of (λ (e : End). e.count) es
even_same es = sum_map (λ (e : End). e.count) tidy es ∙ sum_ext (λ (e : End). (tidy e).count) (λ (e : End). e.count) es tidy_count

tidied : (es : List End) → Composite es → Composite (map tidy es)
tidied es c = record { even = even_same es ∙ c.even; parted = parted }
  where
    parted : (e d : End) → Memᴰ e (map tidy es) → Memᴰ d (map tidy es) → 0 < below e.count → 0 < above d.count → e.vertex ≢ d.vertex
    parted e d m n p q k =
        let (x, i, u) = mem_of_map tidy es m in
        let (y, j, v) = mem_of_map tidy es n in
        let p' : 0 < below x.count = subst (λ (n : ℤ). 0 < below n) (ap (λ (e : End). e.count) u ∙ tidy_count x) p in
        let q' : 0 < above y.count = subst (λ (n : ℤ). 0 < above n) (ap (λ (e : End). e.count) v ∙ tidy_count y) q in
        let ex = u ∙ counted x (some_below x.count p') in
        let ey = v ∙ counted y (some_above y.count q') in
        c.parted x y i j p' q' (ap (λ (e : End). e.vertex) (sym ex) ∙ k ∙ ap (λ (e : End). e.vertex) ey)

untidied : (es : List End) → Composite (map tidy es) → Composite es
untidied es c = record { even = sym (even_same es) ∙ c.even; parted = parted }
  where
    parted : (e d : End) → Memᴰ e es → Memᴰ d es → 0 < below e.count → 0 < above d.count → e.vertex ≢ d.vertex
    parted e d m n p q k =
        c.parted (tidy e) (tidy d) (Memᴰ.map tidy m) (Memᴰ.map tidy n) (subst (λ (n : ℤ). 0 < below n) (sym (tidy_count e)) p) (subst (λ (n : ℤ). 0 < above n) (sym (tidy_count d)) q)
        (ap (λ (e : End). e.vertex) (counted e (some_below e.count p)) ∙ k ∙ sym (ap (λ (e : End). e.vertex) (counted d (some_above d.count q))))

tidy_composite : (es ds : List End) → map tidy es ≡ map tidy ds → Composite ds → Composite es
tidy_composite es ds e c = untidied es (subst Composite (sym e) (tidied ds c))

-- ---- two admitted solids
module _ (op : Operation) (a b : Solid) (passed_a : Passed a) (passed_b : Passed b) where
  adds : Adds (inclusion op a b) a b
  adds = inclusion_adds op a b (record { closed = Of.closed a passed_a; simple = Of.simple a passed_a }) (record { closed = Of.closed b passed_b; simple = Of.simple b passed_b })

  abbrev line : ℕ → List End
  line h = T.line_ends (filled op a b) (T.line_of (halves a b) (sizes a b) h) (T.line_of (halves a b) (sizes a b) h).many

  line_composite : (h : ℕ) → h < 3 * (facets a + facets b) → Composite (line h)
  unfolding inclusions numbers
  line_composite h k =
      let I = inclusion op a b in
      let N = number I (keys a b) in
      elim (dec_lt h (3 * facets a)) [
        | yes l ↦ subst Composite (sym (line_A I N a b passed_a passed_b h l)) (composite_eA I a b adds passed_a passed_b (edge_of (half_at a h)) (edge_mem a passed_a h l))
        | no n ↦
            let m = h - 3 * facets a in
            let l : m < 3 * facets b = omega arith in
            let e : 3 * facets a + m ≡ h = omega arith in
            subst (λ h. Composite (line h)) e (subst Composite (sym (line_B I N a b passed_a passed_b m l)) (composite_eB I a b adds passed_a passed_b (edge_of (half_at b m)) (edge_mem b passed_b m l)))
      ]

  pair_composite : (f g : ℕ) → f < facets a → g < facets b → Composite (T.pair_ends (filled op a b) (halves a b) (sizes a b) f g)
  unfolding inclusions numbers
  pair_composite f g i j =
      let I = inclusion op a b in
      subst Composite (sym (pair_A_B I (number I (keys a b)) a b passed_a passed_b f g i j)) (composite_fAfB I a b adds passed_a passed_b f g i j)

  -- THE LISTS ARE BALANCED, if they stand for the table of two admitted solids
  pub held_balanced : {inc : List ℤ} {num : List ℕ} {w : Rows} → Held (sizes a b) inc num w (filled op a b) → Balanced (halves a b) (sizes a b) inc num w
  held_balanced {inc} {num} {w} held =
      let t = filled op a b in
      let hs = halves a b in
      let z = sizes a b in
      let g = (good op a b passed_a passed_b).halves in
      record {
        line = λ h k. tidy_composite (K.line_ends inc num w hs z h (K.line_many z h)) (line h) (tidy_line hs z inc num w t g held h k) (line_composite h k);
        pair = λ x y i j. tidy_composite (K.pair_ends w hs z x y) (T.pair_ends t hs z x y) (tidy_pair hs z inc num w t g held x y i j) (pair_composite x y i j);
      }
