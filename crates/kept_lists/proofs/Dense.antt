-- The table that the lists stand for: what stands at each slot, and that it is as good as any.
use mathlib.Core.Path.{◌≡◌, sym, ap, ◌∙◌, subst}
use mathlib.Core.Bool.{Bool, true, false, cond}
use mathlib.Core.List.{List, [], ◌∷◌, ◌++◌, map, flat_map, append_assoc}
use Prim.Native.Nat.{ℕ, ◌+◌, ◌*◌, ◌-◌, ◌<◌, ◌≤◌}
use native.Mathlib.Omega.{arith}
use native.Mathlib.Decide.{dec_lt}
use lib.Dec.{eqb}
use lib.IntN.{ℤ, pos, nat_abs}
use lib.ListN.{length, get_or, length-append, length-map, get_or-append, get_or-map, get_or-eq_default}
use Rattle.list_words.specs.Lists.{up_to}
use Rattle.list_words.proofs.Sums.{All, all_of, all_mono, all-++, all_map_of, all_flat_map}
use Rattle.list_words.proofs.UpTo.{length_up_to}
use Rattle.results.specs.declared.End.{End}
use Rattle.layouts.specs.declared.Sizes.{Sizes}
use Rattle.layouts.specs.Words.{column}
use Rattle.layouts.proofs.Packing.{inclusion_small}
use Rattle.vertex_table.specs.Words.{end, on_edge, on_facet, of_B, total, Good}
use Rattle.vertex_table.proofs.Slots.{in_row}
use Rattle.list_words.proofs.Places.{get_or_behind, get_or_blocks, length_blocks, at_up_to, get_or_up_to, all_get_d}
use Rattle.kept_lists.specs.Words as K
use Rattle.kept_lists.specs.Words.{Rows, span, blank, at_place, entry, look, crossing, vertex, ends, dense, Ready}

long_map : {A : Type 0} (f : ℕ → A) (n : ℕ) → length (map f (up_to n)) ≡ n
long_map f n = length-map (up_to n) f ∙ length_up_to n

-- ---- counts of crossings are small
module _ (w : Rows) where
  look_small : (c : ℕ) (ks : List ℕ) → nat_abs (look c (map (entry w) ks)).count ≤ 2
  unfolding look
  look_small c [] = omega arith
  look_small c (k ∷ ks) = go (eqb (column (get_or w.crossed k 0)) c) (look_small c ks)
    where
      go : (b : Bool) → nat_abs (look c (map (entry w) ks)).count ≤ 2 → nat_abs (cond b (at_place w k) (look c (map (entry w) ks))).count ≤ 2
      go true h = inclusion_small (get_or w.crossed k 0)
      go false h = h

  pub crossing_small : (r c : ℕ) → nat_abs (crossing w r c).count ≤ 2
  unfolding crossing K.in_row
  crossing_small r c = look_small c (span (get_or w.first r 0) (get_or w.first (r + 1) 0 - get_or w.first r 0))

module _ (z : Sizes) (inc : List ℤ) (num : List ℕ) (w : Rows) where
  -- the four parts
  abbrev own_A : List End
  own_A = map (vertex inc num) (up_to z.va)

  abbrev block_A : ℕ → List End
  block_A e = map (crossing w e) (up_to z.fb)

  abbrev edges_A : List End
  edges_A = flat_map block_A (up_to z.ea)

  abbrev block_B : ℕ → List End
  block_B f = map (crossing w (z.ea + f)) (up_to z.eb)

  abbrev edges_B : List End
  edges_B = flat_map block_B (up_to z.fa)

  abbrev own_B : List End
  own_B = map (λ i. vertex inc num (z.va + i)) (up_to z.vb)

  long_own_A : length own_A ≡ z.va
  long_own_A = long_map (vertex inc num) z.va

  long_edges_A : length edges_A ≡ z.ea * z.fb
  long_edges_A = length_blocks block_A z.fb (λ e. long_map (crossing w e) z.fb) (up_to z.ea) ∙ ap (λ n. n * z.fb) (length_up_to z.ea)

  long_edges_B : length edges_B ≡ z.fa * z.eb
  long_edges_B = length_blocks block_B z.eb (λ f. long_map (crossing w (z.ea + f)) z.eb) (up_to z.fa) ∙ ap (λ n. n * z.eb) (length_up_to z.fa)

  long_own_B : length own_B ≡ z.vb
  long_own_B = long_map (λ i. vertex inc num (z.va + i)) z.vb

  pub long_ends : length (ends z inc num w) ≡ total z
  unfolding ends
  long_ends =
      omega (
        arith,
        length-append own_A (edges_A ++ (edges_B ++ own_B)),
        length-append edges_A (edges_B ++ own_B),
        length-append edges_B own_B,
        long_own_A,
        long_edges_A,
        long_edges_B,
        long_own_B,
      )

  end_at : (k : ℕ) → end (dense z inc num w) k ≡ get_or (ends z inc num w) k blank
  end_at k =
      let p = get_or-map (λ (e : End). e.vertex) (ends z inc num w) k blank in
      let q = get_or-map (λ (e : End). e.count) (ends z inc num w) k blank in
      λ j. record { vertex = p j; count = q j }

  pub end_vA : (i : ℕ) → i < z.va → end (dense z inc num w) i ≡ vertex inc num i
  unfolding ends
  end_vA i h = end_at i ∙ get_or-append own_A (edges_A ++ (edges_B ++ own_B)) blank i (omega (arith, long_own_A)) ∙ at_up_to (vertex inc num) z.va i blank h

  pub end_eA : (e g : ℕ) → e < z.ea → g < z.fb → end (dense z inc num w) (on_edge z e g) ≡ crossing w e g
  unfolding ends
  end_eA e g h k =
      let i : z.va + e * z.fb + g ≡ z.va + (e * z.fb + g) = omega arith in
      end_at (on_edge z e g) ∙ ap (λ n. get_or (ends z inc num w) n blank) i
      ∙ get_or_behind own_A (edges_A ++ (edges_B ++ own_B)) z.va (e * z.fb + g) blank long_own_A
      ∙ get_or-append edges_A (edges_B ++ own_B) blank (e * z.fb + g) (omega (arith, long_edges_A, in_row e z.ea z.fb h))
      ∙ get_or_blocks block_A z.fb (λ e. long_map (crossing w e) z.fb) (up_to z.ea) e g blank 0 (omega (arith, length_up_to z.ea)) k
      ∙ ap (λ n. get_or (block_A n) g blank) (get_or_up_to z.ea e 0 h)
      ∙ at_up_to (crossing w e) z.fb g blank k

  pub end_fA : (f e : ℕ) → f < z.fa → e < z.eb → end (dense z inc num w) (on_facet z f e) ≡ crossing w (z.ea + f) e
  unfolding ends
  end_fA f e h k =
      let i : z.va + z.ea * z.fb + f * z.eb + e ≡ z.va + (z.ea * z.fb + (f * z.eb + e)) = omega arith in
      end_at (on_facet z f e) ∙ ap (λ n. get_or (ends z inc num w) n blank) i
      ∙ get_or_behind own_A (edges_A ++ (edges_B ++ own_B)) z.va (z.ea * z.fb + (f * z.eb + e)) blank long_own_A
      ∙ get_or_behind edges_A (edges_B ++ own_B) (z.ea * z.fb) (f * z.eb + e) blank long_edges_A
      ∙ get_or-append edges_B own_B blank (f * z.eb + e) (omega (arith, long_edges_B, in_row f z.fa z.eb h))
      ∙ get_or_blocks block_B z.eb (λ f. long_map (crossing w (z.ea + f)) z.eb) (up_to z.fa) f e blank 0 (omega (arith, length_up_to z.fa)) k
      ∙ ap (λ n. get_or (block_B n) e blank) (get_or_up_to z.fa f 0 h)
      ∙ at_up_to (crossing w (z.ea + f)) z.eb e blank k

  pub end_vB : (i : ℕ) → i < z.vb → end (dense z inc num w) (of_B z i) ≡ vertex inc num (z.va + i)
  unfolding ends
  end_vB i h =
      let j : z.va + z.ea * z.fb + z.fa * z.eb + i ≡ z.va + (z.ea * z.fb + (z.fa * z.eb + i)) = omega arith in
      end_at (of_B z i) ∙ ap (λ n. get_or (ends z inc num w) n blank) j
      ∙ get_or_behind own_A (edges_A ++ (edges_B ++ own_B)) z.va (z.ea * z.fb + (z.fa * z.eb + i)) blank long_own_A
      ∙ get_or_behind edges_A (edges_B ++ own_B) (z.ea * z.fb) (z.fa * z.eb + i) blank long_edges_A
      ∙ get_or_behind edges_B own_B (z.fa * z.eb) i blank long_edges_B
      ∙ at_up_to (λ i. vertex inc num (z.va + i)) z.vb i blank h

  -- ---- so all counts are
  -- all crossings
  crossings_small : All (λ (e : End). nat_abs e.count ≤ 2) (edges_A ++ edges_B)
  crossings_small =
      all-++ (λ (e : End). nat_abs e.count ≤ 2) edges_A edges_B
      (all_flat_map (λ (e : End). nat_abs e.count ≤ 2) block_A (up_to z.ea) (all_of _ (up_to z.ea) (λ e m. all_map_of (λ (e : End). nat_abs e.count ≤ 2) (crossing w e) (up_to z.fb) (all_of _ (up_to z.fb) (λ g n. crossing_small w e g)))))
      (all_flat_map (λ (e : End). nat_abs e.count ≤ 2) block_B (up_to z.fa) (all_of _ (up_to z.fa) (λ f m. all_map_of (λ (e : End). nat_abs e.count ≤ 2) (crossing w (z.ea + f)) (up_to z.eb) (all_of _ (up_to z.eb) (λ e n. crossing_small w (z.ea + f) e)))))

  count_at : (k : ℕ) → get_or (dense z inc num w).inc k (pos 0) ≡ (get_or (ends z inc num w) k blank).count
  count_at k = get_or-map (λ (e : End). e.count) (ends z inc num w) k blank

  few_at : (k : ℕ) → z.va ≤ k → k < of_B z 0 → nat_abs (get_or (dense z inc num w).inc k (pos 0)) ≤ 2
  unfolding ends
  few_at k h l =
      let i = k - z.va in
      let q : k ≡ z.va + i = omega arith in
      let long : i < length (edges_A ++ edges_B) = omega (arith, length-append edges_A edges_B, long_edges_A, long_edges_B) in
      let e : get_or (ends z inc num w) k blank ≡ get_or (edges_A ++ edges_B) i blank =
      ap (λ n. get_or (ends z inc num w) n blank) q ∙ get_or_behind own_A (edges_A ++ (edges_B ++ own_B)) z.va i blank long_own_A
      ∙ ap (λ l. get_or l i blank) (sym (append_assoc edges_A edges_B own_B)) ∙ get_or-append (edges_A ++ edges_B) own_B blank i long in
      subst (λ (n : ℤ). nat_abs n ≤ 2) (sym (count_at k ∙ ap (λ (e : End). e.count) e)) (all_get_d (λ (e : End). nat_abs e.count ≤ 2) (edges_A ++ edges_B) i blank crossings_small long)

  module _ (inc_small : (i : ℕ) → nat_abs (get_or inc i (pos 0)) ≤ 257) where
    all_small : All (λ (e : End). nat_abs e.count ≤ 257) (ends z inc num w)
    unfolding ends
    all_small =
        all-++ (λ (e : End). nat_abs e.count ≤ 257) own_A (edges_A ++ (edges_B ++ own_B))
        (all_map_of (λ (e : End). nat_abs e.count ≤ 257) (vertex inc num) (up_to z.va) (all_of _ (up_to z.va) (λ i m. inc_small i)))
        (subst (All (λ (e : End). nat_abs e.count ≤ 257)) (append_assoc edges_A edges_B own_B)
        (all-++ (λ (e : End). nat_abs e.count ≤ 257) (edges_A ++ edges_B) own_B
        (all_mono (λ (e : End). nat_abs e.count ≤ 2) (λ (e : End). nat_abs e.count ≤ 257) (edges_A ++ edges_B) (λ e h. omega arith) crossings_small)
        (all_map_of (λ (e : End). nat_abs e.count ≤ 257) (λ i. vertex inc num (z.va + i)) (up_to z.vb) (all_of _ (up_to z.vb) (λ i m. inc_small (z.va + i))))))

    small_at : (k : ℕ) → nat_abs (get_or (dense z inc num w).inc k (pos 0)) ≤ 257
    small_at k = subst (λ (n : ℤ). nat_abs n ≤ 257) (sym (count_at k)) (elim (dec_lt k (length (ends z inc num w))) [
      | yes h ↦ all_get_d (λ (e : End). nat_abs e.count ≤ 257) (ends z inc num w) k blank all_small h
      | no n ↦ let d : get_or (ends z inc num w) k blank ≡ blank = get_or-eq_default (ends z inc num w) blank (omega arith) in rw d (omega arith)
    ])

  pub good_dense : {hs : List ℕ} → Ready hs z inc num w → Good (dense z inc num w) hs z
  good_dense r =
      record {
        ok = record { same = length-map (ends z inc num w) (λ (e : End). e.vertex) ∙ sym (length-map (ends z inc num w) (λ (e : End). e.count)); small = small_at r.vertices.small };
        halves = r.halves;
        size = length-map (ends z inc num w) (λ (e : End). e.count) ∙ long_ends;
        few = few_at;
      }
