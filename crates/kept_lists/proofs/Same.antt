-- Pieces from the lists are those from the table that the lists stand for.
use mathlib.Core.Path.{◌≡◌, sym, ap, ◌∙◌}
use mathlib.Core.Bool.{not}
use mathlib.Core.List.{List, [], ◌∷◌, map}
use Prim.Native.Nat.{ℕ, ◌+◌, ◌*◌, ◌-◌, ◌<◌, ◌≤◌}
use native.Mathlib.Nat.{mul-one, zero-mul}
use native.Mathlib.Omega.{arith}
use native.Mathlib.Decide.{dec_lt}
use borrow.Author.Tests.{lt-ltb, le-ltb}
use lib.IntN.{ℤ}
use lib.ListN.{get_or}
use Rattle.list_words.specs.Lists.{up_to, turned}
use Rattle.list_words.proofs.UpTo.{map_up_to, flat_up_to}
use Rattle.results.specs.declared.End.{End}
use Rattle.results.specs.Pieces.{pieces}
use Rattle.layouts.specs.declared.Sizes.{Sizes}
use Rattle.layouts.specs.Words.{edge_at, against}
use Rattle.vertex_table.specs.Words as T
use Rattle.kept_lists.specs.Words as K
use Rattle.kept_lists.specs.Words.{Rows, dense}
use Rattle.kept_lists.proofs.Dense.{end_vA, end_eA, end_fA, end_vB}

module _ (hs : List ℕ) (z : Sizes) (inc : List ℤ) (num : List ℕ) (w : Rows) (halves : T.Halves hs z) where
  abbrev t : T.Table
  t = dense z inc num w

  -- ---- a half-edge
  along_A : (h : ℕ) → h < 3 * z.fa
      → map (K.line_end w hs z h) (up_to z.fb) ≡ map (λ i. T.end t (T.on_edge z (edge_at hs h) 0 + i * 1)) (up_to z.fb)
  along_A h k =
      let e = edge_at hs h in
      map_up_to z.fb (K.line_end w hs z h) (λ i. T.end t (T.on_edge z e 0 + i * 1))
      (λ i l. let q : T.on_edge z e i ≡ T.on_edge z e 0 + i * 1 = omega (arith, mul-one i) in rw (lt-ltb _ _ k) (sym (end_eA z inc num w e i (halves.edge_A h k) l) ∙ ap (T.end t) q))

  along_B : (h : ℕ) → 3 * z.fa ≤ h → h < 3 * (z.fa + z.fb)
      → map (K.line_end w hs z h) (up_to z.fa) ≡ map (λ i. T.end t (T.on_facet z 0 (edge_at hs h) + i * z.eb)) (up_to z.fa)
  along_B h k m =
      let e = edge_at hs h in
      map_up_to z.fa (K.line_end w hs z h) (λ i. T.end t (T.on_facet z 0 e + i * z.eb))
      (λ i l. let q : T.on_facet z i e ≡ T.on_facet z 0 e + i * z.eb = omega (arith, zero-mul z.eb) in rw (le-ltb _ _ k) (sym (end_fA z inc num w i e l (halves.edge_B h k m)) ∙ ap (T.end t) q))

  pub same_half : (h : ℕ) → h < 3 * (z.fa + z.fb) → K.half inc num w hs z h ≡ T.half t hs z h
  unfolding K.half K.line_ends T.half T.line_pieces T.line_ends T.line_of
  same_half h m = elim (dec_lt h (3 * z.fa)) [
    | yes k ↦
        rw (lt-ltb _ _ k) (ap (λ es. T.turn (against hs h) (pieces es))
        (three (sym (end_vA z inc num w (get_or hs (3 * h + 1) 0) (halves.start_A h k))) (sym (end_vA z inc num w (get_or hs (3 * h + 2) 0) (halves.end_A h k))) (along_A h k)))
    | no n ↦
        let k : 3 * z.fa ≤ h = omega arith in
        rw (le-ltb _ _ k) (ap (λ es. T.turn (against hs h) (pieces es))
        (three (sym (end_vB z inc num w (get_or hs (3 * h + 1) 0) (halves.start_B h k m))) (sym (end_vB z inc num w (get_or hs (3 * h + 2) 0) (halves.end_B h k m))) (along_B h k m)))
  ]
    where
      three : {a b c d : End} {es ds : List End} → a ≡ b → c ≡ d → es ≡ ds → T.off a ∷ c ∷ es ≡ T.off b ∷ d ∷ ds
      three p q r = λ j. T.off (p j) ∷ q j ∷ r j

  -- ---- two facets
  same_a : (g h : ℕ) → g < z.fb → h < 3 * z.fa → K.a_end w hs g h ≡ T.a_end t hs z g h
  same_a g h l k = ap (T.flip (not (against hs h))) (sym (end_eA z inc num w (edge_at hs h) g (halves.edge_A h k) l))

  same_b : (f h : ℕ) → f < z.fa → 3 * z.fa ≤ h → h < 3 * (z.fa + z.fb) → K.b_end w hs z f h ≡ T.b_end t hs z f h
  same_b f h l k m = ap (T.flip (against hs h)) (sym (end_fA z inc num w f (edge_at hs h) l (halves.edge_B h k m)))

  same_ends : (f g : ℕ) → f < z.fa → g < z.fb → K.pair_ends w hs z f g ≡ T.pair_ends t hs z f g
  unfolding K.pair_ends T.pair_ends
  same_ends f g k l =
      let m = z.fa + g in
      let a0 = same_a g (3 * f) l (omega arith) in
      let a1 = same_a g (3 * f + 1) l (omega arith) in
      let a2 = same_a g (3 * f + 2) l (omega arith) in
      let b0 = same_b f (3 * m) k (omega arith) (omega arith) in
      let b1 = same_b f (3 * m + 1) k (omega arith) (omega arith) in
      let b2 = same_b f (3 * m + 2) k (omega arith) (omega arith) in
      λ j. a0 j ∷ a1 j ∷ a2 j ∷ b0 j ∷ b1 j ∷ b2 j ∷ []

  pub same_pair : (x i : ℕ) → x < z.fa + z.fb → i < T.others z x → K.pair w hs z x i ≡ T.pair t hs z x i
  unfolding K.pair T.pair
  same_pair x i k l = elim (dec_lt x z.fa) [
    | yes h ↦ rw (lt-ltb _ _ h) (ap pieces (same_ends x i h (rw (lt-ltb _ _ h) at l)))
    | no n ↦ let h : z.fa ≤ x = omega arith in rw (le-ltb _ _ h) (ap (λ es. map turned (pieces es)) (same_ends i (x - z.fa) (rw (le-ltb _ _ h) at l) (omega arith)))
  ]

  pub same_row : (x : ℕ) → x < z.fa + z.fb → K.row w hs z x ≡ T.row t hs z x
  unfolding K.row T.row
  same_row x k = flat_up_to (T.others z x) (K.pair w hs z x) (T.pair t hs z x) (λ i l. same_pair x i k l)
