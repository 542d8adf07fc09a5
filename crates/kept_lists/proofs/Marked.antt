-- Marks that the fillers made are marks that the walk can go by.
use mathlib.Core.Path.{◌≡◌, refl, sym, ap, ◌∙◌}
use mathlib.Core.Logic.{◌⊎◌, inl, inr}
use mathlib.Core.Bool.{Bool, true, false, not}
use mathlib.Core.List.{List, [], ◌∷◌, map}
use Prim.Native.Nat.{ℕ, zero, suc, ◌+◌, ◌-◌, ◌*◌, ◌<◌, ◌≤◌}
use native.Mathlib.Omega.{arith}
use native.Mathlib.Decide.{dec_lt}
use borrow.Author.Tests.{ne_eqb, lt-ltb, le-ltb}
use lib.ListN.{length, get_or}
use Rattle.list_words.specs.Lists.{any}
use Rattle.list_words.proofs.Tests.{never}
use Rattle.layouts.specs.declared.Sizes.{Sizes}
use Rattle.layouts.specs.Words.{column, against}
use Rattle.vertex_table.specs.Words.{flip, others, some_count, Halves}
use Rattle.marks.specs.Words.{marked}
use Rattle.kept_lists.specs.Words.{Rows, span, blank, entry, in_row, look, crossing, a_end, b_end, pair_ends, side_ends, line_end, line_row, mark_at, facet_row, mirror, More, Listed, Spread, Edges, Pairs}
use Rattle.kept_lists.proofs.Rows.{flip_blank}
use Rattle.kept_lists.proofs.Gathered.{quiet_line}
use Rattle.kept_lists.proofs.Marking.{many_others, not_before}

-- ---- by edge
look_none : (w : Rows) (c m a : ℕ) → ((k : ℕ) → a ≤ k → k < a + m → column (get_or w.crossed k 0) ≡ c → ⊥) → look c (map (entry w) (span a m)) ≡ blank
unfolding look span
look_none w c zero a n = refl
look_none w c (suc m) a n = rw (ne_eqb _ _ (n a (omega arith) (omega arith))) (look_none w c m (suc a) (λ k h l. n k (omega arith) (omega arith)))

row_none : (w : Rows) (r c : ℕ) → ((k : ℕ) → get_or w.first r 0 ≤ k → k < get_or w.first (r + 1) 0 → column (get_or w.crossed k 0) ≡ c → ⊥) → crossing w r c ≡ blank
unfolding crossing in_row
row_none w r c n = look_none w c (get_or w.first (r + 1) 0 - get_or w.first r 0) (get_or w.first r 0) (λ k a b. n k a (omega arith))

pub edges_of : {z : Sizes} {w : Rows} {l : List ℕ} → 4 * (z.ea + z.eb) ≤ length l → length l ≤ 65536
    → ((r : ℕ) → r < z.ea + z.fa → Listed z w.first w.crossed l r (get_or w.first (r + 1) 0)) → Edges z w l
edges_of {z} {w} {l} long few f =
    record {
      long = long;
      few = few;
      quiet = λ r c h q. row_none w r c (λ k a b e. never (marked l (mark_at z r c)) (ap (λ d. marked l (mark_at z r d)) (sym e) ∙ (f r h).each k a b) q);
    }

-- more marks do no harm
pub edges_more : {z : Sizes} {w : Rows} {l l' : List ℕ} → Edges z w l → More l l' → length l' ≡ length l → Edges z w l'
edges_more {z} {w} {l} {l'} f m e =
    record {
      long = rw e f.long;
      few = rw e f.few;
      quiet = λ r c h q. f.quiet r c h (not_before m (mark_at z r c) q);
    }

-- ---- by facet
module _ {hs : List ℕ} {z : Sizes} {w : Rows} {e l : List ℕ} (halves : Halves hs z) (edges : Edges z w e)
    (spread : (x h : ℕ) → x < z.fa + z.fb → 3 * x ≤ h → h < 3 * x + 3 → Spread z hs e l x h (others z x)) where
  -- a half-edge of facet x does not cross facet i, if that is not marked, one way or the other
  quiet_half : (x h i : ℕ) → x < z.fa + z.fb → 3 * x ≤ h → h < 3 * x + 3 → i < others z x → (marked l (256 * facet_row z x + i) ≡ false) ⊎ (marked l (mirror z x i) ≡ false) → line_end w hs z h i ≡ blank
  quiet_half x h i hx a b k q = go (marked e (256 * line_row hs z h + i)) refl
    where
      go : (t : Bool) → marked e (256 * line_row hs z h + i) ≡ t → line_end w hs z h i ≡ blank
      go false s = quiet_line [] [] w hs z h halves edges (omega arith) i (rw (many_others z x h a b) k) s
      go true s = let r = (spread x h hx a b).each i k s in elim q [
        | inl p ↦ absurd (never (marked l (256 * facet_row z x + i)) r.0 p)
        | inr p ↦ absurd (never (marked l (mirror z x i)) r.1 p)
      ]

  -- the six ends of facets f and g
  quiet_a : (f g h : ℕ) → f < z.fa → g < z.fb → 3 * f ≤ h → h < 3 * f + 3 → (marked l (256 * facet_row z f + g) ≡ false) ⊎ (marked l (256 * facet_row z (z.fa + g) + f) ≡ false) → a_end w hs g h ≡ blank
  quiet_a f g h k j a b q =
      let t = lt-ltb f z.fa k in
      let u : h < 3 * z.fa = omega arith in
      let r = quiet_half f h g (omega arith) a b (rw t j) (rw t q) in
      ap (flip (not (against hs h))) (rw (lt-ltb _ _ u) at r) ∙ flip_blank (not (against hs h))

  quiet_b : (f g h : ℕ) → f < z.fa → g < z.fb → 3 * (z.fa + g) ≤ h → h < 3 * (z.fa + g) + 3 → (marked l (256 * facet_row z (z.fa + g) + f) ≡ false) ⊎ (marked l (256 * facet_row z f + g) ≡ false) → b_end w hs z f h ≡ blank
  quiet_b f g h k j a b q =
      let t = le-ltb (z.fa + g) z.fa (omega arith) in
      let u : 3 * z.fa ≤ h = omega arith in
      let d : (z.fa + g) - z.fa ≡ g = omega arith in
      let r = quiet_half (z.fa + g) h f (omega arith) a b (rw t k) (rw (t, d) q) in
      ap (flip (against hs h)) (rw (le-ltb _ _ u) at r) ∙ flip_blank (against hs h)

  quiet_pair : (f g : ℕ) → f < z.fa → g < z.fb → (marked l (256 * facet_row z f + g) ≡ false) ⊎ (marked l (256 * facet_row z (z.fa + g) + f) ≡ false) → some_count (pair_ends w hs z f g) ≡ false
  unfolding pair_ends any
  quiet_pair f g k j q =
      let m = z.fa + g in
      let s : (marked l (256 * facet_row z (z.fa + g) + f) ≡ false) ⊎ (marked l (256 * facet_row z f + g) ≡ false) = elim q [ inl p ↦ inr p | inr p ↦ inl p ] in
      let six : pair_ends w hs z f g ≡ blank ∷ blank ∷ blank ∷ blank ∷ blank ∷ blank ∷ [] =
      λ i. quiet_a f g (3 * f) k j (omega arith) (omega arith) q i ∷ quiet_a f g (3 * f + 1) k j (omega arith) (omega arith) q i ∷ quiet_a f g (3 * f + 2) k j (omega arith) (omega arith) q i
      ∷ quiet_b f g (3 * m) k j (omega arith) (omega arith) s i ∷ quiet_b f g (3 * m + 1) k j (omega arith) (omega arith) s i ∷ quiet_b f g (3 * m + 2) k j (omega arith) (omega arith) s i ∷ [] in
      ap some_count six

  quiet_facets : (x i : ℕ) → x < z.fa + z.fb → i < others z x → marked l (256 * facet_row z x + i) ≡ false → some_count (side_ends w hs z x i) ≡ false
  quiet_facets x i hx k q = elim (dec_lt x z.fa) [
    | yes h ↦ let t = lt-ltb _ _ h in rw t (quiet_pair x i h (rw t at k) (inl q))
    | no n ↦
        let h : z.fa ≤ x = omega arith in
        let t = le-ltb _ _ h in
        let d : z.fa + (x - z.fa) ≡ x = omega arith in
        rw t (quiet_pair i (x - z.fa) (rw t at k) (omega arith) (inr (rw d q)))
  ]

  pub pairs_of : 4 * (z.ea + z.eb + z.fa + z.fb) ≤ length l → length l ≤ 65536 → Pairs w hs z l
  pairs_of long few = record { long = long; few = few; quiet = quiet_facets }
