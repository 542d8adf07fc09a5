-- The table of half-edge counts: one half-edge more, and how much a table of few half-edges holds.
use mathlib.Core.Path.{◌≡◌, refl, sym, ap, ◌∙◌}
use mathlib.Core.Logic.{◌≢◌}
use mathlib.Core.Bool.{Bool, true, false}
use mathlib.Core.List.{List, [], ◌∷◌, ◌++◌, flat_map}
use Prim.Native.Nat.{ℕ, zero, suc, ◌+◌, ◌*◌, ◌<◌, ◌≤◌, ◌/◌, ◌%◌}
use native.Mathlib.Omega.{arith}
use native.Mathlib.Nat.{add-zero}
use native.Mathlib.Numerals.{add-one}
use lib.Dec.{eqb, eqb→eq, eqb_refl}
use lib.ListN.{length, get_or, set, length-set, length-append, replicate, length-replicate, get_or-replicate}
use lib.Seq.{get_or-set_same, get_or-set_other}
use Rattle.list_words.specs.Lists.{times, one_if, up_to}
use Rattle.list_words.proofs.Tests.{T_of, of_T, never}
use Rattle.list_words.proofs.Closed.{times_append, same_half_sound, same_half_self}
use Rattle.list_words.proofs.UpTo.{flat_up_to_suc}
use Rattle.solids.specs.Solids.{Half, solid, same_half, number_of, facet_half_edges}
use Rattle.solids.specs.Words.{place, Tallied, Low, counted}

-- ---- a table of zeros, and one half-edge more
pub tallied_none : Tallied (replicate 16384 0) []
unfolding times
tallied_none = record { size = length-replicate {A = ℕ} 16384 0; at = λ h a b. get_or-replicate {A = ℕ} 16384 (place h) 0 0 (omega arith) }

pub place_apart : (h k : Half) → h.1 < 128 → k.1 < 128 → same_half k h ≡ false → place k ≢ place h
place_apart h k a b e q = never (same_half k h) (of_T (same_half k h) (rw (both) (same_half_self eqb eqb→eq eqb_refl h))) e
  where
    both : k ≡ h
    both = λ j. ((let p : k.0 ≡ h.0 = omega arith in p) j, (let p : k.1 ≡ h.1 = omega arith in p) j)

added : (k h : Half) (hs : List Half) → number_of k (hs ++ (h ∷ [])) ≡ number_of k hs + one_if (same_half k h)
unfolding times
added k h hs = times_append same_half k hs (h ∷ []) ∙ ap (λ n. number_of k hs + n) (add-zero (one_if (same_half k h)))

pub tallied_next : (table : List ℕ) (hs : List Half) (h : Half) → h.0 < 128 → h.1 < 128 → Tallied table hs → Tallied (set table (place h) (get_or table (place h) 0 + 1)) (hs ++ (h ∷ []))
tallied_next table hs h a b t =
    record {
      size = length-set table (place h) (get_or table (place h) 0 + 1) ∙ t.size;
      at = λ k i j. go k i j (same_half k h) refl;
    }
  where
    go : (k : Half) → k.0 < 128 → k.1 < 128 → (s : Bool) → same_half k h ≡ s → get_or (set table (place h) (get_or table (place h) 0 + 1)) (place k) 0 ≡ number_of k (hs ++ (h ∷ []))
    go k i j true e =
        let q : k ≡ h = same_half_sound eqb eqb→eq eqb_refl k h (T_of (same_half k h) e) in
        ap (λ (z : Half). get_or (set table (place h) (get_or table (place h) 0 + 1)) (place z) 0) q
        ∙ get_or-set_same table (place h) (get_or table (place h) 0 + 1) 0 (let s = t.size in omega arith)
        ∙ ap (λ n. n + 1) (t.at h a b ∙ ap (λ (z : Half). number_of z hs) (sym q))
        ∙ sym (added k h hs ∙ ap (λ s. number_of k hs + one_if s) e)
    go k i j false e =
        get_or-set_other table (place h) (place k) (get_or table (place h) 0 + 1) 0 (place_apart h k b j e)
        ∙ t.at k i j
        ∙ sym (added k h hs ∙ ap (λ s. number_of k hs + one_if s) e ∙ add-zero (number_of k hs))

-- ---- no more of one kind than there are half-edges
times_le : (h : Half) (hs : List Half) → number_of h hs ≤ length hs
unfolding times
times_le h [] = omega arith
times_le h (k ∷ hs) = go (same_half h k) (times_le h hs)
  where
    go : (s : Bool) → number_of h hs ≤ length hs → one_if s + number_of h hs ≤ suc (length hs)
    go true i = omega arith
    go false i = omega arith

pub tallied_few : (table : List ℕ) (hs : List Half) (i : ℕ) → i < 16384 → Tallied table hs → get_or table i 0 ≤ length hs
tallied_few table hs i l t =
    let h : Half = (i / 128, i % 128) in
    let e : i ≡ place h = omega arith in
    rw (e, t.at h (omega arith) (omega arith)) (times_le h hs)

-- ---- facet by facet
pub counted_next : (corners : List ℕ) (f : ℕ) → counted corners (f + 1) ≡ counted corners f ++ facet_half_edges (solid [] corners) f
unfolding counted
counted_next corners f = ap (λ n. counted corners n) (add-one f) ∙ flat_up_to_suc (facet_half_edges (solid [] corners)) f

pub counted_length : (corners : List ℕ) (f : ℕ) → length (counted corners f) ≡ 3 * f
unfolding counted up_to flat_map
counted_length corners zero = omega arith
counted_length corners (suc f) =
    ap length (flat_up_to_suc (facet_half_edges (solid [] corners)) f) ∙ length-append (counted corners f) (facet_half_edges (solid [] corners) f)
    ∙ (let e = counted_length corners f in omega arith)

-- ---- a facet's corners find their rows, at the places where the code reads them
pub low_at : (corners : List ℕ) (f k : ℕ) → Low corners → f < length corners / 3 → k < 3 → get_or corners (3 * f + k) 0 < 128
low_at corners f k low h d = low (3 * f + k) (omega arith)

pub low_first : (corners : List ℕ) (f : ℕ) → Low corners → f < length corners / 3 → get_or corners (3 * f) 0 < 128
low_first corners f low h = low (3 * f) (omega arith)
