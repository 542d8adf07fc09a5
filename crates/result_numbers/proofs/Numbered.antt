-- The inclusions of both solids' vertices, one behind the other, are those of the table of both, and the numbers of B's vertices begin behind the crossings.
use mathlib.Core.Path.{◌≡◌, refl, sym, ap, ◌∙◌, subst}
use mathlib.Core.List.{List, flat_map}
use Prim.Native.Nat.{ℕ, ◌+◌, ◌-◌, ◌<◌}
use native.Mathlib.Omega.{arith}
use borrow.Author.Tests.{le-ltb}
use lib.IntN.{ℤ, pos}
use lib.ListN.{length, get_or}
use Rattle.list_words.specs.Lists.{up_to, keep}
use Rattle.solids.specs.Solids.{Solid, vertices, facets, edges}
use Rattle.results.specs.declared.Operation.{Operation}
use Rattle.results.specs.Inclusion.{cI, inclusion}
use Rattle.fans.specs.Words.{rank, Follows, Ranked}
use Rattle.layouts.specs.declared.Sizes.{Sizes}
use Rattle.layouts.specs.Words.{sizes}
use Rattle.vertex_table.specs.Words as T
use Rattle.vertex_table.specs.Words.{inclusions, filled}
use Rattle.vertex_table.proofs.Keys.{length_keys, key_vA, key_vB}
use Rattle.vertex_table.proofs.Good.{slot, long_inclusions}
use Rattle.kept_lists.specs.Words as K
use Rattle.kept_lists.specs.Words.{row_of}
use Rattle.kept_lists.proofs.Ranked.{rows_run}
use Rattle.inclusions.specs.Words.{Included}
use Rattle.crossing_rows.specs.Words.{row, rows}
use Rattle.result_numbers.specs.Words.{Numbered}
use Rattle.result_numbers.proofs.Listed.{same_rows}

module _ (op : Operation) (a b : Solid) where
  abbrev t : List ℤ
  t = inclusions op a b

  abbrev total : ℕ
  total = T.total (sizes a b)

  -- where B's vertices begin
  abbrev pub behind_all : ℕ
  behind_all = T.of_B (sizes a b) 0

  pub from_B : (i : ℕ) → behind_all + i ≡ T.of_B (sizes a b) i
  from_B i = omega arith

  -- ---- inclusions
  module _ {inc : List ℤ} (n : Included op a b inc) where
    pub follows_A : Follows t inc 0 0 (vertices a)
    follows_A =
        record {
          room = omega (arith, long_inclusions op a b);
          each = λ i h.
              let z : 0 + i ≡ i = omega arith in
              rw z (n.of_a i h ∙ sym (slot op a b i (omega (arith, length_keys a b)) ∙ ap (inclusion op a b) (key_vA a b i h)));
        }

    pub follows_B : Follows t inc behind_all (vertices a) (vertices b)
    follows_B =
        record {
          room = omega (arith, long_inclusions op a b);
          each = λ i h.
              n.of_b i h ∙ sym (ap (λ j. get_or t j (pos 0)) (from_B i) ∙ slot op a b (T.of_B (sizes a b) i) (omega (arith, length_keys a b)) ∙ ap (inclusion op a b) (key_vB a b i h));
        }

  -- ---- numbers
  -- numbers below `from` stay when B's are put
  pub ranked_still : {old new : List ℕ} {k : ℕ} → ((i : ℕ) → i < vertices a → get_or new i 0 ≡ get_or old i 0) → Ranked t old 0 0 (vertices a) k → Ranked t new 0 0 (vertices a) k
  ranked_still {old} {new} same r = record { next = r.next; each = λ i h. let z : 0 + i ≡ i = omega arith in subst (λ j. get_or new j 0 ≡ rank t (0 + i)) (sym z) (same i h ∙ subst (λ j. get_or old j 0 ≡ rank t (0 + i)) z (r.each i h)) }

  -- B's first number: the kept vertices of A, and all crossings
  pub first_of_B : {n base : ℕ} → n ≡ length (flat_map (row_of (filled op a b) (sizes a b)) (up_to (rows a b))) → base ≡ rank t (vertices a) → base + n ≡ rank t behind_all
  first_of_B {n} {base} size e =
      let ea = length (edges a) in
      let q = le-ltb (ea + facets a) ea (omega arith) in
      let d : (ea + facets a) - ea ≡ facets a = omega arith in
      let p : K.slot (sizes a b) (ea + facets a) 0 ≡ behind_all = rw (q, d) (omega arith) in
      let r = rows_run (sizes a b) t (long_inclusions op a b) (ea + facets a) (omega arith) in
      sym (ap (rank t) (sym p) ∙ r ∙ omega (arith, size, e))

  -- ---- what both loops leave
  first_number : 0 ≡ rank t 0
  unfolding rank keep
  first_number = refl

  pub numbers_of : {z : Sizes} {inc : List ℤ} {num₁ num₂ : List ℕ} {base n : ℕ} (all : ℕ) → z ≡ sizes a b → Included op a b inc → all ≡ length (flat_map (row (cI op) a b) (up_to (rows a b)))
      → ((t : List ℤ) (slot : ℕ) → Follows t inc slot 0 z.va → 0 ≡ rank t slot → Ranked t num₁ slot 0 z.va base)
      → ((t : List ℤ) (slot : ℕ) → Follows t inc slot z.va z.vb → base + all ≡ rank t slot → Ranked t num₂ slot z.va z.vb n)
      → ((i : ℕ) → i < z.va → get_or num₂ i 0 ≡ get_or num₁ i 0) → Numbered op a b num₂ base n
  numbers_of {z} {inc} {num₁} {num₂} {base} {n} all of_z_list i size of_a of_b still =
      let va : z.va ≡ vertices a = ap (λ (z : Sizes). z.va) of_z_list in
      let vb : z.vb ≡ vertices b = ap (λ (z : Sizes). z.vb) of_z_list in
      let start : 0 + vertices a ≡ vertices a = omega arith in
      let r = subst (λ v. Follows t inc 0 0 v → 0 ≡ rank t 0 → Ranked t num₁ 0 0 v base) va (of_a t 0) (follows_A i) first_number in
      let begin = first_of_B (size ∙ ap length (same_rows op a b (rows a b) (omega arith))) (r.next ∙ ap (rank t) start) in
      record {
        of_A = ranked_still (λ j h. still j (omega (arith, va, h))) r;
        of_B = subst (λ v. Follows t inc behind_all v (vertices b) → base + all ≡ rank t behind_all → Ranked t num₂ behind_all v (vertices b) n) va (subst (λ v. Follows t inc behind_all z.va v → base + all ≡ rank t behind_all → Ranked t num₂ behind_all z.va v n) vb (of_b t behind_all)) (follows_B i) begin;
      }
