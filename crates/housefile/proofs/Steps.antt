-- The layout of a file, record by record. The bound on how many records are looked at is never met, so it is gone from these laws.
use mathlib.Core.Path.{◌≡◌, refl, sym, ap, ◌∙◌}
use mathlib.Core.Bool.{Bool, true, false}
use mathlib.Core.List.{List, [], ◌∷◌, ◌++◌, append_assoc}
use Prim.Native.Nat.{ℕ, zero, suc, ◌+◌, ◌≤◌}
use native.Mathlib.Nat.{zero-add, add_assoc}
use native.Mathlib.Omega.{arith}
use lib.ListN.{length, drop, length-drop}
use lib.Ieee.{Float}
use Rattle.std.specs.Prelude.{Option, Some, None}
use Rattle.points.specs.declared.Point.{Point}
use Rattle.points.specs.Points.{coordinates}
use Rattle.housefile.specs.declared.Record.{Record}
use Rattle.housefile.specs.declared.Record.TheVariants.{Vx, Fc, En}
use Rattle.housefile.specs.Records.{decoded}
use Rattle.housefile.specs.Reader.{Layout, fault, laid, after, records}
use Rattle.housefile.proofs.Records.{size_within}

-- the layout of the bytes from some record on; `layout` is this from the first record on
abbrev pub layout_from : Bool → List ℕ → Layout
layout_from facets_begun bs = records (length bs) facets_begun (decoded bs) bs

-- ---- any bound that is no less than the number of bytes serves
shorter : (n k : ℕ) (bs : List ℕ) → suc k ≤ length bs → length bs ≤ suc n → length (drop (suc k) bs) ≤ n
shorter n k bs h l = rw length-drop (omega arith)

no_bytes : (n : ℕ) (b : Bool) (bs : List ℕ) (r : Option Record) → decoded bs ≡ r → length bs ≤ 0 → records n b r bs ≡ fault
unfolding records
no_bytes zero b bs r e h = refl
no_bytes (suc n) b bs (Some (Vx v)) e h = absurd (omega (arith, size_within bs (Vx v) e))
no_bytes (suc n) b bs (Some (Fc p q r)) e h = absurd (omega (arith, size_within bs (Fc p q r) e))
no_bytes (suc n) b bs (Some En) e h = absurd (omega (arith, size_within bs En e))
no_bytes (suc n) b bs None e h = refl

-- "All VX come before all FC"
late : (n : ℕ) (bs : List ℕ) (v : Point) → records n true (Some (Vx v)) bs ≡ fault
unfolding records
late zero bs v = refl
late (suc n) bs v = refl

pub any_bound : (n m : ℕ) (b : Bool) (bs : List ℕ) (r : Option Record) → decoded bs ≡ r → length bs ≤ n → length bs ≤ m → records n b r bs ≡ records m b r bs
unfolding records
any_bound zero m b bs r e h l = sym (no_bytes m b bs r e h)
any_bound (suc n) zero b bs r e h l = no_bytes (suc n) b bs r e l
any_bound (suc n) (suc m) b bs (Some En) e h l = refl
any_bound (suc n) (suc m) b bs None e h l = refl
any_bound (suc n) (suc m) true bs (Some (Vx v)) e h l = late (suc n) bs v ∙ sym (late (suc m) bs v)
any_bound (suc n) (suc m) false bs (Some (Vx v)) e h l =
    let s = size_within bs (Vx v) e in
    ap (after 26 (coordinates v) []) (any_bound n m false (drop 26 bs) (decoded (drop 26 bs)) refl (shorter n 25 bs s h) (shorter m 25 bs s l))
any_bound (suc n) (suc m) b bs (Some (Fc p q r)) e h l =
    let s = size_within bs (Fc p q r) e in
    ap (after 14 [] (p ∷ q ∷ r ∷ [])) (any_bound n m true (drop 14 bs) (decoded (drop 14 bs)) refl (shorter n 13 bs s h) (shorter m 13 bs s l))

-- ---- the layout by the record that the bytes begin with
module _ (bs : List ℕ) where
  once : (b : Bool) (r : Option Record) → decoded bs ≡ r → layout_from b bs ≡ records (suc (length bs)) b r bs
  once b r e = ap (λ r. records (length bs) b r bs) e ∙ any_bound (length bs) (suc (length bs)) b bs r e (omega arith) (omega arith)

  behind : (b : Bool) (k : ℕ) → records (length bs) b (decoded (drop k bs)) (drop k bs) ≡ layout_from b (drop k bs)
  behind b k = any_bound (length bs) (length (drop k bs)) b (drop k bs) (decoded (drop k bs)) refl (rw length-drop (omega arith)) (omega arith)

  pub at_end : (b : Bool) → decoded bs ≡ Some En → layout_from b bs ≡ laid 2 [] []
  unfolding records
  at_end b e = once b (Some En) e

  pub at_fault : (b : Bool) → decoded bs ≡ None → layout_from b bs ≡ fault
  unfolding records
  at_fault b e = once b None e

  pub late_vertex : (v : Point) → decoded bs ≡ Some (Vx v) → layout_from true bs ≡ fault
  late_vertex v e = ap (λ r. records (length bs) true r bs) e ∙ late (length bs) bs v

  pub at_vertex : (v : Point) → decoded bs ≡ Some (Vx v) → layout_from false bs ≡ after 26 (coordinates v) [] (layout_from false (drop 26 bs))
  unfolding records
  at_vertex v e = once false (Some (Vx v)) e ∙ ap (after 26 (coordinates v) []) (behind false 26)

  pub at_facet : (b : Bool) (p q r : ℕ) → decoded bs ≡ Some (Fc p q r) → layout_from b bs ≡ after 14 [] (p ∷ q ∷ r ∷ []) (layout_from true (drop 14 bs))
  unfolding records
  at_facet b p q r e = once b (Some (Fc p q r)) e ∙ ap (after 14 [] (p ∷ q ∷ r ∷ [])) (behind true 14)

-- ---- records that were walked over, with the layout of what is left
pub after_none : (l : Layout) → after 0 [] [] l ≡ l
after_none fault = refl
after_none (laid u xs cs) = ap (λ n. laid n xs cs) (zero-add u)

pub after_after : (m n : ℕ) (xs ys : List Float) (cs ds : List ℕ) (l : Layout)
    → after m xs cs (after n ys ds l) ≡ after (m + n) (xs ++ ys) (cs ++ ds) l
after_after m n xs ys cs ds fault = refl
after_after m n xs ys cs ds (laid u zs es) =
    sym (λ i. laid (add_assoc m n u i) (append_assoc xs ys zs i) (append_assoc cs ds es i))
