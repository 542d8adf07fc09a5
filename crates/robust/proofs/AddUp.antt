-- For each edge of A, the ends kept by difference and those kept by intersection are the edge's own: the inclusions of difference and intersection add
-- up to 1 at a vertex of A and to 0 at a crossing.
use mathlib.Core.Path.{◌≡◌, refl, sym, ap, ◌∙◌}
use mathlib.Core.List.{List, [], ◌∷◌, map}
use Prim.Native.Nat.{ℕ}
use native.Mathlib.Omega.{arith}
use lib.IntN.{ℤ, pos, negsuc, one, neg_ℤ, ◌+ℤ◌, ◌*ℤ◌, *ℤ_comm, *ℤ-one, neg_ℤ-+ℤ}
use Rattle.list_words.specs.Lists.{up_to}
use Rattle.list_words.proofs.Integers.{split, mk_eq, lin, neg_mul}
use Rattle.crossings.specs.Crossings.{count}
use Rattle.solids.specs.Solids.{Solid, Half, vertex, facets}
use Rattle.solids.specs.Containment.{in_B}
use Rattle.results.specs.declared.Operation.TheVariants.{Intersection, Difference}
use Rattle.results.specs.Inclusion.{vA, eAfB, edge_facet, inclusion}
use Rattle.results.specs.Pieces.{plain, ends_of_eA}
use Rattle.robust.specs.Robust.{AddUp, own}

once : (x : ℤ) → pos 1 *ℤ x ≡ x
unfolding one
once x = *ℤ_comm (pos 1) x ∙ *ℤ-one x

less_once : (x : ℤ) → negsuc 0 *ℤ x ≡ neg_ℤ x
less_once x = neg_mul (pos 1) x ∙ ap neg_ℤ (once x)

module _ (a b : Solid) where
  at_vertex : (i : ℕ) → inclusion Difference a b (vA i) +ℤ inclusion Intersection a b (vA i) ≡ pos 1
  unfolding inclusion
  at_vertex i = rw (less_once (in_B (vertex a i) b), once (in_B (vertex a i) b)) (law (in_B (vertex a i) b))
    where
      law : (x : ℤ) → (pos 1 +ℤ neg_ℤ x) +ℤ (pos 0 +ℤ x) ≡ pos 1
      law x = rw (split x) (simp lin (mk_eq _ _ _ _ (omega arith)))

  at_crossing : (e : Half) (f : ℕ) → inclusion Difference a b (eAfB e f) +ℤ inclusion Intersection a b (eAfB e f) ≡ pos 0
  unfolding inclusion
  at_crossing e f = rw (less_once (count (edge_facet a b e f)), once (count (edge_facet a b e f))) (law (count (edge_facet a b e f)))
    where
      law : (x : ℤ) → neg_ℤ x +ℤ x ≡ pos 0
      law x = rw (split x) (simp lin (mk_eq _ _ _ _ (omega arith)))

  crossings : (e : Half) (fs : List ℕ) → AddUp (map (plain (inclusion Difference a b)) (map (eAfB e) fs)) (map (plain (inclusion Intersection a b)) (map (eAfB e) fs)) (map (plain own) (map (eAfB e) fs))
  crossings e [] = tt
  crossings e (f ∷ fs) = (refl, refl, at_crossing e f, crossings e fs)

  pub ends_add_up : (e : Half) → AddUp (ends_of_eA (inclusion Difference a b) b e) (ends_of_eA (inclusion Intersection a b) b e) (ends_of_eA own b e)
  unfolding ends_of_eA
  ends_add_up e = (
    refl,
    refl,
    sym (neg_ℤ-+ℤ (inclusion Difference a b (vA e.0)) (inclusion Intersection a b (vA e.0))) ∙ ap neg_ℤ (at_vertex e.0),
    (refl, refl, at_vertex e.1, crossings e (up_to (facets b))),
  )
