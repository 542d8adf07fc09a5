-- The points of the vertices that are kept, stored one behind the other.
use mathlib.Core.Path.{◌≡◌, refl, sym, ap, ◌∙◌}
use mathlib.Core.Bool.{true, false, not, cond}
use mathlib.Core.List.{List, []}
use Prim.Native.Nat.{ℕ, ◌+◌, ◌<◌, ◌≤◌}
use native.Mathlib.Nat.{add-zero}
use native.Mathlib.Omega.{arith}
use borrow.Author.Tests.{eq-eqb, ne_eqb}
use mir.Syntax.{w16}
use mir.Val.{SFits, of_z}
use lib.Ieee.{Float}
use lib.IntN.{ℤ, pos}
use lib.ListN.{length, get_or}
use lib.Seq.{sets}
use Rattle.list_words.specs.Lists.{nonzero}
use Rattle.list_words.proofs.Widths.{nonzero_test}
use Rattle.points.specs.declared.Point.{Point}
use Rattle.points.specs.Points.{coordinates}
use Rattle.solids.specs.Solids.{Solid, vertices, vertex}
use Rattle.result_points.specs.Words.{of_vertices}
use Rattle.list_stores.proofs.Runs.{Run, run_none, run_long, run_room, run_next, run_all}

-- ---- the code's test for not 0
module _ (x : ℤ) (f : SFits w16 x) where
  pub is_kept : (of_z w16 x ≡ 0 → ⊥) → nonzero x ≡ true
  is_kept n = sym (nonzero_test w16 refl x f) ∙ ap not (ne_eqb (of_z w16 x) 0 n)

  pub is_left : of_z w16 x ≡ 0 → nonzero x ≡ false
  is_left e = sym (nonzero_test w16 refl x f) ∙ ap not (eq-eqb (of_z w16 x) 0 e)

-- ---- vertex by vertex
module _ (s : Solid) (inc : List ℤ) (from : ℕ) where
  abbrev one : ℕ → List Float
  one i = cond (nonzero (get_or inc (from + i) (pos 0))) (coordinates (vertex s i)) []

  -- the kept ones of the first i
  pub record Kept (old new : List Float) (start at i : ℕ) : Type 0 where
    pub within : i ≤ vertices s
    pub run : Run one old new start at i

  pub kept_none : (old : List Float) (start : ℕ) → Kept old old start start 0
  kept_none old start = record { within = omega arith; run = run_none one old start }

module _ {s : Solid} {inc : List ℤ} {from : ℕ} {old new : List Float} {start at i : ℕ} (k : Kept s inc from old new start at i) where
  pub kept_long : length new ≡ length old
  kept_long = run_long k.run

  module _ (h : i < vertices s) where
    pub kept_room : nonzero (get_or inc (from + i) (pos 0)) ≡ true → start + length (of_vertices s inc from) ≤ length old → at + 3 ≤ length new
    unfolding of_vertices
    kept_room y room = rw y at (run_room k.run h room)

    pub kept_yes : {v : Point} {last : List Float} → nonzero (get_or inc (from + i) (pos 0)) ≡ true → v ≡ vertex s i → last ≡ sets new at (coordinates v)
        → Kept s inc from old last start (at + 3) (i + 1)
    kept_yes y e p = record { within = omega arith; run = run_next k.run (rw y (p ∙ rw e)) (rw y) }

    pub kept_no : nonzero (get_or inc (from + i) (pos 0)) ≡ false → Kept s inc from old new start at (i + 1)
    kept_no n = record { within = omega arith; run = run_next k.run (rw n) (rw n (sym (add-zero at))) }

  pub kept_all : vertices s ≤ i → (new ≡ sets old start (of_vertices s inc from)) × (at ≡ start + length (of_vertices s inc from))
  unfolding of_vertices
  kept_all h = let w = k.within in run_all k.run (omega arith)
