-- The three parts of the points, each stored behind the one before it, where there is room for all.
use mathlib.Core.Path.{◌≡◌, sym, ap, ◌∙◌}
use mathlib.Core.List.{List, ◌++◌}
use Prim.Native.Nat.{ℕ, ◌+◌, ◌≤◌}
use native.Mathlib.Omega.{arith}
use lib.Ieee.{Float}
use lib.IntN.{ℤ}
use lib.ListN.{length, length-append}
use lib.Seq.{sets, length-sets}
use Rattle.list_words.specs.Lists.{onto}
use Rattle.list_stores.proofs.Stores.{sets_three, sets_onto}
use Rattle.solids.specs.Solids.{Solid, vertices}
use Rattle.layouts.specs.declared.Sizes.{Sizes}
use Rattle.layouts.specs.Words.{sizes}
use Rattle.crossing_points.specs.Words.{of_rows}
use Rattle.result_points.specs.Words.{of_vertices, placed}

module _ (a b : Solid) (inc : List ℤ) (first crossed : List ℕ) (old : List Float) where
  -- the inclusions of all vertices are there, and there is room for all points
  pub record Roomy (z : Sizes) : Type 0 where
    pub size : z ≡ sizes a b
    pub there : z.va + z.vb ≤ length inc
    pub room : length (placed a b inc first crossed) ≤ length old

  pub roomy : {z : Sizes} → z ≡ sizes a b → z.va + z.vb ≤ length inc → length (placed a b inc first crossed) ≤ length old → Roomy z
  roomy e h r = record { size = e; there = h; room = r }

module _ {a b : Solid} {z : Sizes} {inc : List ℤ} {first crossed : List ℕ} {old : List Float} (g : Roomy a b inc first crossed old z) where
  -- ---- the inclusions
  pub there_a : 0 + vertices a ≤ length inc
  there_a =
      let e : z.va ≡ vertices a = ap (λ (y : Sizes). y.va) g.size in
      omega (arith, g.there)

  pub there_b : z.va + vertices b ≤ length inc
  there_b =
      let e : z.vb ≡ vertices b = ap (λ (y : Sizes). y.vb) g.size in
      omega (arith, g.there)

  -- ---- the points
  abbrev of_a : List Float
  of_a = of_vertices a inc 0

  abbrev between : List Float
  between = of_rows a b first crossed

  abbrev of_b : List Float
  of_b = of_vertices b inc z.va

  parts : placed a b inc first crossed ≡ of_a ++ (between ++ of_b)
  unfolding placed
  parts = ap (λ (y : Sizes). of_a ++ (between ++ of_vertices b inc y.va)) (sym g.size)

  all_three : length of_a + (length between + length of_b) ≤ length old
  all_three = omega (arith, g.room, ap length parts, length-append of_a (between ++ of_b), length-append between of_b)

  pub room_a : 0 + length of_a ≤ length old
  room_a = omega (arith, all_three)

  module _ {l : List Float} {i : ℕ} (p : l ≡ sets old 0 of_a) (f : i ≡ 0 + length of_a) where
    long_a : length l ≡ length old
    long_a = ap length p ∙ length-sets old 0 of_a

    pub room_between : i + length between ≤ length l
    room_between = omega (arith, all_three, f, long_a)

    module _ {m : List Float} {j : ℕ} (q : m ≡ sets l i between) (h : j ≡ i + length between) where
      pub room_b : j + length of_b ≤ length m
      room_b = omega (arith, all_three, f, h, long_a, ap length q, length-sets l i between)

      pub all_placed : {n : List Float} → n ≡ sets m j of_b → n ≡ onto (placed a b inc first crossed) old
      all_placed r =
          r ∙ rw (q, p) (sets_three old 0 i j of_a between of_b (sym f) (sym h))
          ∙ ap (sets old 0) (sym parts) ∙ sets_onto old (placed a b inc first crossed) g.room
