-- Slots are inside the table. Products of two variables are here alone.
use Prim.Native.Nat.{ℕ, ◌+◌, ◌*◌, ◌<◌, ◌≤◌}
use native.Mathlib.Nat.{mul-le-mul, mul-le-mul_right, suc-mul}
use native.Mathlib.Omega.{arith}
use Rattle.layouts.specs.declared.Sizes.{Sizes}
use Rattle.vertex_table.specs.Words.{on_edge, on_facet, of_B, total}
use Rattle.layouts.specs.Words.{Sized}

-- row e of m rows of n
pub in_row : (e m n : ℕ) → e < m → e * n + n ≤ m * n
in_row e m n h = omega (arith, mul-le-mul_right n h, suc-mul e n)

module _ {z : Sizes} (s : Sized z) where
  pub few_edges : z.ea * z.fb ≤ 98304
  few_edges = omega (arith, mul-le-mul s.ea s.fb)

  pub few_on_facet : (f : ℕ) → f ≤ z.fa → f * z.eb ≤ 98304
  few_on_facet f h = let k : f ≤ 256 = omega (arith, s.fa) in omega (arith, mul-le-mul k s.eb)

  pub few_slots : total z ≤ 196864
  few_slots = omega (arith, s.va, s.vb, few_edges, few_on_facet z.fa (omega arith))

module _ (z : Sizes) where
  pub edge_in : (e g : ℕ) → e < z.ea → g < z.fb → on_edge z e g < of_B z 0
  edge_in e g h k = omega (arith, in_row e z.ea z.fb h)

  pub facet_in : (f e : ℕ) → f < z.fa → e < z.eb → on_facet z f e < of_B z 0
  facet_in f e h k = omega (arith, in_row f z.fa z.eb h)
