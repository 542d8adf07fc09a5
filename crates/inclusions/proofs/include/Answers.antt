-- `include` meets its contract: A's vertices by B, then B's by A.
use mathlib.Core.Path.{◌≡◌, refl, ap, ap₂, ◌∙◌}
use mathlib.Core.Bool.{true, false}
use Prim.Native.Nat.{ℕ, ◌≤◌}
use native.Mathlib.Omega.{arith}
use lib.IntN.{ℤ, nat_abs, ◌+ℤ◌, ◌*ℤ◌}
use mir.Syntax.{w32}
use mir.Val.{to_z, of_z}
use Rattle.list_words.proofs.Widths.{back_32}
use Rattle.solids.specs.Solids.{Solid, vertex}
use Rattle.solids.specs.Containment.{in_A, in_B}
use Rattle.solids.specs.Words.{contained}
use Rattle.edges.specs.Readers.{solid_of}
use Rattle.results.specs.declared.Numbers.{Numbers}
use Rattle.results.specs.declared.Operation.{Operation}
use Rattle.results.specs.declared.Operation.TheVariants.{Union, Intersection, Difference}
use Rattle.results.specs.Inclusion.{numbers, cA, cB, cI, inclusion, vA, vB}
use Rattle.inclusions.specs.declared.side.Side.{Side}
use Rattle.inclusions.specs.Words.{weight}
use Rattle.inclusions.proofs.Weighing.{weighed_both}
use Rattle.inclusions.proofs.include.Goals as goal

small : (op : Operation) → (nat_abs (cA op) ≤ 1) × (nat_abs (cB op) ≤ 1) × (nat_abs (cI op) ≤ 1)
small Union = (omega arith, omega arith, omega arith)
small Intersection = (omega arith, omega arith, omega arith)
small Difference = (omega arith, omega arith, omega arith)

-- an operation's number as it is stored
stored : (x y : ℤ) → x ≡ y → nat_abs y ≤ 1 → to_z w32 (of_z w32 x) ≡ y
stored x y e h = ap (λ n. to_z w32 (of_z w32 n)) e ∙ back_32 y (omega (arith, h))

module _ (op : Operation) (n : Numbers) (of_n : n ≡ numbers op) where
  of_a : to_z w32 (of_z w32 n.c_a) ≡ cA op
  of_a = stored n.c_a (cA op) (ap (λ (n : Numbers). n.c_a) of_n) (small op).0

  of_b : to_z w32 (of_z w32 n.c_b) ≡ cB op
  of_b = stored n.c_b (cB op) (ap (λ (n : Numbers). n.c_b) of_n) (small op).1

  of_i : to_z w32 (of_z w32 n.c_i) ≡ cI op
  of_i = stored n.c_i (cI op) (ap (λ (n : Numbers). n.c_i) of_n) (small op).2

-- what is weighed is the inclusion
module _ (op : Operation) (a b : Solid) where
  weight_a : (q : Side) → q.as_b ≡ true → solid_of q.own ≡ a → solid_of q.other ≡ b → q.alone ≡ cA op → q.times ≡ cI op → (i : ℕ) → weight q i ≡ inclusion op a b (vA i)
  unfolding weight contained inclusion
  weight_a q w s t x y i =
      ap (λ w. q.alone +ℤ q.times *ℤ contained w (vertex (solid_of q.own) i) (solid_of q.other)) w
      ∙ ap₂ (λ s t. q.alone +ℤ q.times *ℤ in_B (vertex s i) t) s t ∙ ap₂ (λ x y. x +ℤ y *ℤ in_B (vertex a i) b) x y

  weight_b : (q : Side) → q.as_b ≡ false → solid_of q.own ≡ b → solid_of q.other ≡ a → q.alone ≡ cB op → q.times ≡ cI op → (i : ℕ) → weight q i ≡ inclusion op a b (vB i)
  unfolding weight contained inclusion
  weight_b q w s t x y i =
      ap (λ w. q.alone +ℤ q.times *ℤ contained w (vertex (solid_of q.own) i) (solid_of q.other)) w
      ∙ ap₂ (λ s t. q.alone +ℤ q.times *ℤ in_A t (vertex s i)) s t ∙ ap₂ (λ x y. x +ℤ y *ℤ in_A a (vertex b i)) x y

pub include_side-requires-2 : goal.include_side-requires-2
include_side-requires-2 c = record { room = (omega (arith, c.requires.inc_len, c.include_side.ensures.same), omega (arith, c.requires.inc_len, c.include_side.ensures.same, c.args.a.ready.few_points, c.args.b.ready.few_points)) }

pub returns : goal.returns
returns c =
    let a = solid_of c.args.a in
    let b = solid_of c.args.b in
    let op = c.args.op in
    let n = c.numbers-n in
    let x = c.include_side.ensures in
    let y = c.include_side-2.ensures in
    weighed_both op a b _ _ refl refl (weight_a op a b _ refl refl refl (of_a op n.result n.ensures) (of_i op n.result n.ensures)) (weight_b op a b _ refl refl refl (of_b op n.result n.ensures) (of_i op n.result n.ensures))
    (y.same ∙ x.same ∙ c.requires.inc_len) x.weighed y.weighed
