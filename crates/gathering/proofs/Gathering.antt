-- The step that serves all seven pairings: lower pairings gathered from the last to the first, and then finished, are `paired`.
use mathlib.Core.Path.{◌≡◌, refl, sym, ap, ◌∙◌}
use mathlib.Core.Bool.{true, false, cond}
use mathlib.Core.List.{List, [], ◌∷◌, ◌++◌}
use Prim.Native.Nat.{◌+◌, ◌^◌, ◌<◌, ◌≤◌}
use native.Mathlib.Omega.{arith}
use lib.IntN.{pos, nat_abs, ◌+ℤ◌}
use lib.ListN.{length, length-append}
use Rattle.list_words.specs.Lists.{sum_of, nonzero}
use Rattle.points.specs.declared.Axis.{Axis}
use Rattle.points.specs.Points.{placed}
use Rattle.crossings.specs.declared.Crossing.{Crossing}
use Rattle.crossings.specs.declared.Crossing.TheVariants.{Miss, Cross}
use Rattle.crossings.specs.Crossings.{count, points, S, lies, first, crossing, paired}
use Rattle.gathering.specs.declared.Gather.{Gather}
use Rattle.gathering.specs.Words.{Small}

-- what `Gather::add` leaves and `Gather::finish` answers
abbrev pub added : Crossing → Gather → Gather
added c g =
    record {
      by = g.by;
      sum = S g.by c +ℤ g.sum;
      plus = cond (lies g.by true c) c g.plus;
      minus = cond (lies g.by false c) c g.minus;
    }

abbrev pub finished : Gather → Crossing
finished g = cond (nonzero g.sum) (Cross g.sum (placed g.by (points g.plus) (points g.minus))) Miss

-- a list of lower pairings, gathered in front of what g has
unfoldable pub onward : List Crossing → Gather → Gather
onward [] g = g
onward (c ∷ cs) g = added c (onward cs g)

onward_last : (cs : List Crossing) (c : Crossing) (g : Gather) → onward (cs ++ (c ∷ [])) g ≡ onward cs (added c g)
unfolding onward
onward_last [] c g = refl
onward_last (d ∷ cs) c g = ap (added d) (onward_last cs c g)

abbrev nothing : Axis → Gather
nothing k = record { by = k; sum = pos 0; plus = Miss; minus = Miss }

onward_is : (k : Axis) (cs : List Crossing) → onward cs (nothing k) ≡ record { by = k; sum = sum_of (S k) cs; plus = first k true cs; minus = first k false cs }
unfolding onward sum_of first
onward_is k [] = refl
onward_is k (c ∷ cs) = ap (added c) (onward_is k cs)

finished_paired : (k : Axis) (cs : List Crossing) → finished (onward cs (nothing k)) ≡ paired k cs
unfolding paired crossing
finished_paired k cs = ap finished (onward_is k cs)

small_parts : (cs : List Crossing) (c : Crossing) → Small (cs ++ (c ∷ [])) → Small cs × (nat_abs (count c) ≤ 1)
small_parts [] c h = (tt, h.0)
small_parts (d ∷ cs) c h = let r = small_parts cs c h.1 in ((h.0, r.0), r.1)

-- ---- from the last to the first: of `lower` the front `rest` is left to gather, and g has what stands behind it
pub record Gathers (k : Axis) (lower rest : List Crossing) (g : Gather) : Type 0 where
  pub within : length rest ≤ length lower
  pub small : Small rest
  pub sum_small : nat_abs g.sum + length rest ≤ length lower
  pub value : onward rest g ≡ onward lower (nothing k)

module _ (k : Axis) (lower : List Crossing) where
  pub gathers_none : {rest : List Crossing} {g : Gather} → Small lower → rest ≡ lower → g ≡ nothing k → Gathers k lower rest g
  gathers_none h e f = rw (e, f) (record { within = omega arith; small = h; sum_small = omega arith; value = refl })

  module _ {rest : List Crossing} {g : Gather} (r : Gathers k lower rest g) where
    pub gathers_fits : (left : List Crossing) (c : Crossing) → rest ≡ left ++ (c ∷ []) → length lower ≤ 8 → nat_abs (count c) + nat_abs g.sum < 2 ^ 31
    gathers_fits left c e few =
        let h = small_parts left c (rw e at r.small) in
        let m = ap length e ∙ length-append left (c ∷ []) in
        omega (arith, r.sum_small, h.1)

    pub gathers_next : (left : List Crossing) (c : Crossing) {n : Gather} → rest ≡ left ++ (c ∷ []) → n ≡ added c g → nat_abs n.sum ≤ nat_abs (count c) + nat_abs g.sum
        → Gathers k lower left n
    gathers_next left c e f s =
        let h = small_parts left c (rw e at r.small) in
        let m = ap length e ∙ length-append left (c ∷ []) in
        record {
          within = omega (arith, r.within);
          small = h.0;
          sum_small = omega (arith, r.sum_small, h.1);
          value = ap (onward left) f ∙ sym (onward_last left c g) ∙ ap (λ l. onward l g) (sym e) ∙ r.value;
        }

  pub gathers_all : (rest : List Crossing) {g : Gather} → Gathers k lower rest g → length rest ≡ 0 → finished g ≡ paired k lower
  unfolding onward
  gathers_all [] r e = ap finished r.value ∙ finished_paired k lower
  gathers_all (c ∷ l) r e = absurd (omega arith)
