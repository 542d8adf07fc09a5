-- The first theorem of demand 3: Theorem 1 of 000, of any pairing whose lower counts add up to 0, and so of the seven.
use mathlib.Core.Path.{◌≡◌, refl, sym, ap, ◌∙◌}
use mathlib.Core.Logic.{◌≢◌}
use mathlib.Core.Bool.{Bool, true, false, cond, false≢true}
use mathlib.Core.List.{List}
use lib.IntN.{pos}
use Rattle.list_words.specs.Lists.{sum_of, nonzero}
use Rattle.list_words.proofs.Sums.{All}
use Rattle.points.specs.declared.PointPair.{PointPair}
use Rattle.points.specs.declared.Axis.{Axis}
use Rattle.points.specs.declared.Axis.TheVariants.{X, Y, Z}
use Rattle.points.specs.Points.{placed}
use Rattle.crossings.specs.declared.Crossing.{Crossing}
use Rattle.crossings.specs.declared.Crossing.TheVariants.{Miss, Cross}
use Rattle.crossings.specs.Crossings.{count, points, S, lies, first, crossing, paired, ve, ev, vf, fv, ee, ef, fe, lower_ve, lower_ev, lower_vf, lower_fv, lower_ee, lower_ef, lower_fe}
use Rattle.crossings.proofs.Each.{each_first}
use Rattle.crossings.proofs.Lower.{both_paired, zero_ve, zero_ev, zero_vf, zero_fv, zero_ee, zero_ef, zero_fe}
use Rattle.crossings.proofs.Real.{Real, real_counts, real_paired, real_lower_ve, real_lower_ev, real_lower_vf, real_lower_fv, real_lower_ee, real_lower_ef, real_lower_fe}
use Rattle.robust.specs.LowerPoints.{WorkedOut, LowerPoints}

-- what lies on a side is no miss
lies_there : (k : Axis) (side : Bool) (c : Crossing) → lies k side c ≡ true → c ≢ Miss
unfolding lies
lies_there k side c e m = false≢true (sym (ap (lies k side) m) ∙ e)

module _ (k : Axis) (cs : List Crossing) where
  abbrev here : PointPair
  here = placed k (points (first k true cs)) (points (first k false cs))

  between : paired k cs ≢ Miss → points (paired k cs) ≡ here
  unfolding paired crossing
  between = go (nonzero (sum_of (S k) cs))
    where
      go : (b : Bool) → cond b (Cross (sum_of (S k) cs) here) Miss ≢ Miss → points (cond b (Cross (sum_of (S k) cs) here) Miss) ≡ here
      go true n = refl
      go false n = absurd (n refl)

  worked_out : sum_of count cs ≡ pos 0 → All Real cs → paired k cs ≢ Miss → WorkedOut k cs (paired k cs)
  worked_out z real there =
      let crosses = real_counts (paired k cs) (real_paired k cs) there in
      let both = both_paired k cs z crosses in
      record {
        crosses = crosses;
        plus = both.plus;
        plus_crosses = side true both.plus;
        minus = both.minus;
        minus_crosses = side false both.minus;
        between = between there;
      }
    where
      side : (s : Bool) → lies k s (first k s cs) ≡ true → count (first k s cs) ≢ pos 0
      side s l = real_counts (first k s cs) (each_first Real tt k s cs real) (lies_there k s (first k s cs) l)

pub lower_points : LowerPoints
unfolding ve ev vf fv ee ef fe
lower_points =
    record {
      of_ve = λ v e. worked_out X (lower_ve v e) (zero_ve v e) (real_lower_ve v e);
      of_ev = λ e v. worked_out X (lower_ev e v) (zero_ev e v) (real_lower_ev e v);
      of_vf = λ v f. worked_out Y (lower_vf v f) (zero_vf v f) (real_lower_vf v f);
      of_fv = λ f v. worked_out Y (lower_fv f v) (zero_fv f v) (real_lower_fv f v);
      of_ee = λ a b. worked_out Y (lower_ee a b) (zero_ee a b) (real_lower_ee a b);
      of_ef = λ e f. worked_out Z (lower_ef e f) (zero_ef e f) (real_lower_ef e f);
      of_fe = λ f e. worked_out Z (lower_fe f e) (zero_fe f e) (real_lower_fe f e);
    }
