-- A crossing of the definitions never has count 0: where a pairing's sum is 0 it is a miss. So of each lower pairing too.
use mathlib.Core.Path.{◌≡◌, refl, sym, ap, ◌∙◌}
use mathlib.Core.Logic.{◌≢◌}
use mathlib.Core.Bool.{Bool, true, false, cond, false≢true}
use mathlib.Core.List.{List}
use lib.IntN.{ℤ, pos, negsuc, neg_ℤ}
use Prim.Native.Nat.{zero, suc}
use Rattle.list_words.specs.Lists.{sum_of, nonzero}
use Rattle.list_words.proofs.Sums.{All}
use Rattle.points.specs.declared.Point.{Point}
use Rattle.points.specs.declared.Axis.{Axis}
use Rattle.points.specs.declared.Axis.TheVariants.{X, Y}
use Rattle.points.specs.Points.{placed}
use Rattle.crossings.specs.declared.Edge.{Edge}
use Rattle.crossings.specs.declared.Facet.{Facet}
use Rattle.crossings.specs.declared.Crossing.{Crossing}
use Rattle.crossings.specs.declared.Crossing.TheVariants.{Miss, Cross}
use Rattle.crossings.specs.Crossings.{count, points, S, against, first, crossing, paired, ve, ev, vf, fv, ee, lower_ve, lower_ev, lower_vf, lower_fv, lower_ee, lower_ef, lower_fe}
use Rattle.crossings.proofs.Each.{each_ve, each_ev, each_vf, each_fv, each_ee, each_ef, each_fe}

-- it misses, or its count is not 0
abbrev pub Real : Crossing → Type 0
Real Miss = Unit {0}
Real (Cross n w) = nonzero n ≡ true

pub real_counts : (c : Crossing) → Real c → c ≢ Miss → count c ≢ pos 0
real_counts Miss r there = absurd (there refl)
real_counts (Cross n w) r there = λ z. false≢true (ap nonzero (sym z) ∙ r)

nonzero_neg : (n : ℤ) → nonzero (neg_ℤ n) ≡ nonzero n
nonzero_neg (pos zero) = refl
nonzero_neg (pos (suc n)) = refl
nonzero_neg (negsuc n) = refl

real_against : (c : Crossing) → Real c → Real (against c)
real_against Miss r = tt
real_against (Cross n w) r = nonzero_neg n ∙ r

pub real_paired : (k : Axis) (cs : List Crossing) → Real (paired k cs)
unfolding paired crossing
real_paired k cs = go (nonzero (sum_of (S k) cs)) refl
  where
    go : (b : Bool) → nonzero (sum_of (S k) cs) ≡ b → Real (cond b (Cross (sum_of (S k) cs) (placed k (points (first k true cs)) (points (first k false cs)))) Miss)
    go true e = e
    go false e = tt

-- ---- the lower pairings of each; of two vertices the count is 1
real_ve : (v : Point) (e : Edge) → Real (ve v e)
unfolding ve
real_ve v e = real_paired X (lower_ve v e)

real_ev : (e : Edge) (v : Point) → Real (ev e v)
unfolding ev
real_ev e v = real_paired X (lower_ev e v)

real_vf : (v : Point) (f : Facet) → Real (vf v f)
unfolding vf
real_vf v f = real_paired Y (lower_vf v f)

real_fv : (f : Facet) (v : Point) → Real (fv f v)
unfolding fv
real_fv f v = real_paired Y (lower_fv f v)

real_ee : (a b : Edge) → Real (ee a b)
unfolding ee
real_ee a b = real_paired Y (lower_ee a b)

-- nothing is asked of the points
abbrev Any : Point → Type 0
Any p = Unit {0}

pub real_lower_ve : (v : Point) (e : Edge) → All Real (lower_ve v e)
real_lower_ve v e = each_ve Real real_against v e refl refl

pub real_lower_ev : (e : Edge) (v : Point) → All Real (lower_ev e v)
real_lower_ev e v = each_ev Real real_against e v refl refl

pub real_lower_vf : (v : Point) (f : Facet) → All Real (lower_vf v f)
real_lower_vf v f = each_vf Real real_against v f Any (tt, tt, tt) (λ h r. real_ve v h)

pub real_lower_fv : (f : Facet) (v : Point) → All Real (lower_fv f v)
real_lower_fv f v = each_fv Real real_against f v Any (tt, tt, tt) (λ h r. real_ev h v)

pub real_lower_ee : (a b : Edge) → All Real (lower_ee a b)
real_lower_ee a b = each_ee Real real_against a b (real_ve a.start b) (real_ve a.end b) (real_ev a b.start) (real_ev a b.end)

pub real_lower_ef : (e : Edge) (f : Facet) → All Real (lower_ef e f)
real_lower_ef e f = each_ef Real real_against e f (real_vf e.start f) (real_vf e.end f) Any (tt, tt, tt) (λ h r. real_ee e h)

pub real_lower_fe : (f : Facet) (e : Edge) → All Real (lower_fe f e)
real_lower_fe f e = each_fe Real real_against f e (real_fv f e.start) (real_fv f e.end) Any (tt, tt, tt) (λ h r. real_ee h e)
