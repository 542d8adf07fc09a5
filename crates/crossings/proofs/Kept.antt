-- A crossing's points keep what its things keep: where the hold does not leave P, and all corners of A's thing lie in P, A's point lies in P;
-- and B's likewise. Nothing is asked of the zero point, which stands where there is no crossing: by Theorem 1 no point is ever taken from there.
use mathlib.Core.Path.{◌≡◌, refl, sym, ap, ◌∙◌}
use mathlib.Core.Logic.{◌≢◌}
use mathlib.Core.Bool.{Bool, true, false, cond, false≢true}
use mathlib.Core.List.{List}
use lib.IntN.{pos}
use Rattle.list_words.specs.Lists.{sum_of, nonzero}
use Rattle.list_words.proofs.Sums.{All}
use Rattle.points.specs.declared.Point.{Point}
use Rattle.points.specs.declared.Axis.{Axis}
use Rattle.points.specs.declared.Axis.TheVariants.{X, Y, Z}
use Rattle.points.specs.Points.{placed}
use Rattle.points.proofs.Hold.{Held, PairIn, placed_in}
use Rattle.crossings.specs.declared.Edge.{Edge}
use Rattle.crossings.specs.declared.Facet.{Facet}
use Rattle.crossings.specs.declared.Crossing.{Crossing}
use Rattle.crossings.specs.declared.Crossing.TheVariants.{Miss, Cross}
use Rattle.crossings.specs.Crossings.{count, points, S, against, lies, first, crossing, paired, ve, ev, vf, fv, ee, ef, fe, lower_ve, lower_ev, lower_vf, lower_fv, lower_ee, lower_ef, lower_fe}
use Rattle.crossings.proofs.Each.{InEdge, InFacet, each_first, each_ve, each_ev, each_vf, each_fv, each_ee, each_ef, each_fe}
use Rattle.crossings.proofs.Lower.{Both, both_of_sum, zero_ve, zero_ev, zero_vf, zero_fv, zero_ee, zero_ef, zero_fe}

-- ---- A's point lies in P and B's in Q, if it is a crossing
abbrev pub Keeps : (Point → Type 0) → (Point → Type 0) → Crossing → Type 0
Keeps P Q Miss = Unit {0}
Keeps P Q (Cross n w) = PairIn P Q w

module _ (P Q : Point → Type 0) where
  pub keeps_against : (c : Crossing) → Keeps P Q c → Keeps P Q (against c)
  keeps_against Miss h = tt
  keeps_against (Cross n w) h = h

  -- what lies on a side is no miss
  keeps_points : (k : Axis) (side : Bool) (c : Crossing) → lies k side c ≡ true → Keeps P Q c → PairIn P Q (points c)
  unfolding lies
  keeps_points k side Miss e h = absurd (false≢true e)
  keeps_points k side (Cross n w) e h = h

  pub keeps_there : (c : Crossing) → count c ≢ pos 0 → Keeps P Q c → PairIn P Q (points c)
  keeps_there Miss z h = absurd (z refl)
  keeps_there (Cross n w) z h = h

module _ (P Q : Point → Type 0) (held_P : Held P) (held_Q : Held Q) where
  keeps_placed : (k : Axis) (cs : List Crossing) → Both k cs → All (Keeps P Q) cs → PairIn P Q (placed k (points (first k true cs)) (points (first k false cs)))
  keeps_placed k cs b h =
      placed_in P Q held_P held_Q _ _ (keeps_points P Q k true (first k true cs) b.plus (each_first (Keeps P Q) tt k true cs h))
      (keeps_points P Q k false (first k false cs) b.minus (each_first (Keeps P Q) tt k false cs h)) k

  pub keeps_paired : (k : Axis) (cs : List Crossing) → sum_of count cs ≡ pos 0 → All (Keeps P Q) cs → Keeps P Q (paired k cs)
  unfolding paired crossing
  keeps_paired k cs z h = go (nonzero (sum_of (S k) cs)) refl
    where
      go : (b : Bool) → nonzero (sum_of (S k) cs) ≡ b → Keeps P Q (cond b (Cross (sum_of (S k) cs) (placed k (points (first k true cs)) (points (first k false cs)))) Miss)
      go true e = keeps_placed k cs (both_of_sum k cs z (λ i. false≢true (ap nonzero (sym i) ∙ e))) h
      go false e = tt

  -- ---- the seven pairings
  pub keeps_ve : (v : Point) (e : Edge) → P v → InEdge Q e → Keeps P Q (ve v e)
  unfolding ve
  keeps_ve v e a b = keeps_paired X (lower_ve v e) (zero_ve v e) (each_ve (Keeps P Q) (keeps_against P Q) v e (a, b.0) (a, b.1))

  pub keeps_ev : (e : Edge) (v : Point) → InEdge P e → Q v → Keeps P Q (ev e v)
  unfolding ev
  keeps_ev e v a b = keeps_paired X (lower_ev e v) (zero_ev e v) (each_ev (Keeps P Q) (keeps_against P Q) e v (a.0, b) (a.1, b))

  pub keeps_vf : (v : Point) (f : Facet) → P v → InFacet Q f → Keeps P Q (vf v f)
  unfolding vf
  keeps_vf v f a b = keeps_paired Y (lower_vf v f) (zero_vf v f) (each_vf (Keeps P Q) (keeps_against P Q) v f Q b (λ h c. keeps_ve v h a c))

  pub keeps_fv : (f : Facet) (v : Point) → InFacet P f → Q v → Keeps P Q (fv f v)
  unfolding fv
  keeps_fv f v a b = keeps_paired Y (lower_fv f v) (zero_fv f v) (each_fv (Keeps P Q) (keeps_against P Q) f v P a (λ h c. keeps_ev h v c b))

  pub keeps_ee : (a b : Edge) → InEdge P a → InEdge Q b → Keeps P Q (ee a b)
  unfolding ee
  keeps_ee a b c d =
      keeps_paired Y (lower_ee a b) (zero_ee a b)
      (each_ee (Keeps P Q) (keeps_against P Q) a b (keeps_ve a.start b c.0 d) (keeps_ve a.end b c.1 d)
      (keeps_ev a b.start c d.0) (keeps_ev a b.end c d.1))

  pub keeps_ef : (e : Edge) (f : Facet) → InEdge P e → InFacet Q f → Keeps P Q (ef e f)
  unfolding ef
  keeps_ef e f a b =
      keeps_paired Z (lower_ef e f) (zero_ef e f)
      (each_ef (Keeps P Q) (keeps_against P Q) e f (keeps_vf e.start f a.0 b) (keeps_vf e.end f a.1 b) Q b (λ h c. keeps_ee e h a c))

  pub keeps_fe : (f : Facet) (e : Edge) → InFacet P f → InEdge Q e → Keeps P Q (fe f e)
  unfolding fe
  keeps_fe f e a b =
      keeps_paired Z (lower_fe f e) (zero_fe f e)
      (each_fe (Keeps P Q) (keeps_against P Q) f e (keeps_fv f e.start a b.0) (keeps_fv f e.end a b.1) P a (λ h c. keeps_ee h e c b))
