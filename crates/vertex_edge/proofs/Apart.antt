-- Where all points of a thing lie on one side of a vertex, by x, the two miss: S is the same at each pair of vertices, so that vertex and edge miss,
-- and so does what is worked out from them.
use mathlib.Core.Path.{◌≡◌, refl, ap}
use mathlib.Core.Bool.{Bool, true, false, beq, false≢true}
use mathlib.Core.List.{[], ◌∷◌}
use Rattle.list_words.specs.Lists.{sum_of}
use Rattle.points.specs.declared.Point.{Point}
use Rattle.points.specs.declared.Axis.{Axis}
use Rattle.points.specs.declared.Axis.TheVariants.{X, Y}
use Rattle.points.specs.Points.{at_least}
use Rattle.crossings.specs.declared.Edge.{Edge}
use Rattle.crossings.specs.declared.Facet.{Facet}
use Rattle.crossings.specs.declared.Crossing.{Crossing}
use Rattle.crossings.specs.declared.Crossing.TheVariants.{Miss}
use Rattle.crossings.specs.Crossings.{S, crossing, paired, half, against, ve, ev, vf, fv}

abbrev pub side : Point → Point → Bool
side a b = at_least X (record { a = a; b = b })

abbrev edge : Point → Point → Edge
edge p q = record { start = p; end = q }

-- what the test of two sides says
pub alike : (a b : Bool) → beq a b ≡ true → b ≡ a
alike true true h = refl
alike false false h = refl
alike true false h = absurd (false≢true h)
alike false true h = absurd (false≢true h)

-- ---- pairings of misses
three : (k : Axis) {c d e : Crossing} → c ≡ Miss → d ≡ Miss → e ≡ Miss → paired k (c ∷ d ∷ e ∷ []) ≡ Miss
unfolding paired crossing S sum_of
three k p q r = rw (p, q, r)

half_miss : (g : Edge → Crossing) (along : Bool) (p q : Point) → g (edge p q) ≡ Miss → g (edge q p) ≡ Miss → half g along p q ≡ Miss
half_miss g true p q d e = d
half_miss g false p q d e = ap against e

-- ---- all on one side
module _ (t : Bool) where
  pub miss_ve : (v : Point) (e : Edge) → side v e.start ≡ t → side v e.end ≡ t → ve v e ≡ Miss
  unfolding ve paired crossing S sum_of
  miss_ve v e d f = elim t as (λ s. side v e.start ≡ s → side v e.end ≡ s → ve v e ≡ Miss) [ true ↦ λ p q. rw (p, q) | false ↦ λ p q. rw (p, q) ] d f

  pub miss_ev : (e : Edge) (v : Point) → side e.start v ≡ t → side e.end v ≡ t → ev e v ≡ Miss
  unfolding ev paired crossing S sum_of
  miss_ev e v d f = elim t as (λ s. side e.start v ≡ s → side e.end v ≡ s → ev e v ≡ Miss) [ true ↦ λ p q. rw (p, q) | false ↦ λ p q. rw (p, q) ] d f

  pub miss_vf : (v : Point) (f : Facet) → side v f.p ≡ t → side v f.q ≡ t → side v f.r ≡ t → vf v f ≡ Miss
  unfolding vf
  miss_vf v f p q r = three Y (of f.pq f.p f.q p q) (of f.qr f.q f.r q r) (of f.rp f.r f.p r p)
    where
      of : (along : Bool) (a b : Point) → side v a ≡ t → side v b ≡ t → half (λ h. against (ve v h)) along a b ≡ Miss
      of along a b d e = half_miss (λ h. against (ve v h)) along a b (ap against (miss_ve v (edge a b) d e)) (ap against (miss_ve v (edge b a) e d))

  pub miss_fv : (f : Facet) (v : Point) → side f.p v ≡ t → side f.q v ≡ t → side f.r v ≡ t → fv f v ≡ Miss
  unfolding fv
  miss_fv f v p q r = three Y (of f.pq f.p f.q p q) (of f.qr f.q f.r q r) (of f.rp f.r f.p r p)
    where
      of : (along : Bool) (a b : Point) → side a v ≡ t → side b v ≡ t → half (λ h. ev h v) along a b ≡ Miss
      of along a b d e = half_miss (λ h. ev h v) along a b (miss_ev (edge a b) v d e) (miss_ev (edge b a) v e d)
