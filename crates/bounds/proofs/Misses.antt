-- What boxes apart say: where all of A's thing lies on one side of all of B's, by one axis, a crossing of the two misses.
use mathlib.Core.Path.{◌≡◌, refl, ap, ap₂, ◌∙◌}
use mathlib.Core.Logic.{inl, inr}
use mathlib.Core.Bool.{Bool, true, false, ◌||◌, cond}
use mathlib.Core.List.{List, [], ◌∷◌}
use lib.IntN.{pos, ◌+ℤ◌}
use lib.Ieee.{lt}
use Rattle.list_words.specs.Lists.{sum_of}
use Rattle.list_words.proofs.Sums.{All}
use Rattle.list_words.proofs.Tests.{or_true}
use Rattle.points.specs.declared.Point.{Point}
use Rattle.points.specs.declared.Axis.{Axis}
use Rattle.points.specs.declared.Axis.TheVariants.{X, Y, Z}
use Rattle.points.specs.Points.{coordinate, at_least}
use Rattle.points.proofs.Order.{le_trans, le_of_lt, lt_not, fails, fails_right}
use Rattle.points.proofs.Hold.{Held, Slab, slab_held}
use Rattle.crossings.specs.declared.Edge.{Edge}
use Rattle.crossings.specs.declared.Facet.{Facet}
use Rattle.crossings.specs.declared.Crossing.{Crossing}
use Rattle.crossings.specs.declared.Crossing.TheVariants.{Miss, Cross}
use Rattle.crossings.specs.Crossings.{count, S, against, crossing, paired, ve, ev, vf, fv, ee, ef, fe, lower_ve, lower_ev, lower_vf, lower_fv, lower_ee, lower_ef, lower_fe}
use Rattle.crossings.proofs.Each.{InEdge, InFacet, each_ve, each_ev, each_vf, each_fv, each_ee, each_ef, each_fe}
use Rattle.crossings.proofs.Lower.{zero_ve, zero_ev, zero_vf, zero_fv, zero_ee, zero_ef, zero_fe}
use Rattle.crossings.proofs.Kept.{Keeps, keeps_against, keeps_ve, keeps_ev, keeps_vf, keeps_fv, keeps_ee}
use Rattle.bounds.specs.declared.Bounds.{Bounds}
use Rattle.bounds.specs.Words.{apart_on, beside, apart}
use Rattle.bounds.proofs.Inside.{In}

-- ---- a pairing whose sum of S is 0 misses; so does one whose lower pairings all miss
miss_of_zero : (k : Axis) (cs : List Crossing) → sum_of (S k) cs ≡ pos 0 → paired k cs ≡ Miss
unfolding paired crossing
miss_of_zero k cs z = rw z

abbrev Missed : Crossing → Type 0
Missed c = c ≡ Miss

turn : (c : Crossing) → Missed c → Missed (against c)
turn c h = ap against h

misses : (k : Axis) (cs : List Crossing) → All Missed cs → sum_of (S k) cs ≡ pos 0
unfolding sum_of S
misses k [] h = refl
misses k (c ∷ cs) h = ap₂ ◌+ℤ◌ (ap (S k) h.0) (misses k cs h.1)

miss_of_misses : (k : Axis) (cs : List Crossing) → All Missed cs → paired k cs ≡ Miss
miss_of_misses k cs h = miss_of_zero k cs (misses k cs h)

-- ---- by axis k the test of a point of P with one of Q comes out as w
abbrev pub OneWay : Axis → Bool → (Point → Type 0) → (Point → Type 0) → Type 0
OneWay k w P Q = (a b : Point) → P a → Q b → at_least k (record { a = a; b = b }) ≡ w

module _ (P Q : Point → Type 0) (k : Axis) where
  S_all : OneWay k true P Q → (c : Crossing) → Keeps P Q c → S k c ≡ count c
  unfolding S
  S_all one Miss h = refl
  S_all one (Cross n w) h = rw (one w.a w.b h.0 h.1)

  S_none : OneWay k false P Q → (c : Crossing) → Keeps P Q c → S k c ≡ pos 0
  unfolding S
  S_none one Miss h = refl
  S_none one (Cross n w) h = rw (one w.a w.b h.0 h.1)

  sum_all : OneWay k true P Q → (cs : List Crossing) → All (Keeps P Q) cs → sum_of (S k) cs ≡ sum_of count cs
  unfolding sum_of
  sum_all one [] h = refl
  sum_all one (c ∷ cs) h = ap₂ ◌+ℤ◌ (S_all one c h.0) (sum_all one cs h.1)

  sum_none : OneWay k false P Q → (cs : List Crossing) → All (Keeps P Q) cs → sum_of (S k) cs ≡ pos 0
  unfolding sum_of
  sum_none one [] h = refl
  sum_none one (c ∷ cs) h = ap₂ ◌+ℤ◌ (S_none one c h.0) (sum_none one cs h.1)

  -- the lower counts add up to 0, so all of them give 0, and so does none
  miss_of_one_way : (w : Bool) → OneWay k w P Q → (cs : List Crossing) → sum_of count cs ≡ pos 0 → All (Keeps P Q) cs → paired k cs ≡ Miss
  miss_of_one_way true one cs z h = miss_of_zero k cs (sum_all one cs h ∙ z)
  miss_of_one_way false one cs z h = miss_of_zero k cs (sum_none one cs h)

-- x or y
abbrev pub Flat : Axis → Type 0
Flat X = Unit {0}
Flat Y = Unit {0}
Flat Z = ⊥

module _ (P Q : Point → Type 0) (held_P : Held P) (held_Q : Held Q) (w : Bool) where
  module _ (one : OneWay X w P Q) where
    one_ve : (v : Point) (e : Edge) → P v → InEdge Q e → ve v e ≡ Miss
    unfolding ve
    one_ve v e a b = miss_of_one_way P Q X w one (lower_ve v e) (zero_ve v e) (each_ve (Keeps P Q) (keeps_against P Q) v e (a, b.0) (a, b.1))

    one_ev : (e : Edge) (v : Point) → InEdge P e → Q v → ev e v ≡ Miss
    unfolding ev
    one_ev e v a b = miss_of_one_way P Q X w one (lower_ev e v) (zero_ev e v) (each_ev (Keeps P Q) (keeps_against P Q) e v (a.0, b) (a.1, b))

  pub one_vf : (k : Axis) → Flat k → OneWay k w P Q → (v : Point) (f : Facet) → P v → InFacet Q f → vf v f ≡ Miss
  unfolding vf
  one_vf X l one v f a b = miss_of_misses Y (lower_vf v f) (each_vf Missed turn v f Q b (λ h c. one_ve one v h a c))
  one_vf Y l one v f a b =
      miss_of_one_way P Q Y w one (lower_vf v f) (zero_vf v f) (each_vf (Keeps P Q) (keeps_against P Q) v f Q b (λ h c. keeps_ve P Q held_P held_Q v h a c))
  one_vf Z l one v f a b = absurd l

  pub one_fv : (k : Axis) → Flat k → OneWay k w P Q → (f : Facet) (v : Point) → InFacet P f → Q v → fv f v ≡ Miss
  unfolding fv
  one_fv X l one f v a b = miss_of_misses Y (lower_fv f v) (each_fv Missed turn f v P a (λ h c. one_ev one h v c b))
  one_fv Y l one f v a b =
      miss_of_one_way P Q Y w one (lower_fv f v) (zero_fv f v) (each_fv (Keeps P Q) (keeps_against P Q) f v P a (λ h c. keeps_ev P Q held_P held_Q h v c b))
  one_fv Z l one f v a b = absurd l

  one_ee : (k : Axis) → Flat k → OneWay k w P Q → (a b : Edge) → InEdge P a → InEdge Q b → ee a b ≡ Miss
  unfolding ee
  one_ee X l one a b c d =
      miss_of_misses Y (lower_ee a b)
      (each_ee Missed turn a b (one_ve one a.start b c.0 d) (one_ve one a.end b c.1 d) (one_ev one a b.start c d.0) (one_ev one a b.end c d.1))
  one_ee Y l one a b c d =
      miss_of_one_way P Q Y w one (lower_ee a b) (zero_ee a b)
      (each_ee (Keeps P Q) (keeps_against P Q) a b (keeps_ve P Q held_P held_Q a.start b c.0 d) (keeps_ve P Q held_P held_Q a.end b c.1 d)
      (keeps_ev P Q held_P held_Q a b.start c d.0) (keeps_ev P Q held_P held_Q a b.end c d.1))
  one_ee Z l one a b c d = absurd l

  -- by x or y what an edge and a facet are worked out from misses already
  flat_ef : (k : Axis) → Flat k → OneWay k w P Q → (e : Edge) (f : Facet) → InEdge P e → InFacet Q f → ef e f ≡ Miss
  unfolding ef
  flat_ef k l one e f a b =
      miss_of_misses Z (lower_ef e f)
      (each_ef Missed turn e f (one_vf k l one e.start f a.0 b) (one_vf k l one e.end f a.1 b) Q b (λ h c. one_ee k l one e h a c))

  flat_fe : (k : Axis) → Flat k → OneWay k w P Q → (f : Facet) (e : Edge) → InFacet P f → InEdge Q e → fe f e ≡ Miss
  unfolding fe
  flat_fe k l one f e a b =
      miss_of_misses Z (lower_fe f e)
      (each_fe Missed turn f e (one_fv k l one f e.start a b.0) (one_fv k l one f e.end a b.1) P a (λ h c. one_ee k l one h e c b))

  pub one_ef : (k : Axis) → OneWay k w P Q → (e : Edge) (f : Facet) → InEdge P e → InFacet Q f → ef e f ≡ Miss
  unfolding ef
  one_ef X one e f a b = flat_ef X tt one e f a b
  one_ef Y one e f a b = flat_ef Y tt one e f a b
  one_ef Z one e f a b =
      miss_of_one_way P Q Z w one (lower_ef e f) (zero_ef e f)
      (each_ef (Keeps P Q) (keeps_against P Q) e f (keeps_vf P Q held_P held_Q e.start f a.0 b) (keeps_vf P Q held_P held_Q e.end f a.1 b) Q b
      (λ h c. keeps_ee P Q held_P held_Q e h a c))

  pub one_fe : (k : Axis) → OneWay k w P Q → (f : Facet) (e : Edge) → InFacet P f → InEdge Q e → fe f e ≡ Miss
  unfolding fe
  one_fe X one f e a b = flat_fe X tt one f e a b
  one_fe Y one f e a b = flat_fe Y tt one f e a b
  one_fe Z one f e a b =
      miss_of_one_way P Q Z w one (lower_fe f e) (zero_fe f e)
      (each_fe (Keeps P Q) (keeps_against P Q) f e (keeps_fv P Q held_P held_Q f e.start a b.0) (keeps_fv P Q held_P held_Q f e.end a b.1) P a
      (λ h c. keeps_ee P Q held_P held_Q h e c b))

-- ---- boxes apart by an axis: every test goes one way
abbrev side : Axis → Bounds → Point → Type 0
side k b = Slab k (coordinate k b.low) (coordinate k b.high)

side_held : (k : Axis) (b : Bounds) → Held (side k b)
side_held k b = slab_held k (coordinate k b.low) (coordinate k b.high)

module _ (k : Axis) (a b : Bounds) where
  way_up : lt (coordinate k a.high) (coordinate k b.low) ≡ true → OneWay k true (side k a) (side k b)
  unfolding at_least
  way_up h u v p q =
      le_trans (coordinate k u) (coordinate k a.high) (coordinate k v) p.to
      (le_trans (coordinate k a.high) (coordinate k b.low) (coordinate k v) (le_of_lt (coordinate k a.high) (coordinate k b.low) h) q.from)

  way_down : lt (coordinate k b.high) (coordinate k a.low) ≡ true → OneWay k false (side k a) (side k b)
  unfolding at_least
  way_down h u v p q =
      fails_right (coordinate k u) (coordinate k v) (coordinate k b.high) q.to
      (fails (coordinate k a.low) (coordinate k u) (coordinate k b.high) p.from (lt_not (coordinate k b.high) (coordinate k a.low) h))

  -- some way
  pub apart_way : apart_on k a b ≡ true → (w : Bool) × OneWay k w (side k a) (side k b)
  unfolding apart_on
  apart_way h = elim (or_true (lt (coordinate k a.high) (coordinate k b.low)) (lt (coordinate k b.high) (coordinate k a.low)) h) [
    | inl u ↦ (true, way_up u)
    | inr d ↦ (false, way_down d)
  ]

-- ---- THE LAWS: A's thing in box a, B's in box b
module _ (a b : Bounds) where
  ef_on : (k : Axis) → apart_on k a b ≡ true → (e : Edge) (f : Facet) → InEdge (In a) e → InFacet (In b) f → ef e f ≡ Miss
  ef_on k h e f i j =
      let (w, one) = apart_way k a b h in
      one_ef (side k a) (side k b) (side_held k a) (side_held k b) w k one e f (i.0 k, i.1 k) (j.0 k, j.1 k, j.2 k)

  fe_on : (k : Axis) → apart_on k a b ≡ true → (f : Facet) (e : Edge) → InFacet (In a) f → InEdge (In b) e → fe f e ≡ Miss
  fe_on k h f e i j =
      let (w, one) = apart_way k a b h in
      one_fe (side k a) (side k b) (side_held k a) (side_held k b) w k one f e (i.0 k, i.1 k, i.2 k) (j.0 k, j.1 k)

  vf_on : (k : Axis) → Flat k → apart_on k a b ≡ true → (v : Point) (f : Facet) → In a v → InFacet (In b) f → vf v f ≡ Miss
  vf_on k l h v f i j =
      let (w, one) = apart_way k a b h in
      one_vf (side k a) (side k b) (side_held k a) (side_held k b) w k l one v f (i k) (j.0 k, j.1 k, j.2 k)

  fv_on : (k : Axis) → Flat k → apart_on k a b ≡ true → (f : Facet) (v : Point) → InFacet (In a) f → In b v → fv f v ≡ Miss
  fv_on k l h f v i j =
      let (w, one) = apart_way k a b h in
      one_fv (side k a) (side k b) (side_held k a) (side_held k b) w k l one f v (i.0 k, i.1 k, i.2 k) (j k)

  -- by some axis
  by_axis : {M : Type 0} → ((k : Axis) → apart_on k a b ≡ true → M) → apart a b ≡ true → M
  unfolding apart beside
  by_axis on h = elim (or_true (apart_on X a b || apart_on Y a b) (apart_on Z a b) h) [
    | inl u ↦ elim (or_true (apart_on X a b) (apart_on Y a b) u) [ inl x ↦ on X x | inr y ↦ on Y y ]
    | inr z ↦ on Z z
  ]

  by_flat : {M : Type 0} → ((k : Axis) → Flat k → apart_on k a b ≡ true → M) → beside a b ≡ true → M
  unfolding beside
  by_flat on h = elim (or_true (apart_on X a b) (apart_on Y a b) h) [ inl x ↦ on X tt x | inr y ↦ on Y tt y ]

  pub apart_ef : apart a b ≡ true → (e : Edge) (f : Facet) → InEdge (In a) e → InFacet (In b) f → ef e f ≡ Miss
  apart_ef h e f i j = by_axis (λ k u. ef_on k u e f i j) h

  pub apart_fe : apart a b ≡ true → (f : Facet) (e : Edge) → InFacet (In a) f → InEdge (In b) e → fe f e ≡ Miss
  apart_fe h f e i j = by_axis (λ k u. fe_on k u f e i j) h

  pub beside_vf : beside a b ≡ true → (v : Point) (f : Facet) → In a v → InFacet (In b) f → vf v f ≡ Miss
  beside_vf h v f i j = by_flat (λ k l u. vf_on k l u v f i j) h

  pub beside_fv : beside a b ≡ true → (f : Facet) (v : Point) → InFacet (In a) f → In b v → fv f v ≡ Miss
  beside_fv h f v i j = by_flat (λ k l u. fv_on k l u f v i j) h

-- ---- apart by z: S of a vertex with a facet is all of X, or none of it
module _ (a b : Bounds) where
  none_vf : OneWay Z false (side Z a) (side Z b) → (v : Point) (f : Facet) → side Z a v → InFacet (side Z b) f → S Z (vf v f) ≡ pos 0
  none_vf one v f i j = S_none (side Z a) (side Z b) Z one (vf v f) (keeps_vf (side Z a) (side Z b) (side_held Z a) (side_held Z b) v f i j)

  none_fv : OneWay Z false (side Z a) (side Z b) → (f : Facet) (v : Point) → InFacet (side Z a) f → side Z b v → S Z (fv f v) ≡ pos 0
  none_fv one f v i j = S_none (side Z a) (side Z b) Z one (fv f v) (keeps_fv (side Z a) (side Z b) (side_held Z a) (side_held Z b) f v i j)

  -- none of it where B's is below A's
  pub below_vf : lt b.high.z a.low.z ≡ true → (v : Point) (f : Facet) → In a v → InFacet (In b) f → S Z (vf v f) ≡ pos 0
  below_vf h v f i j = none_vf (way_down Z a b h) v f (i Z) (j.0 Z, j.1 Z, j.2 Z)

  pub below_fv : lt b.high.z a.low.z ≡ true → (f : Facet) (v : Point) → InFacet (In a) f → In b v → S Z (fv f v) ≡ pos 0
  below_fv h f v i j = none_fv (way_down Z a b h) f v (i.0 Z, i.1 Z, i.2 Z) (j Z)

  module _ (h : apart_on Z a b ≡ true) where
    pub level_vf : (w : Bool) × ((v : Point) (f : Facet) → In a v → InFacet (In b) f → S Z (vf v f) ≡ cond w (count (vf v f)) (pos 0))
    level_vf = let (w, one) = apart_way Z a b h in (w, λ v f i j. go w one v f (i Z) (j.0 Z, j.1 Z, j.2 Z))
      where
        go : (w : Bool) → OneWay Z w (side Z a) (side Z b) → (v : Point) (f : Facet) → side Z a v → InFacet (side Z b) f → S Z (vf v f) ≡ cond w (count (vf v f)) (pos 0)
        go true one v f i j = S_all (side Z a) (side Z b) Z one (vf v f) (keeps_vf (side Z a) (side Z b) (side_held Z a) (side_held Z b) v f i j)
        go false one v f i j = none_vf one v f i j

    pub level_fv : (w : Bool) × ((f : Facet) (v : Point) → InFacet (In a) f → In b v → S Z (fv f v) ≡ cond w (count (fv f v)) (pos 0))
    level_fv = let (w, one) = apart_way Z a b h in (w, λ f v i j. go w one f v (i.0 Z, i.1 Z, i.2 Z) (j Z))
      where
        go : (w : Bool) → OneWay Z w (side Z a) (side Z b) → (f : Facet) (v : Point) → InFacet (side Z a) f → side Z b v → S Z (fv f v) ≡ cond w (count (fv f v)) (pos 0)
        go true one f v i j = S_all (side Z a) (side Z b) Z one (fv f v) (keeps_fv (side Z a) (side Z b) (side_held Z a) (side_held Z b) f v i j)
        go false one f v i j = none_fv one f v i j
