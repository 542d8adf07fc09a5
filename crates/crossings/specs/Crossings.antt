-- Document 01, "Crossing counts" (000, Eq. 1 to 6 and Table 1): the pairings of one thing of A with one of B.
-- v is a vertex, e an edge, f a facet, A's thing first: `ef` is an edge of A with a facet of B.
use Rattle.std.specs.Prelude.{Bool, true, false, not, cond, List, [], ◌∷◌, ◌++◌, ℤ, pos, neg_ℤ}
use Rattle.list_words.specs.Lists.{sum_of, nonzero}
use Rattle.points.specs.declared.Point.{Point}
use Rattle.points.specs.declared.PointPair.{PointPair}
use Rattle.points.specs.declared.Axis.{Axis}
use Rattle.points.specs.declared.Axis.TheVariants.{X, Y, Z}
use Rattle.points.specs.Points.{at_least, placed, zero_pair}
use Rattle.crossings.specs.declared.Edge.{Edge}
use Rattle.crossings.specs.declared.Facet.{Facet}
use Rattle.crossings.specs.declared.Crossing.{Crossing}
use Rattle.crossings.specs.declared.Crossing.TheVariants.{Miss, Cross}

-- ---- the count X, the points, and S

abbrev pub count : Crossing → ℤ
count Miss = pos 0
count (Cross n w) = n

abbrev pub points : Crossing → PointPair
points Miss = zero_pair
points (Cross n w) = w

-- "S equals X if X is not 0 and B's coordinate at the pair of points is at least A's; otherwise S is 0."
unfoldable pub S : Axis → Crossing → ℤ
S k Miss = pos 0
S k (Cross n w) = cond (at_least k w) n (pos 0)

-- "the negated value and the same points": a half-edge against its edge, and a minus sign in a sum
abbrev pub against : Crossing → Crossing
against Miss = Miss
against (Cross n w) = Cross (neg_ℤ n) w

-- ---- plus and minus

-- Is it a crossing with B at least A ("plus", for true), or with B below A ("minus", for false)?
unfoldable pub lies : Axis → Bool → Crossing → Bool
lies k side Miss = false
lies k true (Cross n w) = at_least k w
lies k false (Cross n w) = not (at_least k w)

-- the first of the lower pairings that lies so
unfoldable pub first : Axis → Bool → List Crossing → Crossing
first k side [] = Miss
first k side (c ∷ cs) = let r = first k side cs in cond (lies k side c) c r

-- ---- a pairing, from its lower pairings. Each stands with the sign that its S has in the sum, "A's start, A's end or A's three half-edges as
-- stored; then B's likewise". Where X is 0 it misses; elsewhere plus and minus give the points (there are always both).

unfoldable pub crossing : Axis → ℤ → List Crossing → Crossing
crossing k n cs = cond (nonzero n) (Cross n (placed k (points (first k true cs)) (points (first k false cs)))) Miss

unfoldable pub paired : Axis → List Crossing → Crossing
paired k cs = crossing k (sum_of (S k) cs) cs

-- the edge of the half-edge from p to q, which runs along it (true) or against it
abbrev pub edge_of : Bool → Point → Point → Edge
edge_of along p q = cond along (record { start = p; end = q }) (record { start = q; end = p })

-- what g gives for the half-edge from p to q, which runs along its edge (true) or against it
abbrev pub half : (Edge → Crossing) → Bool → Point → Point → Crossing
half g true p q = g (record { start = p; end = q })
half g false p q = against (g (record { start = q; end = p }))

-- what g gives for the three half-edges of a facet, as stored
abbrev pub halves : (Edge → Crossing) → Facet → List Crossing
halves g f = half g f.pq f.p f.q ∷ half g f.qr f.q f.r ∷ half g f.rp f.r f.p ∷ []

-- "Two vertices: X = 1, the points are the vertices."
abbrev pub vv : Point → Point → Crossing
vv a b = Cross (pos 1) (record { a = a; b = b })

-- "X(vA,eB) = S(vA,e) - S(vA,s)", by x
abbrev pub lower_ve : Point → Edge → List Crossing
lower_ve v e = against (vv v e.start) ∷ vv v e.end ∷ []

unfoldable pub ve : Point → Edge → Crossing
ve v e = paired X (lower_ve v e)

-- "X(eA,vB) = S(s,vB) - S(e,vB)", by x
abbrev pub lower_ev : Edge → Point → List Crossing
lower_ev e v = vv e.start v ∷ against (vv e.end v) ∷ []

unfoldable pub ev : Edge → Point → Crossing
ev e v = paired X (lower_ev e v)

-- "X(vA,fB) = - sum S(vA,h)", by y
abbrev pub lower_vf : Point → Facet → List Crossing
lower_vf v f = halves (λ h. against (ve v h)) f

unfoldable pub vf : Point → Facet → Crossing
vf v f = paired Y (lower_vf v f)

-- "X(fA,vB) = sum S(h,vB)", by y
abbrev pub lower_fv : Facet → Point → List Crossing
lower_fv f v = halves (λ h. ev h v) f

unfoldable pub fv : Facet → Point → Crossing
fv f v = paired Y (lower_fv f v)

-- "X(eA,eB) = S(eA's e,eB) - S(eA's s,eB) + S(eA,eB's e) - S(eA,eB's s)", by y
abbrev pub lower_ee : Edge → Edge → List Crossing
lower_ee a b = against (ve a.start b) ∷ ve a.end b ∷ against (ev a b.start) ∷ ev a b.end ∷ []

unfoldable pub ee : Edge → Edge → Crossing
ee a b = paired Y (lower_ee a b)

-- "X(eA,fB) = S(s,fB) - S(e,fB) - sum S(eA,h)", by z
abbrev pub lower_ef : Edge → Facet → List Crossing
lower_ef e f = vf e.start f ∷ against (vf e.end f) ∷ halves (λ h. against (ee e h)) f

unfoldable pub ef : Edge → Facet → Crossing
ef e f = paired Z (lower_ef e f)

-- "X(fA,eB) = S(fA,e) - S(fA,s) - sum S(h,eB)", by z
abbrev pub lower_fe : Facet → Edge → List Crossing
lower_fe f e = halves (λ h. against (ee h e)) f ++ (against (fv f e.start) ∷ fv f e.end ∷ [])

unfoldable pub fe : Facet → Edge → Crossing
fe f e = paired Z (lower_fe f e)
