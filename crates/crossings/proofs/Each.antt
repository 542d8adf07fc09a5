-- What holds of each lower pairing of a pairing. K is any predicate that a crossing turned against keeps, so the signs of the formulas and the
-- directions of half-edges play no part; R is a predicate on points, by which a facet's half-edges are told from other edges.
use mathlib.Core.Bool.{Bool, true, false, cond}
use mathlib.Core.List.{List, [], ◌∷◌}
use Rattle.list_words.proofs.Sums.{All, all-++}
use Rattle.points.specs.declared.Point.{Point}
use Rattle.points.specs.declared.Axis.{Axis}
use Rattle.crossings.specs.declared.Edge.{Edge}
use Rattle.crossings.specs.declared.Facet.{Facet}
use Rattle.crossings.specs.declared.Crossing.{Crossing}
use Rattle.crossings.specs.declared.Crossing.TheVariants.{Miss}
use Rattle.crossings.specs.Crossings.{against, lies, first, half, halves, vv, ve, ev, vf, fv, ee, lower_ve, lower_ev, lower_vf, lower_fv, lower_ee, lower_ef, lower_fe}

-- a thing lies in R if its corners do
abbrev pub InEdge : (Point → Type 0) → Edge → Type 0
InEdge R e = R e.start × R e.end

abbrev pub InFacet : (Point → Type 0) → Facet → Type 0
InFacet R f = R f.p × R f.q × R f.r

-- what holds of a miss and of each of a list holds of plus and of minus
pub each_first : (K : Crossing → Type 0) → K Miss → (k : Axis) (side : Bool) (cs : List Crossing) → All K cs → K (first k side cs)
unfolding first
each_first K miss k side [] h = miss
each_first K miss k side (c ∷ cs) h = go (lies k side c) (each_first K miss k side cs h.1)
  where
    go : (b : Bool) → K (first k side cs) → K (cond b c (first k side cs))
    go true r = h.0
    go false r = r

module _ (K : Crossing → Type 0) (turn : (c : Crossing) → K c → K (against c)) where
  module _ (R : Point → Type 0) (f : Facet) (r : InFacet R f) where
    pub all_halves : (g : Edge → Crossing) → ((e : Edge) → InEdge R e → K (g e)) → All K (halves g f)
    all_halves g h = (one f.pq f.p f.q r.0 r.1, (one f.qr f.q f.r r.1 r.2, (one f.rp f.r f.p r.2 r.0, tt)))
      where
        one : (w : Bool) (p q : Point) → R p → R q → K (half g w p q)
        one true p q c d = h (record { start = p; end = q }) (c, d)
        one false p q c d = turn (g (record { start = q; end = p })) (h (record { start = q; end = p }) (d, c))

    pub all_against : (g : Edge → Crossing) → ((e : Edge) → InEdge R e → K (g e)) → All K (halves (λ e. against (g e)) f)
    all_against g h = all_halves (λ e. against (g e)) (λ e c. turn (g e) (h e c))

  pub each_ve : (v : Point) (e : Edge) → K (vv v e.start) → K (vv v e.end) → All K (lower_ve v e)
  each_ve v e s t = (turn (vv v e.start) s, (t, tt))

  pub each_ev : (e : Edge) (v : Point) → K (vv e.start v) → K (vv e.end v) → All K (lower_ev e v)
  each_ev e v s t = (s, (turn (vv e.end v) t, tt))

  pub each_vf : (v : Point) (f : Facet) (R : Point → Type 0) → InFacet R f → ((h : Edge) → InEdge R h → K (ve v h)) → All K (lower_vf v f)
  each_vf v f R r h = all_against R f r (λ e. ve v e) h

  pub each_fv : (f : Facet) (v : Point) (R : Point → Type 0) → InFacet R f → ((h : Edge) → InEdge R h → K (ev h v)) → All K (lower_fv f v)
  each_fv f v R r h = all_halves R f r (λ e. ev e v) h

  pub each_ee : (a b : Edge) → K (ve a.start b) → K (ve a.end b) → K (ev a b.start) → K (ev a b.end) → All K (lower_ee a b)
  each_ee a b s t u v = (turn (ve a.start b) s, (t, (turn (ev a b.start) u, (v, tt))))

  pub each_ef : (e : Edge) (f : Facet) → K (vf e.start f) → K (vf e.end f) → (R : Point → Type 0) → InFacet R f → ((h : Edge) → InEdge R h → K (ee e h))
      → All K (lower_ef e f)
  each_ef e f s t R r h = (s, (turn (vf e.end f) t, all_against R f r (λ b. ee e b) h))

  pub each_fe : (f : Facet) (e : Edge) → K (fv f e.start) → K (fv f e.end) → (R : Point → Type 0) → InFacet R f → ((h : Edge) → InEdge R h → K (ee h e))
      → All K (lower_fe f e)
  each_fe f e s t R r h =
      all-++ K (halves (λ a. against (ee a e)) f) (against (fv f e.start) ∷ fv f e.end ∷ []) (all_against R f r (λ a. ee a e) h)
      (turn (fv f e.start) s, (t, tt))
