-- A facet by the names of its corners, and sums over its half-edges. Names are of any type N: the vertex numbers of a solid, or, for a facet
-- that stands alone, its corners as first, second and third. `point` gives a name's point and `up` says whether a half-edge runs along its edge.
use mathlib.Core.Path.{◌≡◌, refl, ap₂, ◌∙◌}
use mathlib.Core.Bool.{Bool, true, false, cond}
use mathlib.Core.List.{List, [], ◌∷◌}
use lib.IntN.{ℤ, pos, neg_ℤ, ◌+ℤ◌, ◌-ℤ◌, +ℤ_assoc, +ℤ_idr}
use Rattle.list_words.specs.Lists.{sum_of, turned}
use Rattle.list_words.proofs.Sums.{sum_ext, sum_map}
use Rattle.list_words.proofs.Signed.{around, loop, around_ext, around_add, around_neg, around_sub, around_diff, around_diff'}
use Rattle.points.specs.declared.Point.{Point}
use Rattle.crossings.specs.declared.Edge.{Edge}
use Rattle.crossings.specs.declared.Facet.{Facet}
use Rattle.crossings.specs.declared.Crossing.{Crossing}
use Rattle.crossings.specs.Crossings.{against, half, halves}

-- "A facet p,q,r has the half-edges p→q, q→r, r→p."
abbrev pub half_edges_of : {N : Type 0} → N → N → N → List (N × N)
half_edges_of p q r = (p, q) ∷ (q, r) ∷ (r, p) ∷ []

abbrev pub edge_at : {N : Type 0} → (N → Point) → N × N → Edge
edge_at point h = record { start = point h.0; end = point h.1 }

module _ {N : Type 0} (point : N → Point) (up : N × N → Bool) (p q r : N) where
  abbrev pub facet_at : Facet
  facet_at = record { p = point p; q = point q; r = point r; pq = up (p, q); qr = up (q, r); rp = up (r, p) }

  -- the sum of F over its half-edges: the value of the edge, negated where the half-edge runs against it
  abbrev pub round : (Edge → ℤ) → ℤ
  round F = around up (λ h. F (edge_at point h)) (half_edges_of p q r)

  pub round_ext : (F G : Edge → ℤ) → ((e : Edge) → F e ≡ G e) → round F ≡ round G
  round_ext F G h = around_ext up _ _ (half_edges_of p q r) (λ e. h (edge_at point e))

  -- what hangs on the ends of the edges alone cancels
  pub round_ends : (u : Point → ℤ) → round (λ e. u e.end -ℤ u e.start) ≡ pos 0
  round_ends u = around_diff up (λ c. u (point c)) (half_edges_of p q r) (loop p q r)

  pub round_ends_turned : (u : Point → ℤ) → round (λ e. u e.start -ℤ u e.end) ≡ pos 0
  round_ends_turned u = around_diff' up (λ c. u (point c)) (half_edges_of p q r) (loop p q r)

  pub round_but_ends : (F G : Edge → ℤ) (u : Point → ℤ) → round (λ e. F e -ℤ G e +ℤ u e.end -ℤ u e.start) ≡ round F -ℤ round G
  round_but_ends F G u =
      round_ext _ _ (λ e. +ℤ_assoc (F e -ℤ G e) (u e.end) (neg_ℤ (u e.start)))
      ∙ around_add up (λ h. F (edge_at point h) -ℤ G (edge_at point h)) (λ h. u (point h.1) -ℤ u (point h.0)) (half_edges_of p q r)
      ∙ ap₂ ◌+ℤ◌ (around_sub up (λ h. F (edge_at point h)) (λ h. G (edge_at point h)) (half_edges_of p q r)) (round_ends u)
      ∙ +ℤ_idr _

-- ---- a facet that stands alone: `facet_at (corner f) (along f) one two three` is f
pub data Corner : Type 0 where
  one two three : Corner

abbrev pub corner : Facet → Corner → Point
corner f one = f.p
corner f two = f.q
corner f three = f.r

abbrev along_from : Facet → Corner → Bool
along_from f one = f.pq
along_from f two = f.qr
along_from f three = f.rp

abbrev pub along : Facet → Corner × Corner → Bool
along f h = along_from f h.0

pub alone : (f : Facet) → facet_at (corner f) (along f) one two three ≡ f
alone f = refl

-- ---- sums over the crossings of a facet's half-edges, of what changes its sign with the crossing
abbrev pub Odd : (Crossing → ℤ) → Type 0
Odd φ = (c : Crossing) → φ (against c) ≡ neg_ℤ (φ c)

module _ (φ : Crossing → ℤ) (odd : Odd φ) {N : Type 0} (point : N → Point) (up : N × N → Bool) (p q r : N) where
  pub sum_halves : (g : Edge → Crossing) → sum_of φ (halves g (facet_at point up p q r)) ≡ round point up p q r (λ h. φ (g h))
  sum_halves g = sum_map φ (λ h. half g (up h) (point h.0) (point h.1)) (half_edges_of p q r) ∙ sum_ext _ _ (half_edges_of p q r) (λ h. go h (up h))
    where
      go : (h : N × N) (w : Bool) → φ (half g w (point h.0) (point h.1)) ≡ (let n = φ (g (edge_at point (cond w h (turned h)))) in cond w n (neg_ℤ n))
      go h true = refl
      go h false = odd _

  pub sum_against : (g : Edge → Crossing) → sum_of φ (halves (λ h. against (g h)) (facet_at point up p q r)) ≡ neg_ℤ (round point up p q r (λ h. φ (g h)))
  sum_against g =
      sum_halves (λ h. against (g h)) ∙ round_ext point up p q r _ _ (λ h. odd (g h)) ∙ around_neg up (λ h. φ (g (edge_at point h))) (half_edges_of p q r)
