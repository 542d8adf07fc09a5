-- Which points a box contains, as B: those with low < c and c ≤ high on each axis, once. Nothing is worked out by arithmetic of f64: on an axis on which
-- a thing is level, all its points stay level, whatever rounding did (the hold), and so does the point that is asked for. A face by x or y then adds
-- nothing; of a face by z, what the diagonal adds to its two triangles cancels, and the four sides are level by x or by y.
use mathlib.Core.Path.{◌≡◌, refl, sym, ap, ap₂, ◌∙◌}
use mathlib.Core.Bool.{Bool, true, false, not, ◌&&◌, cond, true≢false}
use Prim.Native.Nat.{ℕ}
use native.Mathlib.Omega.{arith}
use lib.IntN.{ℤ, pos, neg_ℤ, ◌+ℤ◌, ◌-ℤ◌, +ℤ_idr, +ℤ_invr}
use lib.Ieee.{Float, lt, le, is_nan}
use Rattle.list_words.specs.Lists.{sum_of, every}
use Rattle.list_words.proofs.Integers.{split, mk_eq, lin}
use Rattle.points.specs.declared.Point.{Point}
use Rattle.points.specs.declared.Axis.{Axis}
use Rattle.points.specs.declared.Axis.TheVariants.{X, Y, Z}
use Rattle.points.specs.Points.{coordinate, at_least}
use Rattle.points.proofs.Order.{le_trans, le_self, le_of_lt, lt_not_le, fails, fails_right}
use Rattle.points.proofs.Hold.{Within, Slab, slab_held}
use Rattle.crossings.specs.declared.Edge.{Edge}
use Rattle.crossings.specs.declared.Facet.{Facet}
use Rattle.crossings.specs.declared.Crossing.{Crossing}
use Rattle.crossings.specs.declared.Crossing.TheVariants.{Miss, Cross}
use Rattle.crossings.specs.Crossings.{count, S, ve, vf}
use Rattle.crossings.proofs.Corners.{facet_at, round}
use Rattle.crossings.proofs.Each.{InEdge, InFacet}
use Rattle.crossings.proofs.Formulas.{count_ve, count_vf}
use Rattle.crossings.proofs.Kept.{Keeps, keeps_ve, keeps_vf}
use Rattle.solids.specs.Solids.{along}
use Rattle.solids.specs.Containment.{in_B}
use Rattle.bounds.proofs.Misses.{OneWay, Flat, one_vf}
use Rattle.outage_rows.specs.declared.Span.{Span}
use Rattle.outage_rows.specs.Box.{corner_point, box}
use Rattle.outage_rows.specs.Boxes.{inside}
use Rattle.outage_rows.proofs.Computing.{the_rule}

-- ---- level at a height: not below it and not above it
abbrev At : Float → Float → Type 0
At c x = Within c c x

self : (c : Float) → is_nan c ≡ false → At c c
self c n = record { from = le_self c n; to = le_self c n }

-- what is level is compared as its heights are
compared : (a c x y : Float) → At a x → At c y → le x y ≡ le a c
compared a c x y h g = go (le a c) refl
  where
    go : (w : Bool) → le a c ≡ w → le x y ≡ w
    go true e = le_trans x a y h.to (le_trans a c y e g.from)
    go false e = fails_right x y c g.to (fails a x c h.from e)

one_way : (k : Axis) (a c : Float) → OneWay k (le a c) (Slab k a a) (Slab k c c)
unfolding at_least
one_way k a c p q h g = compared a c (coordinate k p) (coordinate k q) h g

S_level : (k : Axis) (a c : Float) (x : Crossing) → Keeps (Slab k a a) (Slab k c c) x → S k x ≡ cond (le a c) (count x) (pos 0)
unfolding S
S_level k a c Miss h = go (le a c)
  where
    go : (w : Bool) → pos 0 ≡ cond w (pos 0) (pos 0)
    go true = refl
    go false = refl
S_level k a c (Cross n w) h = ap (λ t. cond t n (pos 0)) (one_way k a c w.a w.b h.0 h.1)

S_zero : (k : Axis) (x : Crossing) → count x ≡ pos 0 → S k x ≡ pos 0
unfolding S
S_zero k Miss e = refl
S_zero k (Cross n w) e = go (at_least k w)
  where
    go : (t : Bool) → cond t n (pos 0) ≡ pos 0
    go true = e
    go false = refl

-- ---- numbers that stand where a test holds, and else 0
if_both : (w : Bool) (m n : ℤ) → cond w m (pos 0) +ℤ cond w n (pos 0) ≡ cond w (m +ℤ n) (pos 0)
if_both true m n = refl
if_both false m n = refl

if_less : (w : Bool) (n : ℤ) → cond w (neg_ℤ n) (pos 0) ≡ neg_ℤ (cond w n (pos 0))
if_less true n = refl
if_less false n = refl

if_between : (l h : Bool) (n : ℤ) → (l ≡ true → h ≡ true) → cond h n (pos 0) -ℤ cond l n (pos 0) ≡ cond (not l && h) n (pos 0)
if_between true true n up = +ℤ_invr n
if_between true false n up = absurd (true≢false (sym (up refl)))
if_between false true n up = +ℤ_idr n
if_between false false n up = refl

if_all : (x y z : Bool) (n : ℤ) → cond z (cond y (cond x n (pos 0)) (pos 0)) (pos 0) ≡ cond (x && (y && (z && true))) n (pos 0)
if_all true true true n = refl
if_all true true false n = refl
if_all true false true n = refl
if_all true false false n = refl
if_all false true true n = refl
if_all false true false n = refl
if_all false false true n = refl
if_all false false false n = refl

-- the end of a span: its high point, or its low one
abbrev pub end : Span → Bool → Point
end b true = b.high
end b false = b.low

-- ---- a point and the things of a box
module _ (v : Point) (there : (k : Axis) → is_nan (coordinate k v) ≡ false) where
  -- a facet that is level by x or y
  beside : (k : Axis) → Flat k → (c : Float) (f : Facet) → InFacet (Slab k c c) f → S Z (vf v f) ≡ pos 0
  unfolding S
  beside k l c f h =
      let a = coordinate k v in
      ap (S Z) (one_vf (Slab k a a) (Slab k c c) (slab_held k a a) (slab_held k c c) (le a c) k l (one_way k a c) v f (self a (there k)) h)

  -- a facet that is level by z
  under : (c : Float) (f : Facet) → InFacet (Slab Z c c) f → S Z (vf v f) ≡ cond (le v.z c) (count (vf v f)) (pos 0)
  under c f h =
      let a = v.z in
      S_level Z a c (vf v f) (keeps_vf (Slab Z a a) (Slab Z c c) (slab_held Z a a) (slab_held Z c c) v f (self a (there Z)) h)

  -- 1 where c is not below the point's x, and else 0
  abbrev reach : Float → ℤ
  reach c = cond (le v.x c) (pos 1) (pos 0)

  steps : (e : Edge) → count (ve v e) ≡ reach e.end.x -ℤ reach e.start.x
  unfolding S at_least
  steps e = count_ve v e

  -- an edge that is level by x, and one that is level by y
  across : (e : Edge) → e.start.x ≡ e.end.x → S Y (ve v e) ≡ pos 0
  across e same = S_zero Y (ve v e) (steps e ∙ ap (λ c. reach e.end.x -ℤ reach c) same ∙ +ℤ_invr (reach e.end.x))

  past : (c : Float) (e : Edge) → InEdge (Slab Y c c) e → S Y (ve v e) ≡ cond (le v.y c) (reach e.end.x -ℤ reach e.start.x) (pos 0)
  past c e h =
      let a = v.y in
      S_level Y a c (ve v e) (keeps_ve (Slab Y a a) (Slab Y c c) (slab_held Y a a) (slab_held Y c c) v e (self a (there Y)) h)
      ∙ ap (λ n. cond (le a c) n (pos 0)) (steps e)

  module _ (b : Span) (there_b : (w : Bool) (k : Axis) → is_nan (coordinate k (end b w)) ≡ false) where
    abbrev facet_of : ℕ → ℕ → ℕ → Facet
    facet_of p q r = facet_at (corner_point b) along p q r

    abbrev edge_of : ℕ → ℕ → Edge
    edge_of p q = record { start = corner_point b p; end = corner_point b q }

    -- what the facet p, q, r adds to the count, and what the edge p, q does
    abbrev facet_adds : ℕ → ℕ → ℕ → ℤ
    facet_adds p q r = S Z (vf v (facet_of p q r))

    abbrev edge_adds : ℕ → ℕ → ℤ
    edge_adds p q = S Y (ve v (edge_of p q))

    twelve : in_B v (box b)
        ≡ facet_adds 0 6 2 +ℤ (facet_adds 0 4 6 +ℤ (facet_adds 1 3 7 +ℤ (facet_adds 1 7 5
        +ℤ (facet_adds 0 1 5 +ℤ (facet_adds 0 5 4 +ℤ (facet_adds 2 7 3 +ℤ (facet_adds 2 6 7
        +ℤ (facet_adds 0 3 1 +ℤ (facet_adds 0 2 3 +ℤ (facet_adds 4 5 7 +ℤ (facet_adds 4 7 6 +ℤ pos 0)))))))))))
    unfolding the_rule in_B sum_of
    twelve = refl

    -- the ends of an edge and the corners of a facet are level with the bound that they lie at
    two : (w : Bool) (k : Axis) → (let c = coordinate k (end b w) in At c c × At c c)
    two w k = let h = self (coordinate k (end b w)) (there_b w k) in (h, h)

    three : (w : Bool) (k : Axis) → (let c = coordinate k (end b w) in At c c × At c c × At c c)
    three w k = let h = self (coordinate k (end b w)) (there_b w k) in (h, h, h)

    -- a facet of a face by z, by its half-edges
    by_halves : (p q r : ℕ) (c : Float) → InFacet (Slab Z c c) (facet_of p q r)
        → facet_adds p q r ≡ cond (le v.z c) (neg_ℤ (round (corner_point b) along p q r (λ h. S Y (ve v h)))) (pos 0)
    by_halves p q r c h = under c (facet_of p q r) h ∙ ap (λ n. cond (le v.z c) n (pos 0)) (count_vf (corner_point b) along p q r v)

    -- on an axis, what stands where the bound is not below the point
    abbrev to : Bool → Axis → ℤ → ℤ
    to w k n = cond (le (coordinate k v) (coordinate k (end b w))) n (pos 0)

    abbrev by_x : ℤ
    by_x = to true X (pos 1) -ℤ to false X (pos 1)

    abbrev by_xy : ℤ
    by_xy = to true Y by_x -ℤ to false Y by_x

    -- the two triangles of a face by z
    low_face : facet_adds 0 3 1 +ℤ facet_adds 0 2 3 ≡ neg_ℤ (to false Z by_xy)
    unfolding sum_of
    low_face =
        ap₂ ◌+ℤ◌ (by_halves 0 3 1 b.low.z (three false Z)) (by_halves 0 2 3 b.low.z (three false Z))
        ∙ if_both (le v.z b.low.z) _ _
        ∙ ap (to false Z)
        ((λ j. neg_ℤ (edge_adds 0 3 +ℤ (neg_ℤ (across (edge_of 1 3) refl j) +ℤ (neg_ℤ (past b.low.y (edge_of 0 1) (two false Y) j) +ℤ pos 0)))
        +ℤ neg_ℤ (across (edge_of 0 2) refl j +ℤ (past b.high.y (edge_of 2 3) (two true Y) j +ℤ (neg_ℤ (edge_adds 0 3) +ℤ pos 0))))
        ∙ law (edge_adds 0 3) (to false Y by_x) (to true Y by_x))
        ∙ if_less (le v.z b.low.z) by_xy
      where
        law : (d l h : ℤ) → neg_ℤ (d +ℤ (neg_ℤ (pos 0) +ℤ (neg_ℤ l +ℤ pos 0))) +ℤ neg_ℤ (pos 0 +ℤ (h +ℤ (neg_ℤ d +ℤ pos 0))) ≡ neg_ℤ (h -ℤ l)
        law d l h = rw (split d, split l, split h) (simp lin (mk_eq _ _ _ _ (omega arith)))

    high_face : facet_adds 4 5 7 +ℤ facet_adds 4 7 6 ≡ to true Z by_xy
    unfolding sum_of
    high_face =
        ap₂ ◌+ℤ◌ (by_halves 4 5 7 b.high.z (three true Z)) (by_halves 4 7 6 b.high.z (three true Z))
        ∙ if_both (le v.z b.high.z) _ _
        ∙ ap (to true Z)
        ((λ j. neg_ℤ (past b.low.y (edge_of 4 5) (two false Y) j +ℤ (across (edge_of 5 7) refl j +ℤ (neg_ℤ (edge_adds 4 7) +ℤ pos 0)))
        +ℤ neg_ℤ (edge_adds 4 7 +ℤ (neg_ℤ (past b.high.y (edge_of 6 7) (two true Y) j) +ℤ (neg_ℤ (across (edge_of 4 6) refl j) +ℤ pos 0))))
        ∙ law (edge_adds 4 7) (to false Y by_x) (to true Y by_x))
      where
        law : (d l h : ℤ) → neg_ℤ (l +ℤ (pos 0 +ℤ (neg_ℤ d +ℤ pos 0))) +ℤ neg_ℤ (d +ℤ (neg_ℤ h +ℤ (neg_ℤ (pos 0) +ℤ pos 0))) ≡ h -ℤ l
        law d l h = rw (split d, split l, split h) (simp lin (mk_eq _ _ _ _ (omega arith)))

    -- so on each axis, what reaches the high bound less what reaches the low one
    by_axes : in_B v (box b) ≡ to true Z by_xy -ℤ to false Z by_xy
    by_axes =
        twelve
        ∙ (λ j. beside X tt b.low.x (facet_of 0 6 2) (three false X) j
        +ℤ (beside X tt b.low.x (facet_of 0 4 6) (three false X) j
        +ℤ (beside X tt b.high.x (facet_of 1 3 7) (three true X) j
        +ℤ (beside X tt b.high.x (facet_of 1 7 5) (three true X) j
        +ℤ (beside Y tt b.low.y (facet_of 0 1 5) (three false Y) j
        +ℤ (beside Y tt b.low.y (facet_of 0 5 4) (three false Y) j
        +ℤ (beside Y tt b.high.y (facet_of 2 7 3) (three true Y) j
        +ℤ (beside Y tt b.high.y (facet_of 2 6 7) (three true Y) j
        +ℤ (facet_adds 0 3 1 +ℤ (facet_adds 0 2 3 +ℤ (facet_adds 4 5 7 +ℤ (facet_adds 4 7 6 +ℤ pos 0))))))))))))
        ∙ law (facet_adds 0 3 1) (facet_adds 0 2 3) (facet_adds 4 5 7) (facet_adds 4 7 6)
        ∙ ap₂ ◌+ℤ◌ high_face low_face
      where
        law : (k l m n : ℤ) → pos 0 +ℤ (pos 0 +ℤ (pos 0 +ℤ (pos 0 +ℤ (pos 0 +ℤ (pos 0 +ℤ (pos 0 +ℤ (pos 0 +ℤ (k +ℤ (l +ℤ (m +ℤ (n +ℤ pos 0)))))))))))
            ≡ (m +ℤ n) +ℤ (k +ℤ l)
        law k l m n = rw (split k, split l, split m, split n) (simp lin (mk_eq _ _ _ _ (omega arith)))

    module _ (up : (k : Axis) → lt (coordinate k b.low) (coordinate k b.high) ≡ true) where
      -- low < c and c ≤ high, on one axis
      abbrev on : Axis → Bool
      on k = lt (coordinate k b.low) (coordinate k v) && le (coordinate k v) (coordinate k b.high)

      within : (k : Axis) (n : ℤ) → to true k n -ℤ to false k n ≡ cond (on k) n (pos 0)
      within k n =
          let low = coordinate k b.low in
          let high = coordinate k b.high in
          let c = coordinate k v in
          if_between (le c low) (le c high) n (λ h. le_trans c low high h (le_of_lt low high (up k)))
          ∙ ap (λ w. cond (w && le c high) n (pos 0)) (sym (lt_not_le low c (there_b false k) (there k)))

      pub box_count : in_B v (box b) ≡ cond (inside b v) (pos 1) (pos 0)
      unfolding inside every
      box_count =
          by_axes
          ∙ within Z by_xy
          ∙ ap (λ n. cond (on Z) n (pos 0)) (within Y by_x ∙ ap (λ n. cond (on Y) n (pos 0)) (within X (pos 1)))
          ∙ if_all (on X) (on Y) (on Z) (pos 1)
