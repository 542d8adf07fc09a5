-- What is gathered from slim crossings gives S by z of the pairing that they are the lower ones of.
use mathlib.Core.Path.{◌≡◌, refl, sym, ap, ◌∙◌}
use mathlib.Core.Bool.{Bool, true, false, not, cond}
use mathlib.Core.List.{List, [], ◌∷◌, map}
use lib.IntN.{ℤ, pos, negsuc, neg_ℤ, ◌+ℤ◌, +ℤ_idl}
use lib.Ieee.{le}
use Prim.Native.Nat.{zero, suc}
use Rattle.list_words.specs.Lists.{sum_of, nonzero}
use Rattle.list_words.proofs.Sums.{All}
use Rattle.points.specs.declared.PointPair.{PointPair}
use Rattle.points.specs.declared.Axis.{Axis}
use Rattle.points.specs.declared.Axis.TheVariants.{X, Y, Z}
use Rattle.points.specs.Points.{at_least, gap, placed, pair_at, point_at}
use Rattle.crossings.specs.declared.Crossing.{Crossing}
use Rattle.crossings.specs.declared.Crossing.TheVariants.{Miss, Cross}
use Rattle.crossings.specs.Crossings.{points, S, against, lies, first, crossing, paired}
use Rattle.crossing_counts.specs.declared.Sum.{Sum}
use Rattle.crossing_counts.specs.Values.{Slim}
use Rattle.crossing_counts.specs.Words.{slim, ends, turned, with, gathered, counted, shade}

-- a crossing has a count that is not 0
abbrev pub Proper : Crossing → Type 0
Proper Miss = Unit {0}
Proper (Cross n w) = nonzero n ≡ true

pub proper_paired : (k : Axis) (cs : List Crossing) → Proper (paired k cs)
unfolding paired crossing
proper_paired k cs = go (sum_of (S k) cs)
  where
    go : (n : ℤ) → Proper (cond (nonzero n) (Cross n (placed k (points (first k true cs)) (points (first k false cs)))) Miss)
    go (pos zero) = tt
    go (pos (suc n)) = refl
    go (negsuc n) = refl

nonzero_neg : (n : ℤ) → nonzero (neg_ℤ n) ≡ nonzero n
nonzero_neg (pos zero) = refl
nonzero_neg (pos (suc n)) = refl
nonzero_neg (negsuc n) = refl

pub proper_against : (c : Crossing) → Proper c → Proper (against c)
proper_against Miss h = tt
proper_against (Cross n w) h = nonzero_neg n ∙ h

pub slim_against : (c : Crossing) → slim (against c) ≡ turned (slim c)
slim_against Miss = refl
slim_against (Cross n w) = refl

-- ---- the sum of S, the first plus and the first minus
abbrev pub of_all : List Crossing → Sum
of_all cs = record { n = sum_of (S Y) cs; plus = slim (first Y true cs); minus = slim (first Y false cs) }

with_one : (c : Crossing) (cs : List Crossing) → Proper c → with (slim c) (of_all cs) ≡ of_all (c ∷ cs)
unfolding with sum_of S first lies at_least
with_one Miss cs h = ap (λ z. record { n = z; plus = slim (first Y true cs); minus = slim (first Y false cs) }) (sym (+ℤ_idl (sum_of (S Y) cs)))
with_one (Cross n w) cs h = rw h (go (le w.a.y w.b.y))
  where
    go : (b : Bool) → ◌≡◌ {A = Sum} (cond b (record { n = n +ℤ sum_of (S Y) cs; plus = slim (Cross n w); minus = slim (first Y false cs) }) (record { n = sum_of (S Y) cs; plus = slim (first Y true cs); minus = slim (Cross n w) }))
        (record { n = cond b n (pos 0) +ℤ sum_of (S Y) cs; plus = slim (cond b (Cross n w) (first Y true cs)); minus = slim (cond (not b) (Cross n w) (first Y false cs)) })
    go true = refl
    go false = ap (λ z. record { n = z; plus = slim (first Y true cs); minus = slim (Cross n w) }) (sym (+ℤ_idl (sum_of (S Y) cs)))

pub gathered_is : (cs : List Crossing) → All Proper cs → gathered (map slim cs) ≡ of_all cs
unfolding gathered sum_of first
gathered_is [] h = refl
gathered_is (c ∷ cs) h = ap (with (slim c)) (gathered_is cs h.1) ∙ with_one c cs h.0

shade_of_all : (cs : List Crossing) → shade (of_all cs) ≡ S Z (paired Y cs)
unfolding shade paired crossing S at_least placed pair_at point_at gap
shade_of_all cs = go (nonzero (sum_of (S Y) cs))
  where
    go : (b : Bool) → cond b (cond (at_least Z (placed Y (points (first Y true cs)) (points (first Y false cs)))) (sum_of (S Y) cs) (pos 0)) (pos 0)
        ≡ S Z (cond b (Cross (sum_of (S Y) cs) (placed Y (points (first Y true cs)) (points (first Y false cs)))) Miss)
    go true = refl
    go false = refl

pub shade_is : (cs : List Crossing) → All Proper cs → shade (gathered (map slim cs)) ≡ S Z (paired Y cs)
shade_is cs h = ap shade (gathered_is cs h) ∙ shade_of_all cs

-- ---- the sum alone: where it is 0, S is 0 whatever is plus and minus
with_count : (c : Slim) (g : Sum) → (with c g).n ≡ counted c +ℤ g.n
unfolding with
with_count c g = go c.n (le c.ay c.by)
  where
    go : (n : ℤ) (b : Bool) → (cond {A = Sum} (nonzero n) (cond b (record { n = n +ℤ g.n; plus = c; minus = g.minus }) (record { n = g.n; plus = g.plus; minus = c })) g).n ≡ cond b n (pos 0) +ℤ g.n
    go (pos zero) true = sym (+ℤ_idl g.n)
    go (pos zero) false = sym (+ℤ_idl g.n)
    go (pos (suc n)) true = refl
    go (pos (suc n)) false = sym (+ℤ_idl g.n)
    go (negsuc n) true = refl
    go (negsuc n) false = sym (+ℤ_idl g.n)

gathered_count : (cs : List Slim) → (gathered cs).n ≡ sum_of counted cs
unfolding gathered sum_of
gathered_count [] = refl
gathered_count (c ∷ cs) = with_count c (gathered cs) ∙ ap (λ z. counted c +ℤ z) (gathered_count cs)

pub shade_none : (cs : List Slim) → nonzero (sum_of counted cs) ≡ false → shade (gathered cs) ≡ pos 0
unfolding shade
shade_none cs h = rw (gathered_count cs, h)

-- ---- a vertex with an edge, by its two comparisons
abbrev pub told : Bool → PointPair → PointPair → Bool → Bool → Crossing
told rising p q true true = Miss
told rising p q true false = Cross (cond rising (negsuc 0) (pos 1)) (placed X p q)
told rising p q false true = Cross (cond rising (pos 1) (negsuc 0)) (placed X q p)
told rising p q false false = Miss

pub told_is : (rising : Bool) (p q : PointPair) (a b : Bool) → at_least X p ≡ a → at_least X q ≡ b → paired X (ends rising p q) ≡ told rising p q a b
unfolding paired crossing sum_of S first lies
told_is true p q true true d e = rw (d, e)
told_is true p q true false d e = rw (d, e)
told_is true p q false true d e = rw (d, e)
told_is true p q false false d e = rw (d, e)
told_is false p q true true d e = rw (d, e)
told_is false p q true false d e = rw (d, e)
told_is false p q false true d e = rw (d, e)
told_is false p q false false d e = rw (d, e)
