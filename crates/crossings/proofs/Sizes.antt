-- How large counts are, for all points, edges and facets, whatever their numbers are: at most 1 for ve, ev, vf, fv and ee, at most 2 for ef and fe;
-- and S is never larger than its count. The reason is one: the lower counts add up to 0, so what S keeps of them and what it drops are as large as
-- each other, and S keeps at most half.
use mathlib.Core.Path.{◌≡◌, refl, ap, ◌∙◌, subst}
use mathlib.Core.Logic.{◌⊎◌, inl, inr}
use Prim.Native.Nat.{ℕ, ◌+◌, ◌*◌, ◌≤◌}
use native.Mathlib.Nat.{le_refl}
use native.Mathlib.Omega.{arith}
use mathlib.Core.Bool.{Bool, true, false, cond}
use mathlib.Core.List.{List, [], ◌∷◌}
use lib.ListN.{length}
use lib.Ieee.{Float, le}
use lib.IntN.{ℤ, pos, neg_ℤ, ◌-ℤ◌, nat_abs, +ℤ_idl, +ℤ_idr, +ℤ_invr, neg_ℤ-neg_ℤ}
use Rattle.list_words.specs.Lists.{sum_of}
use Rattle.list_words.proofs.Integers.{Bnd, bnd_add, bnd_neg, bnd_zero}
use Rattle.list_words.proofs.Sums.{All, sum_sub}
use Rattle.list_words.proofs.Tests.{never}
use Rattle.points.specs.declared.Point.{Point}
use Rattle.points.specs.declared.Axis.{Axis}
use Rattle.points.specs.declared.Axis.TheVariants.{X, Y, Z}
use Rattle.points.specs.Points.{at_least}
use Rattle.points.proofs.Order.{le_trans, le_of_lt, not_le, left_number, right_number}
use Rattle.points.proofs.Hold.{Anywhere}
use Rattle.crossings.specs.declared.Edge.{Edge}
use Rattle.crossings.specs.declared.Facet.{Facet}
use Rattle.crossings.specs.declared.Crossing.{Crossing}
use Rattle.crossings.specs.declared.Crossing.TheVariants.{Miss, Cross}
use Rattle.crossings.specs.Crossings.{count, S, against, paired, vv, ve, ev, vf, fv, ee, ef, fe, lower_ve, lower_ev, lower_vf, lower_fv, lower_ee, lower_ef, lower_fe}
use Rattle.crossings.proofs.Formulas.{count_paired, count_against, count_ve, count_ev}
use Rattle.crossings.proofs.Lower.{zero_ve, zero_ev, zero_vf, zero_fv, zero_ee, zero_ef, zero_fe}
use Rattle.crossings.proofs.Each.{each_vf, each_fv, each_ee, each_ef, each_fe}

-- ---- sizes of lower pairings
unfoldable pub sizes : (Crossing → ℤ) → List Crossing → ℕ
sizes φ [] = 0
sizes φ (c ∷ cs) = nat_abs (φ c) + sizes φ cs

sum_size : (φ : Crossing → ℤ) (cs : List Crossing) → Bnd (sizes φ cs) (sum_of φ cs)
unfolding sum_of sizes
sum_size φ [] = bnd_zero
sum_size φ (c ∷ cs) = bnd_add (nat_abs (φ c)) (sizes φ cs) (φ c) (sum_of φ cs) (le_refl (nat_abs (φ c))) (sum_size φ cs)

-- S keeps a count or drops it
kept_dropped : (k : Axis) (c : Crossing) → nat_abs (S k c) + nat_abs (count c -ℤ S k c) ≡ nat_abs (count c)
unfolding S
kept_dropped k Miss = refl
kept_dropped k (Cross n w) = go (at_least k w)
  where
    go : (b : Bool) → nat_abs (cond b n (pos 0)) + nat_abs (n -ℤ cond b n (pos 0)) ≡ nat_abs n
    go true = rw (+ℤ_invr n) (omega arith)
    go false = rw (+ℤ_idr n) (omega arith)

sizes_split : (k : Axis) (cs : List Crossing) → sizes (S k) cs + sizes (λ c. count c -ℤ S k c) cs ≡ sizes count cs
unfolding sizes
sizes_split k [] = refl
sizes_split k (c ∷ cs) = omega (arith, kept_dropped k c, sizes_split k cs)

pub S_size : (k : Axis) (n : ℕ) (c : Crossing) → Bnd n (count c) → Bnd n (S k c)
S_size k n c h = omega (arith, kept_dropped k c)

pub half_of : (k : Axis) (cs : List Crossing) → sum_of count cs ≡ pos 0 → nat_abs (count (paired k cs)) * 2 ≤ sizes count cs
half_of k cs z =
    let s = sum_of (S k) cs in
    let dropped : Crossing → ℤ = λ c. count c -ℤ S k c in
    let e : neg_ℤ (sum_of dropped cs) ≡ s = ap neg_ℤ (sum_sub count (S k) cs ∙ ap (λ x. x -ℤ s) z ∙ +ℤ_idl (neg_ℤ s)) ∙ neg_ℤ-neg_ℤ s in
    let b : Bnd (sizes dropped cs) s = subst (Bnd (sizes dropped cs)) e (bnd_neg (sizes dropped cs) (sum_of dropped cs) (sum_size dropped cs)) in
    rw (count_paired k cs) (omega (arith, sum_size (S k) cs, sizes_split k cs))

-- ---- at most 1
abbrev pub Small : Crossing → Type 0
Small c = Bnd 1 (count c)

small_against : (c : Crossing) → Small c → Small (against c)
small_against c h = rw (count_against c) (bnd_neg 1 (count c) h)

sizes_small : (cs : List Crossing) → All Small cs → sizes count cs ≤ length cs
unfolding sizes
sizes_small [] h = omega arith
sizes_small (c ∷ cs) h = omega (arith, sizes_small cs h.1)

half_of_small : (k : Axis) (cs : List Crossing) → sum_of count cs ≡ pos 0 → All Small cs → nat_abs (count (paired k cs)) * 2 ≤ length cs
half_of_small k cs z h = omega (arith, half_of k cs z, sizes_small cs h)

pub small_ve : (v : Point) (e : Edge) → Small (ve v e)
unfolding ve sizes
small_ve v e = omega (arith, half_of X (lower_ve v e) (zero_ve v e))

pub small_ev : (e : Edge) (v : Point) → Small (ev e v)
unfolding ev sizes
small_ev e v = omega (arith, half_of X (lower_ev e v) (zero_ev e v))

pub small_vf : (v : Point) (f : Facet) → Small (vf v f)
unfolding vf
small_vf v f = omega (arith, half_of_small Y (lower_vf v f) (zero_vf v f) (each_vf Small small_against v f Anywhere (tt, tt, tt) (λ h c. small_ve v h)))

pub small_fv : (f : Facet) (v : Point) → Small (fv f v)
unfolding fv
small_fv f v = omega (arith, half_of_small Y (lower_fv f v) (zero_fv f v) (each_fv Small small_against f v Anywhere (tt, tt, tt) (λ h c. small_ev h v)))

-- ---- two edges: of the four lower pairings one misses, as their four comparisons of x are of one order
no_square : (s e p q : Float) → le s p ≡ true → le s q ≡ false → le e p ≡ false → le e q ≡ true → ⊥
no_square s e p q sp sq ep eq =
    never (le e p) (le_trans e q p eq (le_trans q s p (le_of_lt q s (not_le q s (right_number e q eq) (left_number s p sp) sq)) sp)) ep

-- of start with start, start with end, end with start, end with end
one_level : (ss sn ns nn : Bool) → (ss ≡ true → sn ≡ false → ns ≡ false → nn ≡ true → ⊥) → (ss ≡ false → sn ≡ true → ns ≡ true → nn ≡ false → ⊥)
    → (ss ≡ sn) ⊎ (ns ≡ nn) ⊎ (ss ≡ ns)
one_level true true ns nn f g = inl refl
one_level false false ns nn f g = inl refl
one_level true false true nn f g = inr (inr refl)
one_level false true false nn f g = inr (inr refl)
one_level true false false false f g = inr (inl refl)
one_level false true true true f g = inr (inl refl)
one_level true false false true f g = absurd (f refl refl refl refl)
one_level false true true false f g = absurd (g refl refl refl refl)

abbrev test : Point → Point → Bool
test a b = at_least X (record { a = a; b = b })

level_ve : (v : Point) (e : Edge) → test v e.start ≡ test v e.end → count (ve v e) ≡ pos 0
unfolding S
level_ve v e h = count_ve v e ∙ rw h (+ℤ_invr (S X (vv v e.end)))

level_ev : (e : Edge) (v : Point) → test e.start v ≡ test e.end v → count (ev e v) ≡ pos 0
unfolding S
level_ev e v h = count_ev e v ∙ rw h (+ℤ_invr (S X (vv e.end v)))

sizes_ee : (a b : Edge) → sizes count (lower_ee a b) ≤ 3
unfolding sizes at_least
sizes_ee a b =
    let small = each_ee Small small_against a b (small_ve a.start b) (small_ve a.end b) (small_ev a b.start) (small_ev a b.end) in
    let level =
    one_level (test a.start b.start) (test a.start b.end) (test a.end b.start) (test a.end b.end) (no_square _ _ _ _)
    (λ ss sn ns nn. no_square _ _ _ _ sn ss nn ns) in
    elim level [
      | inl e ↦ let z = ap nat_abs (count_against (ve a.start b) ∙ ap neg_ℤ (level_ve a.start b e)) in omega arith
      | inr (inl e) ↦ let z = ap nat_abs (level_ve a.end b e) in omega arith
      | inr (inr e) ↦ let z = ap nat_abs (count_against (ev a b.start) ∙ ap neg_ℤ (level_ev a b.start e)) in omega arith
    ]

pub small_ee : (a b : Edge) → Small (ee a b)
unfolding ee
small_ee a b = omega (arith, half_of Y (lower_ee a b) (zero_ee a b), sizes_ee a b)

-- ---- at most 2: five lower pairings
pub two_ef : (e : Edge) (f : Facet) → Bnd 2 (count (ef e f))
unfolding ef
two_ef e f =
    let h =
    half_of_small Z (lower_ef e f) (zero_ef e f)
    (each_ef Small small_against e f (small_vf e.start f) (small_vf e.end f) Anywhere (tt, tt, tt) (λ h c. small_ee e h)) in
    omega arith

pub two_fe : (f : Facet) (e : Edge) → Bnd 2 (count (fe f e))
unfolding fe
two_fe f e =
    let h =
    half_of_small Z (lower_fe f e) (zero_fe f e)
    (each_fe Small small_against f e (small_fv f e.start) (small_fv f e.end) Anywhere (tt, tt, tt) (λ h c. small_ee h e)) in
    omega arith
