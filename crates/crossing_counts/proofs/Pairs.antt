-- Vertex with facet, edge with edge, edge with facet, from slim crossings.
use mathlib.Core.Path.{◌≡◌, refl, sym, ap, ap₂, ◌∙◌}
use mathlib.Core.Bool.{Bool, true, false, not, cond}
use mathlib.Core.List.{[], ◌∷◌}
use Prim.Native.Nat.{ℕ, ◌+◌, ◌≤◌}
use native.Mathlib.Omega.{arith}
use mir.Syntax.{w32}
use mir.Val.{SFits}
use Rattle.crossings.proofs.Fits.{fits}
use lib.IntN.{ℤ, neg_ℤ, nat_abs, ◌+ℤ◌, ◌-ℤ◌, +ℤ_idr, neg_ℤ-neg_ℤ}
use Rattle.points.specs.declared.Point.{Point}
use Rattle.points.specs.declared.Axis.TheVariants.{X, Z}
use Rattle.points.proofs.Hold.{Anywhere}
use Rattle.list_words.specs.Lists.{sum_of}
use Rattle.crossings.specs.declared.Edge.{Edge}
use Rattle.crossings.specs.declared.Facet.{Facet}
use Rattle.crossings.specs.declared.Crossing.{Crossing}
use Rattle.crossings.specs.declared.Crossing.TheVariants.{Miss, Cross}
use Rattle.crossings.specs.Crossings.{count, S, against, half, edge_of, ve, ev, vf, fv, ee, ef, fe, lower_vf, lower_fv, lower_ee}
use Rattle.crossings.proofs.Each.{each_vf, each_fv, each_ee}
use Rattle.list_words.proofs.Integers.{Bnd, bnd_add, bnd_neg}
use Rattle.crossings.proofs.Corners.{edge_at, corner, along, one, two, three}
use Rattle.crossings.proofs.Formulas.{count_ef, count_fe}
use Rattle.crossing_counts.specs.Values.{Slim}
use Rattle.crossing_counts.specs.Words.{slim, turned_if, gathered, shade, signed, side_A, side_B}
use Rattle.crossing_counts.specs.Words as Co
use Rattle.crossing_counts.proofs.Slims.{Proper, proper_paired, proper_against, slim_against, shade_is}

proper_ve : (v : Point) (e : Edge) → Proper (ve v e)
unfolding ve
proper_ve v e = proper_paired X _

proper_ev : (e : Edge) (v : Point) → Proper (ev e v)
unfolding ev
proper_ev e v = proper_paired X _

-- ---- half-edges
against_twice : (c : Crossing) → slim (against (against c)) ≡ slim c
against_twice Miss = refl
against_twice (Cross n w) = ap (λ z. slim (Cross z w)) (neg_ℤ-neg_ℤ n)

half_against : (g : Edge → Crossing) (w : Bool) (p q : Point) → turned_if w (slim (g (edge_of w p q))) ≡ slim (half (λ h. against (g h)) w p q)
half_against g true p q = sym (slim_against (g (edge_of true p q)))
half_against g false p q = sym (against_twice (g (edge_of false p q)))

half_along : (g : Edge → Crossing) (w : Bool) (p q : Point) → turned_if (not w) (slim (g (edge_of w p q))) ≡ slim (half g w p q)
half_along g true p q = refl
half_along g false p q = sym (slim_against (g (edge_of false p q)))

listed : {a b c x y z : Slim} → a ≡ x → b ≡ y → c ≡ z → shade (gathered (a ∷ b ∷ c ∷ [])) ≡ shade (gathered (x ∷ y ∷ z ∷ []))
listed d e f = rw (d, e, f)

pub vf_is : (v : Point) (f : Facet)
    → Co.three f.pq (slim (ve v (edge_of f.pq f.p f.q))) f.qr (slim (ve v (edge_of f.qr f.q f.r))) f.rp (slim (ve v (edge_of f.rp f.r f.p))) ≡ S Z (vf v f)
unfolding vf Co.three
vf_is v f =
    listed (half_against (ve v) f.pq f.p f.q) (half_against (ve v) f.qr f.q f.r) (half_against (ve v) f.rp f.r f.p)
    ∙ shade_is (lower_vf v f) (each_vf Proper proper_against v f Anywhere (tt, tt, tt) (λ h c. proper_ve v h))

pub fv_is : (f : Facet) (v : Point)
    → Co.three (not f.pq) (slim (ev (edge_of f.pq f.p f.q) v)) (not f.qr) (slim (ev (edge_of f.qr f.q f.r) v)) (not f.rp) (slim (ev (edge_of f.rp f.r f.p) v)) ≡ S Z (fv f v)
unfolding fv Co.three
fv_is f v =
    listed (half_along (λ h. ev h v) f.pq f.p f.q) (half_along (λ h. ev h v) f.qr f.q f.r) (half_along (λ h. ev h v) f.rp f.r f.p)
    ∙ shade_is (lower_fv f v) (each_fv Proper proper_against f v Anywhere (tt, tt, tt) (λ h c. proper_ev h v))

ee_is : (a b : Edge) → Co.four (slim (ve a.start b)) (slim (ve a.end b)) (slim (ev a b.start)) (slim (ev a b.end)) ≡ S Z (ee a b)
unfolding ee Co.four
ee_is a b =
    rw (← slim_against (ve a.start b), ← slim_against (ev a b.start))
    (shade_is (lower_ee a b) (each_ee Proper proper_against a b (proper_ve a.start b) (proper_ve a.end b) (proper_ev a b.start) (proper_ev a b.end)))

pub side_B_is : (e : Edge) (w : Bool) (p q : Point)
    → side_B w (slim (ve e.start (edge_of w p q))) (slim (ve e.end (edge_of w p q))) (slim (ev e p)) (slim (ev e q)) ≡ signed w (S Z (ee e (edge_of w p q)))
side_B_is e true p q = ee_is e (record { start = p; end = q })
side_B_is e false p q = ap neg_ℤ (ee_is e (record { start = q; end = p }))

pub side_A_is : (e : Edge) (w : Bool) (p q : Point)
    → side_A w (slim (ve p e)) (slim (ve q e)) (slim (ev (edge_of w p q) e.start)) (slim (ev (edge_of w p q) e.end)) ≡ signed w (S Z (ee (edge_of w p q) e))
side_A_is e true p q = ee_is (record { start = p; end = q }) e
side_A_is e false p q = ap neg_ℤ (ee_is (record { start = q; end = p }) e)

-- ---- edge with facet
sgn_is : (F : Edge → ℤ) (w : Bool) {N : Type 0} (point : N → Point) (p q : N)
    → (let n = F (edge_at point (cond w (p, q) (q, p))) in cond w n (neg_ℤ n)) ≡ signed w (F (edge_of w (point p) (point q)))
sgn_is F true point p q = refl
sgn_is F false point p q = refl

pub count_ef_is : (e : Edge) (f : Facet) → count (ef e f)
    ≡ S Z (vf e.start f) -ℤ S Z (vf e.end f)
    -ℤ (signed f.pq (S Z (ee e (edge_of f.pq f.p f.q))) +ℤ (signed f.qr (S Z (ee e (edge_of f.qr f.q f.r))) +ℤ signed f.rp (S Z (ee e (edge_of f.rp f.r f.p)))))
unfolding sum_of
count_ef_is e f =
    let F : Edge → ℤ = λ h. S Z (ee e h) in
    count_ef (corner f) (along f) one two three e
    ∙ ap (λ z. S Z (vf e.start f) -ℤ S Z (vf e.end f) -ℤ z)
    (ap₂ ◌+ℤ◌ (sgn_is F f.pq (corner f) one two) (ap₂ ◌+ℤ◌ (sgn_is F f.qr (corner f) two three) (+ℤ_idr _ ∙ sgn_is F f.rp (corner f) three one)))

pub count_fe_is : (f : Facet) (e : Edge) → count (fe f e)
    ≡ S Z (fv f e.end) -ℤ S Z (fv f e.start)
    -ℤ (signed f.pq (S Z (ee (edge_of f.pq f.p f.q) e)) +ℤ (signed f.qr (S Z (ee (edge_of f.qr f.q f.r) e)) +ℤ signed f.rp (S Z (ee (edge_of f.rp f.r f.p) e))))
unfolding sum_of
count_fe_is f e =
    let F : Edge → ℤ = λ h. S Z (ee h e) in
    count_fe (corner f) (along f) one two three e
    ∙ ap (λ z. S Z (fv f e.end) -ℤ S Z (fv f e.start) -ℤ z)
    (ap₂ ◌+ℤ◌ (sgn_is F f.pq (corner f) one two) (ap₂ ◌+ℤ◌ (sgn_is F f.qr (corner f) two three) (+ℤ_idr _ ∙ sgn_is F f.rp (corner f) three one)))

-- ---- of equal parts
pub three_same : (s t u : Bool) {a b c x y z : Slim} → a ≡ x → b ≡ y → c ≡ z → Co.three s a t b u c ≡ Co.three s x t y u z
three_same s t u d e f = rw (d, e, f)

pub side_B_same : (w : Bool) {a b c d x y z v : Slim} → a ≡ x → b ≡ y → c ≡ z → d ≡ v → side_B w a b c d ≡ side_B w x y z v
side_B_same w e f g h = rw (e, f, g, h)

pub side_A_same : (w : Bool) {a b c d x y z v : Slim} → a ≡ x → b ≡ y → c ≡ z → d ≡ v → side_A w a b c d ≡ side_A w x y z v
side_A_same w e f g h = rw (e, f, g, h)

pub total_same : {a b c d e s t x y z : ℤ} → a ≡ s → b ≡ t → c ≡ x → d ≡ y → e ≡ z → a -ℤ b -ℤ (c +ℤ (d +ℤ e)) ≡ s -ℤ t -ℤ (x +ℤ (y +ℤ z))
total_same f g h i j = rw (f, g, h, i, j)

pub small_sub : (m n : ℕ) (a b : ℤ) → Bnd m a → Bnd n b → Bnd (m + n) (a -ℤ b)
small_sub m n a b h k = bnd_add m n a (neg_ℤ b) h (bnd_neg n b k)

-- ---- five small numbers as i32
module _ (a b x y z : ℤ) (p : (nat_abs a ≤ 4) × (nat_abs b ≤ 4) × (nat_abs x ≤ 4) × (nat_abs y ≤ 4) × (nat_abs z ≤ 4)) where
  pub fits_ab : SFits w32 (a -ℤ b)
  fits_ab = fits (a -ℤ b) (omega (arith, small_sub 4 4 a b p.0 p.1))

  pub fits_yz : SFits w32 (y +ℤ z)
  fits_yz = fits (y +ℤ z) (omega (arith, bnd_add 4 4 y z p.3 p.4))

  pub fits_xyz : SFits w32 (x +ℤ (y +ℤ z))
  fits_xyz = fits (x +ℤ (y +ℤ z)) (omega (arith, bnd_add 4 8 x (y +ℤ z) p.2 (bnd_add 4 4 y z p.3 p.4)))

  pub fits_all : SFits w32 (a -ℤ b -ℤ (x +ℤ (y +ℤ z)))
  fits_all =
      fits (a -ℤ b -ℤ (x +ℤ (y +ℤ z)))
      (omega (arith, small_sub 8 12 (a -ℤ b) (x +ℤ (y +ℤ z)) (small_sub 4 4 a b p.0 p.1) (bnd_add 4 8 x (y +ℤ z) p.2 (bnd_add 4 4 y z p.3 p.4))))
