-- A passed solid has at most three edges for two facets: each edge has two half-edges at least, and each half-edge one edge.
use mathlib.Core.Path.{◌≡◌, refl, sym, ap, ◌∙◌}
use mathlib.Core.Logic.{◌≢◌, ◌⊎◌, inl, inr}
use mathlib.Core.Bool.{Bool, true, false}
use mathlib.Core.List.{List, [], ◌∷◌}
use Prim.Native.Nat.{ℕ, ◌+◌, ◌*◌, ◌<◌, ◌≤◌}
use native.Mathlib.Omega.{arith}
use lib.Dec.{eqb, eqb→eq, eqb_refl}
use lib.ListN.{length}
use Rattle.list_words.specs.Lists.{up_to, one_if, times, turned}
use Rattle.list_words.proofs.Sums.{All, all_mono}
use Rattle.list_words.proofs.Tests.{T_of}
use Rattle.list_words.proofs.UpTo.{Distinct, length_up_to}
use Rattle.list_words.proofs.Closed.{same_half_sound}
use Rattle.list_words.proofs.Threes.{length_threes}
use Rattle.solids.specs.Solids.{Solid, Half, facets, same_half, half_edges, number_of, edges, corner}
use Rattle.solids.proofs.Admitted.{Passed}
use Rattle.solids.proofs.Shut.{IsEdge, all_edges, edges_distinct}

abbrev total : (Half → ℕ) → List Half → ℕ
total f [] = 0
total f (e ∷ es) = f e + total f es

total_add : (f g : Half → ℕ) (es : List Half) → total (λ e. f e + g e) es ≡ total f es + total g es
total_add f g [] = refl
total_add f g (e ∷ es) = omega (arith, total_add f g es)

total_zero : (f : Half → ℕ) (es : List Half) → All (λ e. f e ≡ 0) es → total f es ≡ 0
total_zero f [] a = refl
total_zero f (e ∷ es) a = omega (arith, a.0, total_zero f es a.1)

-- how often e and e turned round stand in a list
abbrev both : List Half → Half → ℕ
both hs e = number_of e hs + number_of (turned e) hs

-- ---- one half-edge is one edge's
abbrev hits : Half → Half → ℕ
hits h e = one_if (same_half e h) + one_if (same_half (turned e) h)

sound : (e h : Half) → same_half e h ≡ true → e ≡ h
sound e h t = same_half_sound eqb eqb→eq eqb_refl e h (T_of (same_half e h) t)

-- it hits an edge that rises at most once, and no other one
hit_one : (h e : Half) → e.0 < e.1 → (hits h e ≡ 0) ⊎ ((hits h e ≡ 1) × ((d : Half) → d.0 < d.1 → e ≢ d → hits h d ≡ 0))
hit_one h e r = go (same_half e h) (same_half (turned e) h) refl refl
  where
    none : (d : Half) → (d ≡ h → ⊥) → (turned d ≡ h → ⊥) → hits h d ≡ 0
    none d p q = by (same_half d h) (same_half (turned d) h) refl refl
      where
        by : (x y : Bool) → same_half d h ≡ x → same_half (turned d) h ≡ y → one_if x + one_if y ≡ 0
        by true y u v = absurd (p (sound d h u))
        by false true u v = absurd (q (sound (turned d) h v))
        by false false u v = refl

    go : (x y : Bool) → same_half e h ≡ x → same_half (turned e) h ≡ y
        → (one_if x + one_if y ≡ 0) ⊎ ((one_if x + one_if y ≡ 1) × ((d : Half) → d.0 < d.1 → e ≢ d → hits h d ≡ 0))
    go false false u v = inl refl
    go true true u v =
        let p = sound e h u in
        let q = sound (turned e) h v in
        absurd (omega (arith, ap (λ (k : Half). k.0) p, ap (λ (k : Half). k.0) q))
    go true false u v =
        let p = sound e h u in
        inr (refl, λ d s n. none d (λ z. n (p ∙ sym z)) (λ z. omega (arith, ap (λ (k : Half). k.0) (p ∙ sym z), ap (λ (k : Half). k.1) (p ∙ sym z))))
    go false true u v =
        let p = sound (turned e) h v in
        inr (refl, λ d s n. none d (λ z. omega (arith, ap (λ (k : Half). k.0) (p ∙ sym z), ap (λ (k : Half). k.1) (p ∙ sym z))) (λ z. n (ap turned (p ∙ sym z))))

abbrev Rising : Half → Type 0
Rising e = e.0 < e.1

total_hits : (h : Half) (es : List Half) → All Rising es → Distinct es → total (hits h) es ≤ 1
total_hits h [] r d = omega arith
total_hits h (e ∷ es) r d = elim (hit_one h e r.0) [
  | inl z ↦ omega (arith, z, total_hits h es r.1 d.1)
  | inr o ↦ omega (arith, o.0, total_zero (hits h) es (apart es r.1 d.0 o.1))
]
  where
    apart : (es : List Half) → All Rising es → All (λ x. e ≢ x) es → ((d : Half) → d.0 < d.1 → e ≢ d → hits h d ≡ 0) → All (λ d. hits h d ≡ 0) es
    apart [] r n f = tt
    apart (x ∷ es) r n f = (f x r.0 n.0, apart es r.1 n.1 f)

-- ---- all half-edges
total_both : (hs es : List Half) → All Rising es → Distinct es → total (both hs) es ≤ length hs
unfolding times
total_both [] es r d = omega (arith, zeros es)
  where
    zeros : (es : List Half) → total (λ e. 0 + 0) es ≡ 0
    zeros [] = refl
    zeros (e ∷ es) = omega (arith, zeros es)
total_both (h ∷ hs) es r d = omega (arith, split es, total_add (hits h) (both hs) es, total_hits h es r d, total_both hs es r d)
  where
    split : (es : List Half) → total (both (h ∷ hs)) es ≡ total (λ e. hits h e + both hs e) es
    split [] = refl
    split (e ∷ es) = omega (arith, split es)

twice : (f : Half → ℕ) (es : List Half) → All (λ e. 2 ≤ f e) es → 2 * length es ≤ total f es
twice f [] a = omega arith
twice f (e ∷ es) a = omega (arith, a.0, twice f es a.1)

pub length_half_edges : (s : Solid) → length (half_edges s) ≡ 3 * facets s
unfolding half_edges
length_half_edges s =
    length_threes (λ f. (corner s f 0, corner s f 1)) (λ f. (corner s f 1, corner s f 2)) (λ f. (corner s f 2, corner s f 0)) (up_to (facets s))
    ∙ ap (λ n. 3 * n) (length_up_to (facets s))

pub edges_room : (s : Solid) → Passed s → 2 * length (edges s) ≤ 3 * facets s
edges_room s p =
    let all = all_edges s in
    let rising = all_mono (IsEdge s) Rising (edges s) (λ e i. i.rises) all in
    let two = all_mono (IsEdge s) (λ e. 2 ≤ both (half_edges s) e) (edges s) (λ e i. omega (arith, i.joined, p.closed e)) all in
    omega (arith, twice (both (half_edges s)) (edges s) two, total_both (half_edges s) (edges s) rising (edges_distinct s), length_half_edges s)
