-- Marks are only added: what the loops that mark have done so far.
use mathlib.Core.Path.{◌≡◌, refl}
use mathlib.Core.Bool.{Bool, true, false}
use mathlib.Core.List.{List}
use Prim.Native.Nat.{ℕ, ◌+◌, ◌*◌, ◌<◌, ◌≤◌}
use native.Mathlib.Omega.{arith}
use native.Mathlib.Decide.{dec_lt}
use borrow.Author.Tests.{lt-ltb, le-ltb}
use lib.ListN.{get_or}
use Rattle.list_words.proofs.Tests.{never}
use Rattle.layouts.specs.declared.Sizes.{Sizes}
use Rattle.vertex_table.specs.Words.{others}
use Rattle.marks.specs.Words.{marked}
use Rattle.kept_lists.specs.Words.{line_row, line_many, facet_row, mirror, More, Listed, Spread}

pub more_then : {a b c : List ℕ} → More a b → More b c → More a c
more_then f g = record { keeps = λ j t. g.keeps j (f.keeps j t) }

-- what is not marked was not
pub not_before : {old new : List ℕ} → More old new → (j : ℕ) → marked new j ≡ false → marked old j ≡ false
not_before {old} {new} m j q = go (marked old j) refl
  where
    go : (b : Bool) → marked old j ≡ b → b ≡ false
    go false e = refl
    go true e = absurd (never (marked new j) (m.keeps j e) q)

-- ---- by facet
module _ {z : Sizes} {hs old : List ℕ} {x h : ℕ} where
  pub spread_more : {l l' : List ℕ} {n : ℕ} → More l l' → Spread z hs old l x h n → Spread z hs old l' x h n
  spread_more m f = record { each = λ i k t. let r = f.each i k t in (m.keeps (256 * facet_row z x + i) r.0, m.keeps (mirror z x i) r.1) }

-- if what more marks said is marked, so is what fewer said
spread_old : {z : Sizes} {hs old old' l : List ℕ} {x h n : ℕ} → More old old' → Spread z hs old' l x h n → Spread z hs old l x h n
spread_old {z} {hs} {old} {old'} {l} {x} {h} m f = record { each = λ i k t. f.each i k (m.keeps (256 * line_row hs z h + i) t) }

-- facet x's half-edges cross as many facets as x does
pub many_others : (z : Sizes) (x h : ℕ) → 3 * x ≤ h → h < 3 * x + 3 → line_many z h ≡ others z x
many_others z x h a b = elim (dec_lt x z.fa) [
  | yes k ↦ let l : h < 3 * z.fa = omega arith in rw (lt-ltb _ _ k, lt-ltb _ _ l)
  | no n ↦ let k : z.fa ≤ x = omega arith in let l : 3 * z.fa ≤ h = omega arith in rw (le-ltb _ _ k, le-ltb _ _ l)
]

-- every row, and every half-edge, so far
pub record RowsSoFar (z : Sizes) (first crossed l : List ℕ) (n : ℕ) : Type 0 where
  pub each : (r : ℕ) → r < n → Listed z first crossed l r (get_or first (r + 1) 0)

pub record HalvesSoFar (z : Sizes) (hs old l : List ℕ) (n : ℕ) : Type 0 where
  pub each : (x h : ℕ) → h < n → 3 * x ≤ h → h < 3 * x + 3 → Spread z hs old l x h (others z x)

pub halves_more : {z : Sizes} {hs old l l' : List ℕ} {n x : ℕ} → HalvesSoFar z hs old l n → More old l → More l l' → 3 * x ≤ n → n < 3 * x + 3 → Spread z hs l l' x n (others z x)
    → HalvesSoFar z hs old l' (n + 1)
halves_more {n = n} {x} f m m' p q s = record {
  each = λ y h k a b. elim (dec_lt h n) [
    | yes i ↦ spread_more m' (f.each y h i a b)
    | no j ↦ let e : h ≡ n = omega arith in let d : y ≡ x = omega arith in rw (e, d) (spread_old m s)
  ];
}
