-- A house file's grammar: vertices, then facets, then the end. Some bytes have a layout exactly if they follow it.
use mathlib.Core.Path.{◌≡◌, refl, ap, ◌∙◌, subst}
use mathlib.Core.Bool.{Bool, true, false}
use mathlib.Core.List.{List, [], ◌∷◌, ◌++◌, flat_map}
use Prim.Native.Nat.{ℕ, zero, suc, ◌+◌}
use lib.ListN.{length, drop}
use lib.Ieee.{Float}
use Rattle.std.specs.Prelude.{Option, Some, None}
use Rattle.points.specs.declared.Point.{Point}
use Rattle.points.specs.Points.{coordinates}
use Rattle.housefile.specs.declared.Record.{Record}
use Rattle.housefile.specs.declared.Record.TheVariants.{Vx, Fc, En}
use Rattle.housefile.specs.Records.{decoded}
use Rattle.housefile.specs.Reader.{Layout, fault, laid, after, records, layout}
use Rattle.housefile.proofs.Steps.{layout_from, at_end, at_vertex, at_facet}

-- a facet's three vertex numbers
abbrev pub Three : Type 0
Three = ℕ × ℕ × ℕ

abbrev pub corners_of : Three → List ℕ
corners_of t = t.0 ∷ t.1 ∷ t.2 ∷ []

abbrev pub facet_record : Three → Record
facet_record t = Fc t.0 t.1 t.2

-- ---- the grammar

-- bs begin with the facets fs and the end, which take u bytes
pub data FacetsFollow : List ℕ → ℕ → List Three → Type 0 where
  end : {bs : List ℕ} → decoded bs ≡ Some En → FacetsFollow bs 2 []
  facet : {bs : List ℕ} {u : ℕ} {fs : List Three} (t : Three) → decoded bs ≡ Some (facet_record t)
      → FacetsFollow (drop 14 bs) u fs → FacetsFollow bs (14 + u) (t ∷ fs)

-- bs begin with the vertices vs, the facets fs and the end, which take u bytes
pub data Follows : List ℕ → ℕ → List Point → List Three → Type 0 where
  facets : {bs : List ℕ} {u : ℕ} {fs : List Three} → FacetsFollow bs u fs → Follows bs u [] fs
  vertex : {bs : List ℕ} {u : ℕ} {vs : List Point} {fs : List Three} (v : Point) → decoded bs ≡ Some (Vx v)
      → Follows (drop 26 bs) u vs fs → Follows bs (26 + u) (v ∷ vs) fs

-- ---- bytes that follow it have that layout
facets_layout : {bs : List ℕ} {u : ℕ} {fs : List Three} (b : Bool) → FacetsFollow bs u fs → layout_from b bs ≡ laid u [] (flat_map corners_of fs)
unfolding flat_map
facets_layout b (end {bs = bs} e) = at_end bs b e
facets_layout b (facet {bs = bs} t e f) = at_facet bs b t.0 t.1 t.2 e ∙ ap (after 14 [] (corners_of t)) (facets_layout true f)

pub follows_layout : {bs : List ℕ} {u : ℕ} {vs : List Point} {fs : List Three} → Follows bs u vs fs
    → layout bs ≡ laid u (flat_map coordinates vs) (flat_map corners_of fs)
unfolding flat_map layout
follows_layout (facets f) = facets_layout false f
follows_layout (vertex {bs = bs} v e f) = at_vertex bs v e ∙ ap (after 26 (coordinates v) []) (follows_layout f)

-- ---- bytes that have a layout follow it
abbrev Described : Bool → List ℕ → Layout → Type 0
Described b bs fault = Unit {0}
Described true bs (laid u xs cs) = (fs : List Three) × FacetsFollow bs u fs × (xs ≡ []) × (cs ≡ flat_map corners_of fs)
Described false bs (laid u xs cs) =
    (vs : List Point) × (fs : List Three) × Follows bs u vs fs × (xs ≡ flat_map coordinates vs) × (cs ≡ flat_map corners_of fs)

add_vertex : (bs : List ℕ) (v : Point) → decoded bs ≡ Some (Vx v) → (l : Layout) → Described false (drop 26 bs) l
    → Described false bs (after 26 (coordinates v) [] l)
unfolding flat_map
add_vertex bs v e fault d = tt
add_vertex bs v e (laid u xs cs) (vs, fs, f, p, q) = (v ∷ vs, fs, vertex v e f, ap (λ l. coordinates v ++ l) p, q)

add_facet : (bs : List ℕ) (t : Three) → decoded bs ≡ Some (facet_record t) → (l : Layout) → Described true (drop 14 bs) l
    → Described true bs (after 14 [] (corners_of t) l)
unfolding flat_map
add_facet bs t e fault d = tt
add_facet bs t e (laid u xs cs) (fs, f, p, q) = (t ∷ fs, facet t e f, p, ap (λ l. corners_of t ++ l) q)

no_vertex : (bs : List ℕ) (l : Layout) → Described true bs l → Described false bs l
unfolding flat_map
no_vertex bs fault d = tt
no_vertex bs (laid u xs cs) (fs, f, p, q) = ([], fs, facets f, p, q)

described : (n : ℕ) (b : Bool) (bs : List ℕ) (r : Option Record) → decoded bs ≡ r → Described b bs (records n b r bs)
unfolding records flat_map
described zero b bs r e = tt
described (suc n) true bs (Some En) e = ([], end e, refl, refl)
described (suc n) false bs (Some En) e = ([], [], facets (end e), refl, refl)
described (suc n) b bs None e = tt
described (suc n) true bs (Some (Vx v)) e = tt
described (suc n) false bs (Some (Vx v)) e =
    let rest = drop 26 bs in
    add_vertex bs v e (records n false (decoded rest) rest) (described n false rest (decoded rest) refl)
described (suc n) true bs (Some (Fc p q r)) e =
    let rest = drop 14 bs in
    add_facet bs (p, q, r) e (records n true (decoded rest) rest) (described n true rest (decoded rest) refl)
described (suc n) false bs (Some (Fc p q r)) e =
    let rest = drop 14 bs in
    let l = records n true (decoded rest) rest in
    no_vertex bs (after 14 [] (p ∷ q ∷ r ∷ []) l) (add_facet bs (p, q, r) e l (described n true rest (decoded rest) refl))

pub layout_follows : (bs : List ℕ) (u : ℕ) (xs : List Float) (cs : List ℕ) → layout bs ≡ laid u xs cs
    → (vs : List Point) × (fs : List Three) × Follows bs u vs fs × (xs ≡ flat_map coordinates vs) × (cs ≡ flat_map corners_of fs)
unfolding layout
layout_follows bs u xs cs e = subst (Described false bs) e (described (length bs) false bs (decoded bs) refl)
