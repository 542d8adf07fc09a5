-- Words of contracts; no public statement needs them. The boundary of a facet and the triangles, read from a table that has, for each thing that can
-- become a vertex, in listing order, its inclusion and its number.
use Rattle.std.specs.Prelude.{◌≡◌, Bool, not, cond, ℕ, ◌+◌, ◌*◌, ◌-◌, ◌<◌, ◌≤◌, ltb, ℤ, pos, neg_ℤ, nat_abs, length, get_or}
use mathlib.Core.List.{List, [], ◌∷◌, ◌++◌, map, flat_map}
use Rattle.list_words.specs.Lists.{up_to, any, nonzero, turned}
use Rattle.solids.specs.Solids.{Half, Solid}
use Rattle.results.specs.declared.End.{End}
use Rattle.results.specs.declared.Operation.{Operation}
use Rattle.results.specs.Pieces.{pieces}
use Rattle.results.specs.Triangles.{Triangle, fan}
use Rattle.results.specs.Inclusion.{inclusion}
use Rattle.results.specs.Vertices.{keys, number}
use Rattle.layouts.specs.declared.Sizes.{Sizes}
use Rattle.layouts.specs.Words.{Sized, edge_at, against}

pub record Table : Type 0 where
  pub inc : List ℤ
  pub num : List ℕ

abbrev pub table : List ℤ → List ℕ → Table
table inc num = record { inc = inc; num = num }

abbrev pub end : Table → ℕ → End
end t k = record { vertex = get_or t.num k 0; count = get_or t.inc k (pos 0) }

-- ---- slots, in listing order: A's vertex i is slot i

abbrev pub on_edge : Sizes → ℕ → ℕ → ℕ
on_edge z e g = z.va + e * z.fb + g

abbrev pub on_facet : Sizes → ℕ → ℕ → ℕ
on_facet z f e = z.va + z.ea * z.fb + f * z.eb + e

abbrev pub of_B : Sizes → ℕ → ℕ
of_B z i = z.va + z.ea * z.fb + z.fa * z.eb + i

abbrev pub total : Sizes → ℕ
total z = z.va + z.ea * z.fb + z.fa * z.eb + z.vb

-- ---- edges of half-edges

-- where an edge's ends stand: its start, its end, and its crossings, `many` from `first` on, each `step` behind the last; and whether a half-edge runs
-- against it
pub record Line : Type 0 where
  pub from : ℕ
  pub to : ℕ
  pub first : ℕ
  pub step : ℕ
  pub many : ℕ
  pub against : Bool

unfoldable pub line_of : List ℕ → Sizes → ℕ → Line
line_of hs z h =
    cond (ltb h (3 * z.fa))
    (record {
      from = get_or hs (3 * h + 1) 0;
      to = get_or hs (3 * h + 2) 0;
      first = on_edge z (edge_at hs h) 0;
      step = 1;
      many = z.fb;
      against = against hs h;
    })
    (record {
      from = of_B z (get_or hs (3 * h + 1) 0);
      to = of_B z (get_or hs (3 * h + 2) 0);
      first = on_facet z 0 (edge_at hs h);
      step = z.eb;
      many = z.fa;
      against = against hs h;
    })

-- ---- ends and pieces

abbrev pub off : End → End
off e = record { vertex = e.vertex; count = neg_ℤ e.count }

abbrev pub flip : Bool → End → End
flip b e = cond b (off e) e

abbrev pub turn : Bool → List Half → List Half
turn b ps = cond b (map turned ps) ps

abbrev pub alike : Bool → Bool → Bool
alike a b = cond a b (not b)

abbrev pub some_count : List End → Bool
some_count es = any (λ (e : End). nonzero e.count) es

-- the first n crossings of an edge, behind its start and its end
unfoldable pub line_ends : Table → Line → ℕ → List End
line_ends t l n = off (end t l.from) ∷ end t l.to ∷ map (λ i. end t (l.first + i * l.step)) (up_to n)

unfoldable pub line_pieces : Table → Line → List Half
line_pieces t l = turn l.against (pieces (line_ends t l l.many))

unfoldable pub half : Table → List ℕ → Sizes → ℕ → List Half
half t hs z h = line_pieces t (line_of hs z h)

abbrev pub a_end : Table → List ℕ → Sizes → ℕ → ℕ → End
a_end t hs z g h = flip (not (against hs h)) (end t (on_edge z (edge_at hs h) g))

abbrev pub b_end : Table → List ℕ → Sizes → ℕ → ℕ → End
b_end t hs z f h = flip (against hs h) (end t (on_facet z f (edge_at hs h)))

unfoldable pub pair_ends : Table → List ℕ → Sizes → ℕ → ℕ → List End
pair_ends t hs z f g =
    let m = z.fa + g in
    a_end t hs z g (3 * f) ∷ a_end t hs z g (3 * f + 1) ∷ a_end t hs z g (3 * f + 2)
    ∷ b_end t hs z f (3 * m) ∷ b_end t hs z f (3 * m + 1) ∷ b_end t hs z f (3 * m + 2) ∷ []

-- ---- facet x is A's or, from A's facet count on, B's: x is the origin

abbrev pub others : Sizes → ℕ → ℕ
others z x = cond (ltb x z.fa) z.fb z.fa

unfoldable pub pair : Table → List ℕ → Sizes → ℕ → ℕ → List Half
pair t hs z x i = cond (ltb x z.fa) (pieces (pair_ends t hs z x i)) (map turned (pieces (pair_ends t hs z i (x - z.fa))))

unfoldable pub row : Table → List ℕ → Sizes → ℕ → List Half
row t hs z x = flat_map (pair t hs z x) (up_to (others z x))

unfoldable pub round : Table → List ℕ → Sizes → ℕ → List Half
round t hs z x = half t hs z (3 * x) ++ (half t hs z (3 * x + 1) ++ half t hs z (3 * x + 2))

unfoldable pub boundary : Table → List ℕ → Sizes → ℕ → List Half
boundary t hs z x = cond (ltb x z.fa) (round t hs z x ++ row t hs z x) (row t hs z x ++ round t hs z x)

unfoldable pub fan_of : Table → List ℕ → Sizes → ℕ → List Triangle
fan_of t hs z x = fan x (boundary t hs z x)

unfoldable pub triangles : Table → List ℕ → Sizes → List Triangle
triangles t hs z = flat_map (fan_of t hs z) (up_to (z.fa + z.fb))

-- ---- what the table and the list of half-edges promise

pub record Ok (t : Table) : Type 0 where
  pub same : length t.num ≡ length t.inc
  pub small : (k : ℕ) → nat_abs (get_or t.inc k (pos 0)) ≤ 257

-- half-edges of A name A's edges and vertices, those of B B's
pub record Halves (hs : List ℕ) (z : Sizes) : Type 0 where
  pub sized : Sized z
  pub long : length hs ≡ 9 * (z.fa + z.fb)
  pub edge_A : (h : ℕ) → h < 3 * z.fa → edge_at hs h < z.ea
  pub start_A : (h : ℕ) → h < 3 * z.fa → get_or hs (3 * h + 1) 0 < z.va
  pub end_A : (h : ℕ) → h < 3 * z.fa → get_or hs (3 * h + 2) 0 < z.va
  pub edge_B : (h : ℕ) → 3 * z.fa ≤ h → h < 3 * (z.fa + z.fb) → edge_at hs h < z.eb
  pub start_B : (h : ℕ) → 3 * z.fa ≤ h → h < 3 * (z.fa + z.fb) → get_or hs (3 * h + 1) 0 < z.vb
  pub end_B : (h : ℕ) → 3 * z.fa ≤ h → h < 3 * (z.fa + z.fb) → get_or hs (3 * h + 2) 0 < z.vb

-- counts of crossings are at most 2
pub record Good (t : Table) (hs : List ℕ) (z : Sizes) : Type 0 where
  pub ok : Ok t
  pub halves : Halves hs z
  pub size : length t.inc ≡ total z
  pub few : (k : ℕ) → z.va ≤ k → k < of_B z 0 → nat_abs (get_or t.inc k (pos 0)) ≤ 2

-- ---- the table of two solids: the inclusion and the number of each key, in listing order. No code has it

unfoldable pub inclusions : Operation → Solid → Solid → List ℤ
inclusions op a b = map (inclusion op a b) (keys a b)

unfoldable pub numbers : Operation → Solid → Solid → List ℕ
numbers op a b = map (number (inclusion op a b) (keys a b)) (keys a b)

abbrev pub filled : Operation → Solid → Solid → Table
filled op a b = table (inclusions op a b) (numbers op a b)
