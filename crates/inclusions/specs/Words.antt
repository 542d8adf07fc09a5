-- Words of contracts; no public statement needs them. The inclusions of vertices, in a list.
use Rattle.std.specs.Prelude.{◌≡◌, Bool, true, false, List, ℕ, ◌+◌, ◌<◌, ◌≤◌, ℤ, pos, nat_abs, ◌+ℤ◌, ◌*ℤ◌, length, get_or}
use Rattle.list_words.specs.Lists.{sum_of, up_to}
use Rattle.solids.specs.Solids.{Solid, vertices, vertex, facets, facet}
use Rattle.solids.specs.Words.{facet_S, contained}
use Rattle.results.specs.declared.Operation.{Operation}
use Rattle.results.specs.Inclusion.{inclusion, vA, vB}
use Rattle.bounds.specs.declared.Far.{Far}
use Rattle.bounds.specs.declared.Far.TheVariants.{Below, Above}
use Rattle.bounds.specs.declared.Thing.TheVariants.{Facets}
use Rattle.edges.specs.Readers.{solid_of}
use Rattle.box_lists.specs.declared.Near.{Near}
use Rattle.inclusions.specs.declared.side.Side.{Side}

-- ---- the inclusion of each vertex, A's and then B's, in a list

pub record Included (op : Operation) (a b : Solid) (inc : List ℤ) : Type 0 where
  pub long : vertices a + vertices b ≤ length inc
  pub of_a : (i : ℕ) → i < vertices a → get_or inc i (pos 0) ≡ inclusion op a b (vA i)
  pub of_b : (i : ℕ) → i < vertices b → get_or inc (vertices a + i) (pos 0) ≡ inclusion op a b (vB i)
  pub few : (i : ℕ) → nat_abs (get_or inc i (pos 0)) ≤ 257

-- ---- the vertices of one solid, as the other counts them

-- facets that count nothing for a vertex: of B those below it, of A those above
abbrev pub idle : Bool → Far
idle true = Below
idle false = Above

-- the inclusion of vertex i
unfoldable pub weight : Side → ℕ → ℤ
weight q i = q.alone +ℤ q.times *ℤ contained q.as_b (vertex (solid_of q.own) i) (solid_of q.other)

-- what a facet of the other counts for vertex i, and facets that count all there is for the vertices from `begin` to `end`
abbrev pub counted : Side → ℕ → ℕ → ℤ
counted q i f = facet_S q.as_b (vertex (solid_of q.own) i) (facet (solid_of q.other) f)

abbrev pub Enough : Side → List ℕ → ℕ → ℕ → Type 0
Enough q columns begin end = (i : ℕ) → begin ≤ i → i < end → sum_of (counted q i) columns ≡ sum_of (counted q i) (up_to (facets (solid_of q.other)))

pub record Facing (q : Side) (near : Near) (begin end : ℕ) : Type 0 where
  pub solid : solid_of near.solid ≡ solid_of q.other
  pub thing : near.thing ≡ Facets
  pub few : length near.columns.now ≤ 256
  pub enough : Enough q near.columns.now begin end

-- the first n are weighed, and what stands before them is as it was
pub record Weighed (q : Side) (old new : List ℤ) (n : ℕ) : Type 0 where
  pub before : (i : ℕ) → i < q.at → get_or new i (pos 0) ≡ get_or old i (pos 0)
  pub there : (i : ℕ) → i < n → get_or new (q.at + i) (pos 0) ≡ weight q i
  pub few : (i : ℕ) → i < n → nat_abs (get_or new (q.at + i) (pos 0)) ≤ 257
