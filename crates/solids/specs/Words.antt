-- Words of the contracts between functions of this crate; no public statement needs them.
use Rattle.std.specs.Prelude.{◌≡◌, ℕ, ◌+◌, ◌*◌, ◌/◌, ◌<◌, length, get_or, ℤ, Float, Bool, true, false}
use mathlib.Core.List.{List, [], flat_map}
use Rattle.std.specs.Float.Ieee.{is_nan}
use Rattle.list_words.specs.Lists.{up_to, any}
use Rattle.points.specs.declared.Point.{Point}
use Rattle.points.specs.Points.{coordinates}
use Rattle.points.specs.declared.Axis.TheVariants.{Z}
use Rattle.crossings.specs.declared.Facet.{Facet}
use Rattle.crossings.specs.Crossings.{S, vf, fv}
use Rattle.solids.specs.Solids.{Solid, Half, solid, vertex, number_of, facet_half_edges}
use Rattle.solids.specs.declared.Counted.{Counted}
use Rattle.solids.specs.declared.Refusal.{Refusal}
use Rattle.solids.specs.declared.Refusal.TheVariants as F
use Rattle.solids.specs.declared.Who.{Who}
use Rattle.solids.specs.declared.Who.TheVariants as W
use Rattle.solids.specs.Refusals.{Verdict, on_solid, given, nobody, solid_A, solid_B, only_solid, the_point}
use Rattle.solids.specs.Admission.{beyond}
use Rattle.solids.specs.Containment.{in_A, in_B, count_as_A, count_as_B}

-- the number by which a refusal is known, and that of whom it speaks of
abbrev pub number : Refusal → ℕ
number F.Uneven = 1
number F.TooMany = 2
number F.Blank = 3
number F.OutOfRange = 4
number F.Unmatched = 6
number F.UnknownCode = 7
number F.TooShort = 8
number F.NoLayout = 9
number F.TooHigh = 10
number F.NamedTwice = 11
number F.FlaggedValue = 12
number F.NotBelow = 13

abbrev pub who_number : Who → ℕ
who_number W.Nobody = nobody
who_number W.SolidA = solid_A
who_number W.SolidB = solid_B
who_number W.OnlySolid = only_solid
who_number W.ThePoint = the_point

-- one loop serves checks 3 and 4
abbrev pub bad : Bool → Float → Bool
bad true x = is_nan x
bad false x = beyond x

abbrev pub bad_number : Bool → ℕ
bad_number true = 3
bad_number false = 4

abbrev pub check_vertex : Bool → Solid → ℕ → Verdict
check_vertex blanks s i = given (on_solid (bad_number blanks) i) (any (bad blanks) (coordinates (vertex s i)))

-- The table in which half-edges are counted has 128 rows of 128: what stands at 128 * p + q is how many half-edges run from p to q.
abbrev pub place : Half → ℕ
place h = 128 * h.0 + h.1

pub record Tallied (table : List ℕ) (hs : List Half) : Type 0 where
  pub size : length table ≡ 16384
  pub at : (h : Half) → h.0 < 128 → h.1 < 128 → get_or table (place h) 0 ≡ number_of h hs

-- every corner number finds its row
abbrev pub Low : List ℕ → Type 0
Low corners = (i : ℕ) → i < length corners → get_or corners i 0 < 128

-- the half-edges of the facets below f
unfoldable pub counted : List ℕ → ℕ → List Half
counted corners f = flat_map (facet_half_edges (solid [] corners)) (up_to f)

-- every corner number names a vertex
abbrev pub Named : List Float → List ℕ → Type 0
Named points corners = (i : ℕ) → i < length corners → get_or corners i 0 < length points / 3

-- one loop serves both containment counts: S of the point with a facet of B, or of a facet of A with the point
unfoldable pub facet_S : Bool → Point → Facet → ℤ
facet_S true v f = S Z (vf v f)
facet_S false v f = S Z (fv f v)

unfoldable pub contained : Bool → Point → Solid → ℤ
contained true v s = in_B v s
contained false v s = in_A s v

unfoldable pub count_as : Bool → Point → Solid → Counted
count_as true v s = count_as_B v s
count_as false v s = count_as_A v s
