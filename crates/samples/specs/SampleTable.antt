-- Document 01, "Sample table": the cases marked P, in one table. Each row says what a definition gives, and what it should.
use Rattle.std.specs.Prelude.{◌≡◌, ℕ, false, List, [], ◌∷◌, map, replicate, ℤ, pos, negsuc, Float}
use Rattle.std.specs.Float.{binary64}
use Rattle.std.specs.Float.Ieee.{round, neg}
use Rattle.points.specs.declared.Point.{Point}
use Rattle.points.specs.declared.Axis.TheVariants.{X, Z}
use Rattle.crossings.specs.declared.Edge.{Edge}
use Rattle.crossings.specs.declared.Crossing.{Crossing}
use Rattle.crossings.specs.declared.Crossing.TheVariants.{Miss, Cross}
use Rattle.crossings.specs.Crossings.{S, vv, ee, ef}
use Rattle.solids.specs.Refusals.{no_refusal}
use Rattle.solids.specs.Solids.{Solid, nothing, facet}
use Rattle.solids.specs.Containment.{in_A, in_B}
use Rattle.results.specs.Operation.{Lent, Outcome, operation}

-- n halves, as an f64
abbrev halves : ℕ → Float
halves n = round binary64 false n 2

abbrev point : Float → Float → Float → Point
point a b c = record { x = a; y = b; z = c }

-- the point whose coordinates are so many halves
abbrev at : ℕ → ℕ → ℕ → Point
at a b c = point (halves a) (halves b) (halves c)

abbrev from_to : Point → Point → Edge
from_to a b = record { start = a; end = b }

-- "T has vertices (0,0,0), (4,0,0), (0,4,0), (0,0,4), facets 0,2,1; 0,1,3; 0,3,2; 1,2,3."
abbrev pub T : Solid
T =
    record {
      points = map halves (0 ∷ 0 ∷ 0 ∷ 8 ∷ 0 ∷ 0 ∷ 0 ∷ 8 ∷ 0 ∷ 0 ∷ 0 ∷ 8 ∷ []);
      corners = 0 ∷ 2 ∷ 1 ∷ 0 ∷ 1 ∷ 3 ∷ 0 ∷ 3 ∷ 2 ∷ 1 ∷ 2 ∷ 3 ∷ [];
    }

abbrev lone : Solid
lone = record { points = map halves (2 ∷ 4 ∷ 6 ∷ []); corners = [] }

-- eA and eB of P2
abbrev eA : Edge
eA = from_to (at 0 0 0) (at 8 6 0)

abbrev eB : Edge
eB = from_to (point (neg (halves 8)) (halves 6) (halves 2)) (at 8 2 2)

abbrev lists : List Float → List ℕ → List ℕ → Lent
lists p c o = record { points = p; corners = c; origins = o }

-- room for 12 coordinates, 12 corners and 4 origins
abbrev room : Lent
room = lists (replicate 12 (halves 0)) (replicate 12 0) (replicate 4 0)

abbrev done : ℕ → ℕ → Lent → Outcome
done v t l = record { answer = no_refusal; vertices = v; triangles = t; lent = l }

-- ---- what a row compares

pub data Value : Type 0 where
  number : ℤ → Value
  crossing : Crossing → Value
  outcome : Outcome → Value

pub record Row : Type 0 where
  pub found : Value
  pub expected : Value

abbrev row : Value → Value → Row
row a b = record { found = a; expected = b }

abbrev pub table : List Row
table =
    row (number (S X (vv (at 4 2 0) (at 4 6 1)))) (number (pos 1))  -- P1
    ∷ row (crossing (ee eA eB)) (crossing (Cross (negsuc 0) (record { a = at 4 3 0; b = at 4 3 2 })))  -- P2
    ∷ row (number (S Z (ee eA eB))) (number (negsuc 0))  -- P2, S
    ∷ row (number (in_B (at 4 2 1) T)) (number (pos 1))  -- P3
    ∷ row (number (in_B (at 4 2 2) T)) (number (pos 1))  -- P4
    ∷ row (number (in_B (at 4 2 0) T)) (number (pos 0))  -- P5
    ∷ row (number (in_B (at 4 2 3) T)) (number (pos 0))  -- P6
    ∷ row (number (in_A T (at 4 2 2))) (number (pos 0))  -- P7
    ∷ row (number (in_A T (at 4 2 0))) (number (pos 1))  -- P8
    ∷ row (crossing (ef (from_to (at 4 2 1) (at 4 2 3)) (facet T 3))) (crossing (Cross (pos 1) (record { a = at 4 2 2; b = at 4 2 2 })))  -- P9
    ∷ row (crossing (ef (from_to (at 4 2 1) (at 4 2 2)) (facet T 3))) (crossing Miss)  -- P10
    ∷ row (outcome (operation 2 T nothing room)) (outcome (done 4 4 (lists T.points T.corners (0 ∷ 1 ∷ 2 ∷ 3 ∷ []))))  -- P11
    ∷ row (outcome (operation 1 T nothing room)) (outcome (done 0 0 room))  -- P12
    ∷ row (outcome (operation 0 lone nothing (lists (replicate 3 (halves 0)) [] []))) (outcome (done 1 0 (lists lone.points [] [])))  -- P13
    ∷ []

-- each row's value is the one expected
abbrev pub Holds : List Row → Type 0
Holds [] = Unit {0}
Holds (r ∷ rs) = (r.found ≡ r.expected) × Holds rs
