-- Words of contracts; no public statement needs them. The walk over a file's records, and what is kept of them.
use Rattle.std.specs.Prelude.{ℕ, ◌+◌, ◌*◌, ◌≤◌, ◌≡◌, Bool, ◌||◌, cond, List, [], ◌∷◌, length, take, ltb, Float, Option, Some, None, Result, Ok, Err}
use Rattle.std.proofs.lemmas.List.Edits.{sets}
use Rattle.points.specs.Points.{coordinates}
use Rattle.solids.specs.declared.Answer.{Answer}
use Rattle.solids.specs.Refusals.{Verdict, answer_of, on_solid, given}
use Rattle.solids.specs.Solids.{Solid}
use Rattle.solids.specs.Admission.{admission}
use Rattle.housefile.specs.declared.Read.{Read}
use Rattle.housefile.specs.declared.Record.{Record}
use Rattle.housefile.specs.declared.Record.TheVariants.{Vx, Fc, En}
use Rattle.housefile.specs.Reader.{Layout, Reading, fault, laid, nothing_read, reading}
use Rattle.housefile_reader.specs.declared.Walk.{Walk}

-- ---- the walk, one record further; a vertex behind a facet ends it
abbrev pub vertex_more : Walk → Walk
vertex_more w = record { used = w.used + 26; vertices = w.vertices + 1; facets = w.facets }

unfoldable pub stepped : Record → Walk → Option Walk
stepped (Vx v) w = cond (ltb 0 w.facets) None (Some (vertex_more w))
stepped (Fc p q r) w = Some (record { used = w.used + 14; vertices = w.vertices; facets = w.facets + 1 })
stepped En w = Some (record { used = w.used + 2; vertices = w.vertices; facets = w.facets })

-- ---- what is kept
abbrev pub points_of : Record → List Float
points_of (Vx v) = coordinates v
points_of (Fc p q r) = []
points_of En = []

abbrev pub corners_of : Record → List ℕ
corners_of (Vx v) = []
corners_of (Fc p q r) = p ∷ q ∷ r ∷ []
corners_of En = []

module _ {A : Type 0} where
  -- a list with room for so many threes, with new as its i-th, if that is within the room
  unfoldable pub kept : ℕ → ℕ → List A → List A → List A
  kept room i new l = cond (ltb i room) (sets l (3 * i) new) l

  -- the front holds xs, if there is room
  abbrev pub Held : ℕ → List A → List A → Type 0
  Held room xs l = length xs ≤ room → take (length xs) l ≡ xs

-- a walk to the end of a layout, with what was kept
pub record Found (l : Layout) (w : Walk) (ps : List Float) (cs : List ℕ) : Type 0 where
  pub xs : List Float
  pub ds : List ℕ
  pub as_laid : l ≡ laid w.used xs ds
  pub points_long : length xs ≡ 3 * w.vertices
  pub corners_long : length ds ≡ 3 * w.facets
  pub points_held : Held 384 xs ps
  pub corners_held : Held 768 ds cs

abbrev pub Scanned : Layout → Option Walk → List Float → List ℕ → Type 0
Scanned l None ps cs = l ≡ fault
Scanned l (Some w) ps cs = Found l w ps cs

-- ---- the checks that look at numbers alone, past 9
abbrev pub many : Walk → Bool
many w = ltb 128 w.vertices || ltb 256 w.facets

abbrev pub check_many : Walk → Verdict
check_many w = given (on_solid 2 0) (many w)

abbrev pub short : Walk → ℕ → ℕ → Bool
short w room_points room_corners = ltb room_points (3 * w.vertices) || ltb room_corners (3 * w.facets)

abbrev pub by_numbers : Walk → ℕ → ℕ → List Verdict
by_numbers w room_points room_corners = check_many w ∷ given (answer_of 8) (short w room_points room_corners) ∷ []

-- ---- what is answered
abbrev pub answered : Result Read Answer → Read
answered (Ok r) = r
answered (Err a) = nothing_read a

-- 3 to 6 on a solid that 9, 2 and 8 let through, by way of its admission
abbrev pub handed_over : Solid → ℕ → List Float → List ℕ → Reading
handed_over s used ps cs = reading (admission s) used s ps cs
