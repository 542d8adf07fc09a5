-- Words of contracts; no public statement needs them. What an input comes to, by the fronts of two walks' lists, or by a refusal.
use Rattle.std.specs.Prelude.{◌≡◌, cond, List, ℕ, ◌*◌, ◌≤◌, length, take, Float, Result, Ok, Err}
use Rattle.solids.specs.Refusals.{Verdict, on_solid, of_A, of_B}
use Rattle.solids.specs.declared.Answer.{Answer}
use Rattle.solids.specs.Solids.{Solid, solid}
use Rattle.solids.specs.Admission.{admission}
use Rattle.results.specs.declared.Operation.{Operation}
use Rattle.results.specs.Operation.{Outcome, refusal, operate}
use Rattle.housefile.specs.Reader.{layout}
use Rattle.housefile_reader.specs.declared.Walk.{Walk}
use Rattle.housefile_reader.specs.Words.{many}
use Rattle.solid_line.specs.Line.{room, behind, of_files}
use Rattle.solid_input.specs.declared.Taken.{Taken}

-- a file's solid, in the fronts of what a walk kept
abbrev pub front : Walk → List Float → List ℕ → Solid
front w ps cs = solid (take (3 * w.vertices) ps) (take (3 * w.facets) cs)

-- its admission; of too many vertices or facets not all are kept
unfoldable pub kept_admission : Walk → List Float → List ℕ → Verdict
kept_admission w ps cs = cond (many w) (Err (on_solid 2 0)) (admission (front w ps cs))

abbrev pub past : Verdict → Result Taken Answer → Result Taken Answer
past (Ok u) t = t
past (Err a) t = Err a

-- "then come A's other refusals, B's"
unfoldable pub of_walks : Operation → Walk → List Float → List ℕ → Walk → List Float → List ℕ → Result Taken Answer
of_walks op w ps cs v qs es = past (of_A (kept_admission w ps cs)) (past (of_B (kept_admission v qs es)) (Ok (record { operation = op; first = w; second = v })))

-- two files behind each other
unfoldable pub of_bytes : Operation → List ℕ → Outcome
of_bytes op bs = let first = layout bs in of_files op first (layout (behind first bs)) (length bs)

-- the lists have room for what is kept of two files; an array's type says so, and a contract has to say it again
abbrev pub Rooms : List Float → List ℕ → List Float → List ℕ → Type 0
Rooms ps cs qs es = (length ps ≡ 384) × (length cs ≡ 768) × (length qs ≡ 384) × (length es ≡ 768)

-- an outcome is the operation's on the fronts, which are there
pub record Operable (o : Outcome) (op : Operation) (w v : Walk) (ps : List Float) (cs : List ℕ) (qs : List Float) (es : List ℕ) : Type 0 where
  pub rooms : Rooms ps cs qs es
  pub few_A : (w.vertices ≤ 128) × (w.facets ≤ 256)
  pub few_B : (v.vertices ≤ 128) × (v.facets ≤ 256)
  pub operated : o ≡ operate op (front w ps cs) (front v qs es) room

-- what was taken in tells an outcome, with the lists as they then are
abbrev pub Tells : Outcome → Result Taken Answer → List Float → List ℕ → List Float → List ℕ → Type 0
Tells o (Ok t) ps cs qs es = Operable o t.operation t.first t.second ps cs qs es
Tells o (Err a) ps cs qs es = o ≡ refusal a room
