-- The points of one row's crossings, stored one behind the other.
use mathlib.Core.Path.{◌≡◌, refl, ◌∙◌}
use mathlib.Core.List.{List}
use Prim.Native.Nat.{ℕ, ◌+◌, ◌-◌, ◌<◌, ◌≤◌}
use native.Mathlib.Omega.{arith}
use lib.Ieee.{Float}
use lib.ListN.{length, get_or}
use lib.Seq.{sets}
use Rattle.points.specs.declared.Point.{Point}
use Rattle.points.specs.Points.{coordinates}
use Rattle.layouts.specs.Words.{column}
use Rattle.crossing_points.specs.Words.{stretch}
use Rattle.list_stores.proofs.Runs.{Run, run_none, run_long, run_room, run_next, run_all}

module _ (point : ℕ → Point) (crossed : List ℕ) (from to : ℕ) where
  abbrev one : ℕ → List Float
  one i = coordinates (point (column (get_or crossed (from + i) 0)))

  -- those before place k
  pub record Stretched (old new : List Float) (start at k : ℕ) : Type 0 where
    pub behind : from ≤ k
    pub within : k - from ≤ to - from
    pub run : Run one old new start at (k - from)

  pub stretched_none : (old : List Float) (start : ℕ) → Stretched old old start start from
  stretched_none old start =
      let e : from - from ≡ 0 = omega arith in
      record { behind = omega arith; within = omega arith; run = rw e (run_none one old start) }

module _ {point : ℕ → Point} {crossed : List ℕ} {from to : ℕ} {old new : List Float} {start at k : ℕ}
    (s : Stretched point crossed from to old new start at k) where
  pub stretched_long : length new ≡ length old
  stretched_long = run_long s.run

  pub stretched_room : k < to → start + length (stretch point crossed from to) ≤ length old → at + 3 ≤ length new
  unfolding stretch
  stretched_room h room = let b = s.behind in run_room s.run {n = to - from} (omega arith) room

  pub stretched_next : {c : ℕ} {v : Point} {last : List Float} → k < to → c ≡ column (get_or crossed k 0) → v ≡ point c → last ≡ sets new at (coordinates v)
      → Stretched point crossed from to old last start (at + 3) (k + 1)
  stretched_next {last = last} h e f g =
      let b = s.behind in
      let here : from + (k - from) ≡ k = omega arith in
      let more : k + 1 - from ≡ k - from + 1 = omega arith in
      let put : last ≡ sets new at (coordinates (point (column (get_or crossed (from + (k - from)) 0)))) = rw here (g ∙ rw (f, e)) in
      record { behind = omega arith; within = omega arith; run = rw more (run_next s.run put refl) }

  pub stretched_all : to ≤ k → (new ≡ sets old start (stretch point crossed from to)) × (at ≡ start + length (stretch point crossed from to))
  unfolding stretch
  stretched_all h = let w = s.within in run_all s.run (omega arith)
