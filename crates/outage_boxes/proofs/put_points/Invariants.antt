use mathlib.Core.Path.{◌≡◌}
use mathlib.Core.List.{List, flat_map}
use Prim.Native.Nat.{ℕ}
use lib.ListN.{length}
use lib.Seq.{sets}
use lib.Ieee.{Float}
use Rattle.list_words.specs.Lists.{up_to}
use Rattle.points.specs.Points.{coordinates}
use Rattle.outage_rows.specs.declared.Span.{Span}
use Rattle.outage_rows.specs.Box.{corner_point}
use Rattle.outage_boxes.proofs.put_points.Given as goal

-- the numbers of a corner
abbrev pub numbers : Span → ℕ → List Float
numbers b n = coordinates (corner_point b n)

abbrev pub invariant-loop-n : goal.invariant-loop-n
invariant-loop-n l = (length l.points ≡ length l.initial.points) × (l.points ≡ sets l.initial.points 0 (flat_map (numbers l.b) (up_to l.n)))
