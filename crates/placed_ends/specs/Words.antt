-- Words of contracts; no public statement needs them. Starts and stops of ends as they are placed on the two sides of pieces in a list.
use Rattle.std.specs.Prelude.{cond, List, ℕ, ◌+◌, ◌*◌, zero, suc, ◌/◌, length, set, ltb}
use Rattle.list_words.specs.Lists.{above, below}
use Rattle.results.specs.declared.End.{End}
use Rattle.placed_ends.specs.declared.Counts.{Counts}
use Rattle.placed_ends.specs.declared.Side.{Side}
use Rattle.placed_ends.specs.declared.Side.TheVariants.{Start, Stop}

-- ---- starts go to even places of a list, stops to odd ones, each side in its order, as far as there is room

abbrev pub place_of : Side → ℕ
place_of Start = 0
place_of Stop = 1

-- the list, and the next piece on one side
abbrev pub put_once : ℕ → ℕ → List ℕ × ℕ → List ℕ × ℕ
put_once side v s = cond (ltb s.1 (length s.0 / 2)) (set s.0 (2 * s.1 + side) v, s.1 + 1) s

abbrev pub put_times : ℕ → ℕ → ℕ → List ℕ × ℕ → List ℕ × ℕ
put_times side v zero s = s
put_times side v (suc n) s = put_times side v n (put_once side v s)

-- the list, and the next piece on each side
abbrev pub with_stops : ℕ → List ℕ × ℕ → List ℕ × Counts
with_stops k s = (s.0, record { starts = k; stops = s.1 })

abbrev pub with_starts : ℕ → End → List ℕ × ℕ → List ℕ × Counts
with_starts k e s = with_stops s.1 (put_times 1 e.vertex (above e.count) (s.0, k))

abbrev pub placed : List ℕ × Counts → End → List ℕ × Counts
placed s e = with_starts s.1.stops e (put_times 0 e.vertex (below e.count) (s.0, s.1.starts))
