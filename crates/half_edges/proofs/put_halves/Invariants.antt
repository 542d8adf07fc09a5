use mathlib.Core.Path.{◌≡◌}
use lib.Seq.{sets}
use Rattle.solids.specs.Words.{counted}
use Rattle.half_edges.specs.Words.{threes}
use Rattle.half_edges.proofs.put_halves.Given as goal

abbrev pub invariant-loop-f : goal.invariant-loop-f
invariant-loop-f l = l.list ≡ sets l.initial.list l.at (threes l.numbers (counted l.corners l.f))
