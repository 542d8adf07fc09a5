use mathlib.Core.Path.{◌≡◌}
use Prim.Native.Nat.{◌-◌}
use Rattle.placed_ends.specs.Words.{place_of, put_times}
use Rattle.placed_ends.proofs.put_times.Given as goal

abbrev pub invariant-loop : goal.invariant-loop
invariant-loop l = put_times (place_of l.side) l.v (l.n - l.counter) (l.list, l.at) ≡ put_times (place_of l.side) l.v l.n (l.initial.list, l.k)
