-- A word of contracts; no public statement needs it.
use Rattle.std.specs.Prelude.{◌≤◌, List, [], ◌∷◌, nat_abs}
use Rattle.crossings.specs.declared.Crossing.{Crossing}
use Rattle.crossings.specs.Crossings.{count}

-- no count is larger than 1: so it is of all lower pairings
abbrev pub Small : List Crossing → Type 0
Small [] = Unit {0}
Small (c ∷ cs) = (nat_abs (count c) ≤ 1) × Small cs
