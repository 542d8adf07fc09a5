-- Decimal digits of a number, as document 01's "Program `solid`" prints them.
use Rattle.std.specs.Prelude.{ℕ, zero, suc, ◌+◌, ◌/◌, ◌%◌, true, false, List, [], ◌∷◌, ◌++◌, ltb}

-- no more than k of them
unfoldable pub decimal : ℕ → ℕ → List ℕ
decimal zero n = []
decimal (suc k) n = elim (ltb n 10) [ true ↦ (0x30 + n) ∷ [] | false ↦ decimal k (n / 10) ++ ((0x30 + n % 10) ∷ []) ]

abbrev pub digits : ℕ → List ℕ
digits n = decimal (suc n) n
