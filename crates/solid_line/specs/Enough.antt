-- The program `solid` reads the front of its standard input and no more. The front is enough: what is printed for it is what is printed for the
-- whole input.
use Rattle.std.specs.Prelude.{ℕ, ◌≡◌, List, take}
use Rattle.solid_line.specs.Line.{printed}

-- how many bytes the program reads at most: one more than an input may have
abbrev pub bytes_read : ℕ
bytes_read = 32769

abbrev pub Enough : Type 0
Enough = (input : List ℕ) → printed (take bytes_read input) ≡ printed input
