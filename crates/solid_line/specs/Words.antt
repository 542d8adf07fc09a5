-- Words of contracts; no public statement needs them. A text that grows.
use Rattle.std.specs.Prelude.{◌≡◌, List, ◌++◌, ℕ, ◌+◌, length}
use Rattle.solid_line.specs.declared.Text.{Text}
use Rattle.solid_line.specs.Answers.{text}

-- r says what t says, and l behind it
pub record Then (t : Text) (l : List ℕ) (r : Text) : Type 0 where
  pub longer : r.used ≡ t.used + length l
  pub says : (before : List ℕ) → t ≡ text before → r ≡ text (before ++ l)
