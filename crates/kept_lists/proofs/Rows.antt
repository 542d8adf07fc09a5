-- Looking a column up in a row; and what rows promise.
use mathlib.Core.Path.{◌≡◌, refl}
use mathlib.Core.Bool.{Bool, true, false}
use mathlib.Core.List.{List, map}
use Prim.Native.Nat.{ℕ, suc, ◌+◌, ◌-◌, ◌<◌, ◌≤◌}
use native.Mathlib.Numerals.{add-one}
use native.Mathlib.Omega.{arith}
use borrow.Author.Tests.{eq-eqb, ne_eqb}
use lib.ListN.{length, get_or}
use Rattle.results.specs.declared.End.{End}
use Rattle.layouts.specs.declared.Sizes.{Sizes}
use Rattle.layouts.specs.Words.{column, Columns}
use Rattle.vertex_table.specs.Words.{flip}
use Rattle.kept_lists.specs.Words.{Rows, Crossings, rows, span, blank, at_place, entry, look}

-- lists whose columns are there, with any number for the first crossing
pub crossings_of : {z : Sizes} {first crossed : List ℕ} → Columns z first crossed → (base : ℕ) → base + length crossed ≤ 1048576 → Crossings z (rows first crossed base)
crossings_of g base few = record { first_long = g.first_long; within = g.within; few = few }

-- what is left of a row from place k up to `to`
abbrev pub left : Rows → ℕ → ℕ → List (ℕ × End)
left w k to = map (entry w) (span k (to - k))

module _ (w : Rows) (c k to : ℕ) where
  pub look_here : k < to → column (get_or w.crossed k 0) ≡ c → look c (left w k to) ≡ at_place w k
  unfolding look span
  look_here h e = let q : to - k ≡ suc (to - (k + 1)) = omega arith in rw (q, eq-eqb _ _ e)

  pub look_on : k < to → (column (get_or w.crossed k 0) ≡ c → ⊥) → look c (left w k to) ≡ look c (left w (k + 1) to)
  unfolding look span
  look_on h n = let q : to - k ≡ suc (to - (k + 1)) = omega arith in rw (q, ne_eqb _ _ n, add-one k)

  pub look_end : to ≤ k → look c (left w k to) ≡ blank
  unfolding look span
  look_end h = let q : to - k ≡ 0 = omega arith in rw q

pub flip_blank : (b : Bool) → flip b blank ≡ blank
flip_blank true = refl
flip_blank false = refl
