-- Document 01, "House file": the marks, and the record that some bytes begin with. The one place that knows a record's layout.
use Rattle.std.specs.Prelude.{ℕ, true, false, ◌&&◌, length, leb, eqb, Option, Some, None}
use mathlib.Core.List.{List, [], ◌∷◌, ◌++◌, flat_map}
use Rattle.numbers.specs.Numbers.{number, number_at, float_at, bytes, float_bytes}
use Rattle.points.specs.Points.{coordinates}
use Rattle.housefile.specs.declared.Record.{Record}
use Rattle.housefile.specs.declared.Record.TheVariants.{Vx, Fc, En}

-- "a two-byte mark": `VX`, `FC`, `EN`
abbrev pub mark_VX : List ℕ
mark_VX = 0x56 ∷ 0x58 ∷ []

abbrev pub mark_FC : List ℕ
mark_FC = 0x46 ∷ 0x43 ∷ []

abbrev pub mark_EN : List ℕ
mark_EN = 0x45 ∷ 0x4e ∷ []

-- how many bytes a record takes, mark included
abbrev pub size : Record → ℕ
size (Vx v) = 26
size (Fc p q r) = 14
size En = 2

-- "`VX`: three f64 bit patterns. `FC`: three 4-byte vertex numbers. `EN`: nothing more, the end." Other bytes begin with no record.
unfoldable pub decoded : List ℕ → Option Record
decoded bs =
    let mark = number_at 0 2 bs in
    let n = length bs in
    elim (eqb mark (number mark_VX) && leb 26 n) [
      | true ↦ Some (Vx (record { x = float_at 2 bs; y = float_at 10 bs; z = float_at 18 bs }))
      | false ↦
          elim (eqb mark (number mark_FC) && leb 14 n) [
            | true ↦ Some (Fc (number_at 2 4 bs) (number_at 6 4 bs) (number_at 10 4 bs))
            | false ↦ elim (eqb mark (number mark_EN) && leb 2 n) [ true ↦ Some En | false ↦ None ]
          ]
    ]

-- a record's bytes
unfoldable pub encoded : Record → List ℕ
encoded (Vx v) = mark_VX ++ flat_map float_bytes (coordinates v)
encoded (Fc p q r) = mark_FC ++ (bytes 4 p ++ (bytes 4 q ++ bytes 4 r))
encoded En = mark_EN
