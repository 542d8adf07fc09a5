-- One row worked out from its bytes, by computation: unit 258, x from 1 to 2, y open below and up to 4, z from -1 and open above. What it says, and the
-- bounds that it gives.
use mathlib.Core.Path.{◌≡◌, refl}
use mathlib.Core.Bool.{true, false}
use mathlib.Core.List.{List, [], ◌∷◌, ◌++◌}
use Prim.Native.Nat.{ℕ}
use lib.Ieee.{binary64, of_bits, neg}
use Rattle.numbers.specs.Numbers.{number, number_at, float_at, bit}
use Rattle.solids.specs.Admission.{limit}
use Rattle.outage_rows.specs.Row.{row, bound, no_row}
use Rattle.outage_rows.specs.Bounds.{low_bound, high_bound, bounds}

abbrev blank : List ℕ
blank = 1 ∷ 0 ∷ 0 ∷ 0 ∷ 0 ∷ 0 ∷ 0xf8 ∷ 0x7f ∷ []

abbrev pub bytes : List ℕ
bytes =
    0x52 ∷ 0x57 ∷ 2 ∷ 1 ∷ (0 ∷ 0 ∷ 0 ∷ 0 ∷ 0 ∷ 0 ∷ 0xf0 ∷ 0x3f ∷ [])
    ++ (0 ∷ 0 ∷ 0 ∷ 0 ∷ 0 ∷ 0 ∷ 0 ∷ 0x40 ∷ [])
    ++ blank
    ++ (0 ∷ 0 ∷ 0 ∷ 0 ∷ 0 ∷ 0 ∷ 0x10 ∷ 0x40 ∷ [])
    ++ (0 ∷ 0 ∷ 0 ∷ 0 ∷ 0 ∷ 0 ∷ 0xf0 ∷ 0xbf ∷ [])
    ++ blank
    ++ (0x24 ∷ [])

pub is_row : no_row bytes ≡ false
unfolding no_row number_at number bit
is_row = refl

pub read : row bytes
    ≡ record {
      unit = 258;
      x = record { low = record { value = of_bits binary64 0x3ff0000000000000; flag = false }; high = record { value = of_bits binary64 0x4000000000000000; flag = false } };
      y = record { low = record { value = of_bits binary64 0x7ff8000000000001; flag = true }; high = record { value = of_bits binary64 0x4010000000000000; flag = false } };
      z = record { low = record { value = of_bits binary64 0xbff0000000000000; flag = false }; high = record { value = of_bits binary64 0x7ff8000000000001; flag = true } };
    }
unfolding row bound float_at number_at number bit
read = refl

pub given : bounds (row bytes)
    ≡ record {
      low = record { x = of_bits binary64 0x3ff0000000000000; y = neg limit; z = of_bits binary64 0xbff0000000000000 };
      high = record { x = of_bits binary64 0x4000000000000000; y = of_bits binary64 0x4010000000000000; z = limit };
    }
unfolding bounds low_bound high_bound row bound float_at number_at number bit
given = refl
