-- Request 2026-02: the row. "A row is 53 bytes, low byte first: the mark `RW`, a two-byte unit number, six f64 .. and one flag byte." The one place that
-- knows a row's layout.
use Rattle.std.specs.Prelude.{ℕ, ◌+◌, ◌*◌, Bool, not, ◌||◌, List, [], ◌∷◌, length, eqb}
use Rattle.numbers.specs.Numbers.{number, number_at, float_at, bit}
use Rattle.outage_rows.specs.declared.Bound.{Bound}
use Rattle.outage_rows.specs.declared.Row.{Row}

abbrev pub mark_RW : List ℕ
mark_RW = 0x52 ∷ 0x57 ∷ []

abbrev pub flags : List ℕ → ℕ
flags bs = number_at 52 1 bs

-- The bounds, by their places from 0 on: "low x, high x, low y, high y, low z, high z"; "bits 0 to 5, in that order, say that the bound is open".
unfoldable pub bound : List ℕ → ℕ → Bound
bound bs i = record { value = float_at (4 + 8 * i) bs; flag = bit i (flags bs) }

unfoldable pub row : List ℕ → Row
row bs =
    record {
      unit = number_at 2 2 bs;
      x = record { low = bound bs 0; high = bound bs 1 };
      y = record { low = bound bs 2; high = bound bs 3 };
      z = record { low = bound bs 4; high = bound bs 5 };
    }

-- 9: "also for flag bits 6 and 7"
unfoldable pub no_row : List ℕ → Bool
no_row bs = not (eqb (length bs) 53) || not (eqb (number_at 0 2 bs) (number mark_RW)) || bit 6 (flags bs) || bit 7 (flags bs)
