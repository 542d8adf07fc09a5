-- Request 2026-02: what may stand in a row's six bounds, and the bounds that they give. "An open bound must be blank and becomes the limit, negative for
-- a low; a blank without its flag is refused."
use Rattle.std.specs.Prelude.{Bool, not, ◌&&◌, cond, List, [], ◌∷◌, Float}
use Rattle.std.specs.Float.Ieee.{lt, neg, is_nan}
use Rattle.list_words.specs.Lists.{any}
use Rattle.points.specs.declared.Axis.{Axis}
use Rattle.points.specs.declared.Axis.TheVariants.{X, Y, Z}
use Rattle.points.specs.Points.{coordinate}
use Rattle.solids.specs.Admission.{limit, beyond}
use Rattle.outage_rows.specs.declared.Bound.{Bound}
use Rattle.outage_rows.specs.declared.Row.{Row}
use Rattle.outage_rows.specs.declared.Span.{Span}

abbrev pub bounds_of : Row → List Bound
bounds_of r = r.x.low ∷ r.x.high ∷ r.y.low ∷ r.y.high ∷ r.z.low ∷ r.z.high ∷ []

-- 3: "a blank without its flag"
unfoldable pub missing : Bound → Bool
missing b = is_nan b.value && not b.flag

-- 4: beyond the limit, whether its flag is set or not
abbrev pub too_far : Bound → Bool
too_far b = beyond b.value

-- 12: "flag set, value present"
unfoldable pub present : Bound → Bool
present b = b.flag && not (is_nan b.value)

-- "becomes the limit, negative for a low"
unfoldable pub low_bound : Bound → Float
low_bound b = cond b.flag (neg limit) b.value

unfoldable pub high_bound : Bound → Float
high_bound b = cond b.flag limit b.value

unfoldable pub bounds : Row → Span
bounds r =
    record {
      low = record { x = low_bound r.x.low; y = low_bound r.y.low; z = low_bound r.z.low };
      high = record { x = high_bound r.x.high; y = high_bound r.y.high; z = high_bound r.z.high };
    }

abbrev pub axes : List Axis
axes = X ∷ Y ∷ Z ∷ []

-- 13: "low not below high", on some axis
unfoldable pub not_below : Span → Bool
not_below b = any (λ k. not (lt (coordinate k b.low) (coordinate k b.high))) axes
