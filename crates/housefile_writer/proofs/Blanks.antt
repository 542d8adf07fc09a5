-- Where no coordinate is a blank, no vertex has one.
use mathlib.Core.Path.{◌≡◌, refl}
use mathlib.Core.Bool.{Bool, true, false}
use mathlib.Core.List.{List, []}
use Prim.Native.Nat.{ℕ, ◌+◌, ◌*◌, ◌/◌, ◌<◌}
use native.Mathlib.Omega.{arith}
use lib.ListN.{length, get_or}
use lib.Ieee.{Float, is_nan}
use Rattle.list_words.specs.Lists.{any}
use Rattle.list_words.proofs.Searches.{any_found}
use Rattle.list_words.proofs.Tests.{never}
use Rattle.points.specs.Points.{coordinates}
use Rattle.solids.specs.Solids.{solid, vertex}

absent : (p : Float → Bool) (l : List Float) (i : ℕ) (d : Float) → any p l ≡ false → i < length l → p (get_or l i d) ≡ false
absent p l i d e h = by_test (p (get_or l i d)) refl
  where
    by_test : (b : Bool) → p (get_or l i d) ≡ b → p (get_or l i d) ≡ false
    by_test true t = absurd (never (any p l) (any_found p l i d h t) e)
    by_test false t = t

pub vertex_present : (ps : List Float) (i : ℕ) → any is_nan ps ≡ false → i < length ps / 3 → any is_nan (coordinates (vertex (solid ps []) i)) ≡ false
unfolding any
vertex_present ps i e h =
    rw (absent is_nan ps (3 * i + 0) _ e (omega arith), absent is_nan ps (3 * i + 1) _ e (omega arith), absent is_nan ps (3 * i + 2) _ e (omega arith))
