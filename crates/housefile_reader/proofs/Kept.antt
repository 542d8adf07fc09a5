-- A three kept within the room, beyond it, and nothing to keep.
use mathlib.Core.Path.{◌≡◌, refl}
use mathlib.Core.Bool.{Bool, true, false, cond}
use mathlib.Core.List.{List, []}
use Prim.Native.Nat.{ℕ, ◌*◌, ◌<◌, ◌≤◌}
use lib.Seq.{sets}
use lib.Dec.{ltb}
use borrow.Author.Tests.{lt-ltb, le-ltb}
use Rattle.housefile_reader.specs.Words.{kept}

module _ {A : Type 0} (room i : ℕ) where
  pub kept_within : (new l : List A) → i < room → sets l (3 * i) new ≡ kept room i new l
  unfolding kept
  kept_within new l h = rw (lt-ltb i room h)

  pub kept_beyond : (new l : List A) → room ≤ i → l ≡ kept room i new l
  unfolding kept
  kept_beyond new l h = rw (le-ltb i room h)

  pub kept_nothing : (l : List A) → l ≡ kept room i [] l
  unfolding kept
  kept_nothing l = by_room (ltb i room)
    where
      by_room : (b : Bool) → l ≡ cond b l l
      by_room true = refl
      by_room false = refl
