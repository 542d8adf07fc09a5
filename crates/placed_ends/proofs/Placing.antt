-- What the loops that put starts and stops have done: what is left to put, put now, gives what the whole gives.
use mathlib.Core.Path.{◌≡◌, ap}
use mathlib.Core.List.{List}
use Prim.Native.Nat.{ℕ, suc, ◌+◌, ◌-◌, ◌*◌, ◌/◌, ◌<◌, ◌≤◌}
use native.Mathlib.Omega.{arith}
use borrow.Author.Tests.{lt-ltb, le-ltb}
use lib.ListN.{length, set}
use Rattle.placed_ends.specs.Words.{put_once, put_times}

abbrev pub State : Type 0
State = List ℕ × ℕ

pub both : {A B : Type 0} {s t : A × B} → s ≡ t → (s.0 ≡ t.0) × (s.1 ≡ t.1)
both {A} {B} e = (ap {B = A} (λ (u : A × B). u.0) e, ap {B = B} (λ (u : A × B). u.1) e)

-- ---- once
module _ (side v : ℕ) (s : State) where
  pub put_room : s.1 < length s.0 / 2 → put_once side v s ≡ (set s.0 (2 * s.1 + side) v, s.1 + 1)
  put_room h = rw (lt-ltb _ _ h)

  pub put_full : length s.0 / 2 ≤ s.1 → put_once side v s ≡ s
  put_full h = rw (le-ltb _ _ h)

-- ---- n times
module _ (side v n i : ℕ) (s : State) where
  pub times_step : (l : List ℕ) (k : ℕ) → i < n → l ≡ (put_once side v s).0 → k ≡ (put_once side v s).1 → put_times side v (n - (i + 1)) (l, k) ≡ put_times side v (n - i) s
  times_step l k h e d = let q : n - i ≡ suc (n - (i + 1)) = omega arith in rw (e, d, q)
