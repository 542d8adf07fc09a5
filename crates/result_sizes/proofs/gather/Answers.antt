-- `gather` meets its contract: each list holds what its callee says of it.
use mathlib.Core.Path.{◌≡◌}
use mathlib.Core.List.{flat_map}
use Prim.Native.Nat.{ℕ, ◌<◌, ◌≤◌}
use native.Mathlib.Omega.{arith}
use lib.IntN.{ℤ}
use lib.ListN.{length}
use Rattle.list_words.specs.Lists.{up_to}
use Rattle.solids.specs.Solids.{Solid}
use Rattle.solids.specs.Refusals.{accepted}
use Rattle.solids.specs.Admission.{admission}
use Rattle.crossing_rows.specs.Words.{row, rows}
use Rattle.crossing_rows.proofs.Room.{enough}
use Rattle.list_words.proofs.Handed.{handed_on}
use Rattle.result_sizes.proofs.gather.Goals as goal

-- a list of crossings that is too short for them has not room for 196,608
no_room : (s : ℤ) (a b : Solid) {n : ℕ} → admission a ≡ accepted → admission b ≡ accepted → n < length (flat_map (row s a b) (up_to (rows a b))) → 196608 ≤ n → ⊥
no_room s a b ok_a ok_b short h = omega (arith, short, h, enough s a b ok_a ok_b)

pub returns-in_err-total-clause-told : goal.returns-in_err-total-clause-told
returns-in_err-total-clause-told c =
    rw (handed_on _ _ c.from_residual.ensures.1) (no_room _ _ _ c.args.a.admitted c.args.b.admitted c.in_err-total.ensures.answered)
