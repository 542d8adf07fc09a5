-- `put_facet` meets its contract: the mark and three numbers, each where the one before it ended.
use mathlib.Core.Path.{refl}
use Prim.Native.Nat.{◌+◌}
use native.Mathlib.Omega.{arith}
use Rattle.numbers.specs.Numbers.{bytes}
use Rattle.numbers.proofs.Numbers.{length_bytes}
use Rattle.list_stores.proofs.Stores.{sets_four}
use Rattle.housefile.specs.Records.{mark_FC, encoded}
use Rattle.housefile_records.proofs.put_facet.Goals as goal

pub returns : goal.returns
unfolding bytes encoded
returns c =
    let a = c.args in
    rw (c.put_number-4.ensures, c.put_number-3.ensures, c.put_number-2.ensures, c.put_number.ensures)
    (sets_four a.bytes.now a.at (a.at + 2) (a.at + 6) (a.at + 10) mark_FC (bytes 4 a.p) (bytes 4 a.q) (bytes 4 a.r) refl
    (omega (arith, length_bytes 4 a.p)) (omega (arith, length_bytes 4 a.q)))
