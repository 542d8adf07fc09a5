-- `put_number` meets its contract: the bytes below the index are put, and the rest's bytes are left.
use mathlib.Core.Path.{sym, ◌∙◌}
use native.Mathlib.Omega.{arith}
use Prim.Native.Nat.{◌+◌}
use lib.ListN.{length-set}
use borrow.Rule.Slice.PartMut.{mid_len}
use Rattle.list_stores.proofs.Stores.{sets_part}
use Rattle.numbers.specs.Numbers.{bytes}
use Rattle.numbers.proofs.Numbers.{length_bytes, left_to_put, all_put}
use Rattle.numbers.proofs.in_bytes.put_number.Goals as goal

pub loop-byte-preserved : goal.loop-byte-preserved
loop-byte-preserved c =
    let l = c.loop-byte in
    let a = c.args in
    let long = mid_len a.at (a.at + a.n) a.bytes.now c.requires in
    record { long = simp length-set l.invariant.long; put = left_to_put l.byte-items a.n l.byte-index l.rest (omega arith) l.invariant.long ∙ l.invariant.put }

pub returns : goal.returns
returns c =
    let l = c.loop-byte in
    let a = c.args in
    let long = mid_len a.at (a.at + a.n) a.bytes.now c.requires in
    rw (sym (all_put l.byte-items a.n l.byte-index l.rest (omega arith) l.invariant.long) ∙ l.invariant.put)
    (sets_part a.bytes.now (bytes a.n a.number) a.at a.n c.requires (length_bytes a.n a.number))
