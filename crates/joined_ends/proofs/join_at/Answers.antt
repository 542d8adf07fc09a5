-- `join_at` meets its contract: as many pieces as the side that has fewer.
use native.Mathlib.Omega.{arith}
use lib.ListN.{take}
use Rattle.joined_ends.proofs.Joined.{laid_none, laid_more, laid_behind}
use Rattle.joined_ends.proofs.join_at.Goals as goal

pub next_place-requires : goal.next_place-requires
next_place-requires c =
    let a = c.args in
    let j = c.join_first-c in
    let w = laid_behind (laid_more (laid_none a.list.now a.at) (take a.n a.all) j.new.list j.result (omega arith) j.auto.list j.ensures) (omega arith) in
    omega (arith, w.next)

pub returns : goal.returns
returns c =
    let a = c.args in
    let j = c.join_first-c in
    rw c.next_place.ensures (laid_behind (laid_more (laid_none a.list.now a.at) (take a.n a.all) j.new.list j.result (omega arith) j.auto.list j.ensures) (omega arith))
