-- `put_digits` meets its contract: one digit, or the digits of a tenth and one more.
use mathlib.Core.Path.{ap}
use mathlib.Core.List.{[], ◌∷◌}
use native.Mathlib.Omega.{arith}
use lib.ListN.{length}
use Prim.Native.Nat.{◌/◌}
use Rattle.list_stores.proofs.Stores.{sets_append}
use Rattle.numbers.specs.Digits.{digits}
use Rattle.numbers.proofs.Digits.{one_digit, more_digits, length_more}
use Rattle.numbers.proofs.decimal.+put_digits.Goals as goal

pub bounds-bytes-at : goal.bounds-bytes-at
bounds-bytes-at t c = omega (arith, ap length (one_digit c.args.n c.if-n-lt10.true))

pub returns-then-n-lt10-clause-stored : goal.returns-then-n-lt10-clause-stored
returns-then-n-lt10-clause-stored t c = rw (one_digit c.args.n c.if-n-lt10.true, ← c.digit.ensures)

pub returns-then-n-lt10-clause-next : goal.returns-then-n-lt10-clause-next
returns-then-n-lt10-clause-next t c = omega (arith, ap length (one_digit c.args.n c.if-n-lt10.true))

pub put_digits-last-requires : goal.put_digits-last-requires
put_digits-last-requires t c = (omega arith, omega (arith, length_more c.args.n c.if-n-lt10.false))

pub bounds-bytes-last : goal.bounds-bytes-last
bounds-bytes-last t c = omega (arith, length_more c.args.n c.if-n-lt10.false)

pub overflow_add-result-2 : goal.overflow_add-result-2
overflow_add-result-2 t c = omega (arith, length_more c.args.n c.if-n-lt10.false)

pub returns-clause-stored : goal.returns-clause-stored
returns-clause-stored t c =
    let a = c.args in
    rw (more_digits a.n c.if-n-lt10.false, ← c.digit-2.ensures, c.put_digits-last.ensures.next, c.put_digits-last.ensures.stored)
    (sets_append a.bytes.now a.at (digits (a.n / 10)) (c.digit-2.result ∷ []))

pub returns-clause-next : goal.returns-clause-next
returns-clause-next t c = omega (arith, length_more c.args.n c.if-n-lt10.false)
