-- `number_at` meets its contract: the bytes from place at on are read.
use native.Mathlib.Omega.{arith}
use borrow.Author.Rules.{rules}
use Rattle.numbers.proofs.Numbers.{read_none, read_next, read_fits, read_all}
use Rattle.numbers.proofs.in_bytes.number_at.Goals as goal

pub loop-byte-init : goal.loop-byte-init
loop-byte-init c = read_none c.args.at c.args.n c.args.bytes.now _ c.requires.0 cc

pub overflow_mul-number : goal.overflow_mul-number
overflow_mul-number c =
    let h = read_fits c.args.at c.args.n c.args.bytes.now c.loop-byte.invariant _ c.in-Some.byte.now (search rules) c.in-Some.ensures.steps c.requires.1 in
    omega arith

pub overflow_add-number : goal.overflow_add-number
overflow_add-number c =
    let h = read_fits c.args.at c.args.n c.args.bytes.now c.loop-byte.invariant _ c.in-Some.byte.now (search rules) c.in-Some.ensures.steps c.requires.1 in
    omega arith

pub loop-byte-preserved : goal.loop-byte-preserved
loop-byte-preserved c = read_next c.args.at c.args.n c.args.bytes.now c.loop-byte.invariant _ c.in-Some.byte.now (search rules) c.in-Some.ensures.steps

pub returns : goal.returns
returns c =
    let h = read_all c.args.at c.args.n c.args.bytes.now _ c.loop-byte.invariant c.in-None.ensures.steps.0 in
    record { value = h.0; small = h.1 }
