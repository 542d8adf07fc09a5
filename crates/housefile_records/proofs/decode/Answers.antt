-- `decode` meets its contract, mark by mark.
use mathlib.Core.Path.{◌≡◌, refl, sym, ◌∙◌}
use native.Mathlib.Omega.{arith}
use Rattle.numbers.specs.Numbers.{number, number_at}
use Rattle.housefile.specs.declared.Record.TheVariants.{Vx, Fc, En}
use Rattle.housefile.specs.Records.{mark_VX, mark_FC, mark_EN}
use Rattle.housefile.proofs.Records.{unmarked, too_few, other_mark, marked_not, begins_decoded}
use Rattle.housefile_records.proofs.decode.Goals as goal

pub returns-then-bytes-lt2 : goal.returns-then-bytes-lt2
returns-then-bytes-lt2 c = let bs = c.args.bytes.now in sym (unmarked bs (too_few bs mark_VX 26 (omega arith)) (too_few bs mark_FC 14 (omega arith)) (too_few bs mark_EN 2 (omega arith)))

pub returns-in-22614 : goal.returns-in-22614
unfolding number
returns-in-22614 c =
    let bs = c.args.bytes.now in
    sym (begins_decoded bs (Vx (record { x = c.float_at.result; y = c.float_at-in-22614.result; z = c.float_at-in-22614-2.result })) (
      sym c.number_at.ensures.value ∙ c.in-22614.is,
      omega arith,
      λ i. record { x = c.float_at.ensures i; y = c.float_at-in-22614.ensures i; z = c.float_at-in-22614-2.ensures i },
    ))

pub returns-in-17222 : goal.returns-in-17222
unfolding number
returns-in-17222 c =
    let bs = c.args.bytes.now in
    sym (begins_decoded bs (Fc c.corner_at.result c.corner_at-in-17222.result c.corner_at-in-17222-2.result) (
      sym c.number_at.ensures.value ∙ c.in-17222.is,
      omega arith,
      c.corner_at.ensures,
      c.corner_at-in-17222.ensures,
      c.corner_at-in-17222-2.ensures,
    ))

pub returns-in-20037 : goal.returns-in-20037
unfolding number
returns-in-20037 c =
    let bs = c.args.bytes.now in
    sym (begins_decoded bs En (sym c.number_at.ensures.value ∙ c.in-20037.is, c.if-bytes-lt2.false))

pub returns-in_default : goal.returns-in_default
unfolding number
returns-in_default c =
    let bs = c.args.bytes.now in
    let m : number_at 0 2 bs ≡ number mark_VX = sym c.number_at.ensures.value ∙ c.in-22614.is in
    sym (unmarked bs (too_few bs mark_VX 26 (omega arith)) (marked_not bs mark_VX mark_FC 14 m refl) (marked_not bs mark_VX mark_EN 2 m refl))

pub returns-in_default-2 : goal.returns-in_default-2
unfolding number
returns-in_default-2 c =
    let bs = c.args.bytes.now in
    let m : number_at 0 2 bs ≡ number mark_FC = sym c.number_at.ensures.value ∙ c.in-17222.is in
    sym (unmarked bs (marked_not bs mark_FC mark_VX 26 m refl) (too_few bs mark_FC 14 (omega arith)) (marked_not bs mark_FC mark_EN 2 m refl))

pub returns-in_default-3 : goal.returns-in_default-3
unfolding number
returns-in_default-3 c =
    let bs = c.args.bytes.now in
    let e = c.number_at.ensures.value in
    let no_VX = other_mark bs mark_VX 26 (λ m. let n : c.number_at.result ≡ 22614 = e ∙ m in omega arith) in
    let no_FC = other_mark bs mark_FC 14 (λ m. let n : c.number_at.result ≡ 17222 = e ∙ m in omega arith) in
    let no_EN = other_mark bs mark_EN 2 (λ m. let n : c.number_at.result ≡ 20037 = e ∙ m in omega arith) in
    sym (unmarked bs no_VX no_FC no_EN)
