-- `number` meets its contract: A's numbers, then B's behind the crossings.
use Rattle.result_numbers.proofs.Numbered.{numbers_of}
use Rattle.result_numbers.proofs.number.Goals as goal

pub returns-clause-numbered : goal.returns-clause-numbered
returns-clause-numbered c =
    let x = c.number-base.ensures in
    let y = c.number-all.ensures in
    λ op a b of_z_list i size. numbers_of op a b c.args.total of_z_list i size x.ranked y.ranked y.before
