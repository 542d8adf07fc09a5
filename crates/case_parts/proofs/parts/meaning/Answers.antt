-- `meaning` meets its contract: the value is what the closure makes of the letters.
use Rattle.std.proofs.Common.{rules, refl}
use Rattle.case_parts.proofs.parts.meaning.Goals as goal

pub returns-clause-value : goal.returns-clause-value
returns-clause-value g c = (c.letters.result.now, (c.letters.result, search rules, refl))
