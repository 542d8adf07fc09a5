-- `keep_facet` meets its contract: three numbers within the room, none beyond.
use mathlib.Core.Path.{◌∙◌}
use mathlib.Core.List.{[], ◌∷◌}
use Rattle.housefile_reader.proofs.Kept.{kept_within, kept_beyond}
use Rattle.housefile_reader.proofs.keep_facet.Goals as goal

pub returns-then-f-lt256 : goal.returns-then-f-lt256
returns-then-f-lt256 c =
    let k = c in
    let a = k.args in
    c.put_three.ensures ∙ kept_within 256 a.f (a.p ∷ a.q ∷ a.r ∷ []) a.corners.now k.if-f-lt256.true

pub returns-else-f-lt256 : goal.returns-else-f-lt256
returns-else-f-lt256 c = let a = c.args in kept_beyond 256 a.f _ a.corners.now c.if-f-lt256.false
