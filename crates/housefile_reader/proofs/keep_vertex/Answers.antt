-- `keep_vertex` meets its contract: three numbers within the room, none beyond.
use mathlib.Core.Path.{◌∙◌}
use Rattle.points.specs.Points.{coordinates}
use Rattle.housefile_reader.proofs.Kept.{kept_within, kept_beyond}
use Rattle.housefile_reader.proofs.keep_vertex.Goals as goal

pub returns-then-i-lt128 : goal.returns-then-i-lt128
returns-then-i-lt128 c =
    let k = c in
    let a = k.args in
    c.put_point.ensures ∙ kept_within 128 a.i (coordinates a.v) a.points.now k.if-i-lt128.true

pub returns-else-i-lt128 : goal.returns-else-i-lt128
returns-else-i-lt128 c = let a = c.args in kept_beyond 128 a.i _ a.points.now c.if-i-lt128.false
