-- `put_vertex` meets its contract: the mark and three numbers, each where the one before it ended.
use mathlib.Core.Path.{refl}
use Prim.Native.Nat.{◌+◌}
use native.Mathlib.Omega.{arith}
use lib.Ieee.{is_nan}
use borrow.Author.Rules.{rules}
use Rattle.list_words.proofs.Tests.{any_false}
use Rattle.numbers.specs.Numbers.{bytes, float_bytes}
use Rattle.numbers.proofs.Numbers.{length_float_bytes}
use Rattle.points.specs.Points.{coordinates}
use Rattle.list_stores.proofs.Stores.{sets_four}
use Rattle.housefile.specs.Records.{mark_VX}
use Rattle.housefile.proofs.Records.{vx_parts}
use Rattle.housefile_records.proofs.put_vertex.Goals as goal

pub put_float-requires : goal.put_float-requires
put_float-requires c = (search rules, (any_false is_nan (coordinates c.args.v) c.requires.1).0)

pub put_float-requires-2 : goal.put_float-requires-2
put_float-requires-2 c = (search rules, (any_false is_nan (coordinates c.args.v) c.requires.1).1.0)

pub put_float-requires-3 : goal.put_float-requires-3
put_float-requires-3 c = (search rules, (any_false is_nan (coordinates c.args.v) c.requires.1).1.1.0)

pub returns : goal.returns
unfolding bytes
returns c =
    let a = c.args in
    rw (vx_parts a.v, c.put_float-3.ensures, c.put_float-2.ensures, c.put_float.ensures, c.put_number.ensures)
    (sets_four a.bytes.now a.at (a.at + 2) (a.at + 10) (a.at + 18) mark_VX (float_bytes a.v.x) (float_bytes a.v.y) (float_bytes a.v.z) refl
    (omega (arith, length_float_bytes a.v.x)) (omega (arith, length_float_bytes a.v.y)))
