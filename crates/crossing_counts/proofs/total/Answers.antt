-- `total` meets its contract.
use mathlib.Core.Path.{◌≡◌}
use mir.Syntax.{w32}
use mir.Val.{to_z, of_z}
use mir.Facts.{to_z-of_z}
use Rattle.crossing_counts.proofs.Pairs.{fits_ab, fits_yz, fits_xyz, fits_all}
use borrow.Author.Rules.{rules}
use Rattle.crossing_counts.proofs.total.Goals as goal

pub overflow_sub-result-2 : goal.overflow_sub-result-2
overflow_sub-result-2 c =
    let ha : to_z w32 (of_z w32 c.args.a) ≡ c.args.a = search rules in
    let hb : to_z w32 (of_z w32 c.args.b) ≡ c.args.b = search rules in
    let hx : to_z w32 (of_z w32 c.args.x) ≡ c.args.x = search rules in
    let hy : to_z w32 (of_z w32 c.args.y) ≡ c.args.y = search rules in
    let hz : to_z w32 (of_z w32 c.args.z) ≡ c.args.z = search rules in
    rw (ha, hb, hx, hy, hz, to_z-of_z (fits_ab c.args.a c.args.b c.args.x c.args.y c.args.z c.requires), to_z-of_z (fits_yz c.args.a c.args.b c.args.x c.args.y c.args.z c.requires), to_z-of_z (fits_xyz c.args.a c.args.b c.args.x c.args.y c.args.z c.requires)) (fits_all c.args.a c.args.b c.args.x c.args.y c.args.z c.requires)

pub returns : goal.returns
returns c =
    let ha : to_z w32 (of_z w32 c.args.a) ≡ c.args.a = search rules in
    let hb : to_z w32 (of_z w32 c.args.b) ≡ c.args.b = search rules in
    let hx : to_z w32 (of_z w32 c.args.x) ≡ c.args.x = search rules in
    let hy : to_z w32 (of_z w32 c.args.y) ≡ c.args.y = search rules in
    let hz : to_z w32 (of_z w32 c.args.z) ≡ c.args.z = search rules in
    rw (
      ha,
      hb,
      hx,
      hy,
      hz,
      to_z-of_z (fits_ab c.args.a c.args.b c.args.x c.args.y c.args.z c.requires),
      to_z-of_z (fits_yz c.args.a c.args.b c.args.x c.args.y c.args.z c.requires),
      to_z-of_z (fits_xyz c.args.a c.args.b c.args.x c.args.y c.args.z c.requires),
      to_z-of_z (fits_all c.args.a c.args.b c.args.x c.args.y c.args.z c.requires),
    )
