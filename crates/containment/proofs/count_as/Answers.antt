-- `count_as` meets its contract: a refusal with count 0, or the count of an admitted solid.
use mathlib.Core.Path.{sym}
use mathlib.Core.List.{[], ◌∷◌}
use native.Mathlib.Omega.{arith}
use Rattle.solids.specs.Solids.{lent}
use Rattle.solids.specs.Admission.{admission, point_admission}
use Rattle.solids.proofs.Admitted.{passed}
use Rattle.solids.proofs.Closure.{named}
use Rattle.solids.proofs.Checks.{all_accepted}
use Rattle.containment.proofs.count_as.Goals as goal

pub contained-requires : goal.contained-requires
contained-requires c =
    let s = lent c.args.points c.args.corners in
    let all = all_accepted (point_admission c.args.v ∷ admission s ∷ []) (sym c.in-Ok.ensures) in
    let p = passed s all.1.0 in
    (named s p.corners_whole p.proper, omega (arith, p.few_facets, p.corners_whole))
