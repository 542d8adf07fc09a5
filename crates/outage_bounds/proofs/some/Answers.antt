-- `some` meets its contract: the six bounds, axis by axis.
use mathlib.Core.Path.{◌≡◌, refl, sym, ◌∙◌}
use mathlib.Core.Bool.{Bool, true, false, ◌||◌}
use Rattle.list_words.specs.Lists.{any}
use Rattle.outage_rows.proofs.Either.{then_or, else_or}
use Rattle.outage_bounds.proofs.some.Goals.{then-on_axis, else-on_axis, then-on_axis-2, else-on_axis-2}
use Rattle.outage_bounds.proofs.some.Goals as goal

six : (a b c d e f : Bool) → ((a || b) || (c || d)) || (e || f) ≡ a || (b || (c || (d || (e || (f || false)))))
six true b c d e f = refl
six false true c d e f = refl
six false false true d e f = refl
six false false false true e f = refl
six false false false false true f = refl
six false false false false false true = refl
six false false false false false false = refl

pub returns : goal.returns
unfolding any
returns g c =
    λ p h. let r = c.args.r in
    let x = c.on_axis.ensures p h in
    let xy : c.if-on_axis.value ≡ (p r.x.low || p r.x.high) || (p r.y.low || p r.y.high) = elim c.if-on_axis.branch [
      | then-on_axis w ↦ then_or _ _ _ _ w.value-is w.if-on_axis.true x
      | else-on_axis w ↦ else_or _ _ _ _ _ w.value-is w.if-on_axis.false x (w.on_axis-else-on_axis.ensures p h)
    ] in
    elim c.if-on_axis-2.branch [
      | then-on_axis-2 w ↦ then_or _ _ _ _ w.result-is w.if-on_axis-2.true xy
      | else-on_axis-2 w ↦ else_or _ _ _ _ _ w.result-is w.if-on_axis-2.false xy (w.on_axis-else-on_axis-2.ensures p h)
    ]
    ∙ six (p r.x.low) (p r.x.high) (p r.y.low) (p r.y.high) (p r.z.low) (p r.z.high)
