-- `put_facets` meets its contract: the faces in the code are those that the rule gives, each behind the one before it.
use mathlib.Core.Path.{refl, ◌∙◌}
use mathlib.Core.List.{List, flat_map}
use Prim.Native.Nat.{ℕ}
use lib.ListN.{get_or}
use Rattle.list_stores.proofs.Runs.{run_none, run_next, run_all}
use Rattle.list_stores.proofs.Stores.{sets_onto}
use Rattle.points.specs.declared.Axis.TheVariants.{X}
use Rattle.outage_rows.specs.Box.{faces, cut}
use Rattle.outage_rows.proofs.Computing.{the_rule}
use Rattle.outage_boxes.proofs.put_facets.Goals as goal

-- the facets of face i
abbrev facets_of : ℕ → List ℕ
facets_of i = cut (get_or faces i (X, 0))

pub returns : goal.returns
unfolding the_rule
returns c =
    let old = c.args.corners.now in
    let r0 = run_none facets_of old 0 in
    let r1 = run_next r0 c.put_face.ensures refl in
    let r2 = run_next r1 c.put_face-2.ensures refl in
    let r3 = run_next r2 c.put_face-3.ensures refl in
    let r4 = run_next r3 c.put_face-4.ensures refl in
    let r5 = run_next r4 c.put_face-5.ensures refl in
    let r6 = run_next r5 c.put_face-6.ensures refl in
    (run_all r6 refl).0 ∙ sets_onto old (flat_map cut faces) c.requires
