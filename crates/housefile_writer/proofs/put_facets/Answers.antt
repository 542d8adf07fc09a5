-- `put_facets` meets its contract: the facets below f are put, one where the one before it ended.
use mathlib.Core.Path.{refl, ◌∙◌}
use mathlib.Core.List.{[], flat_map}
use Prim.Native.Nat.{◌+◌, ◌*◌}
use native.Mathlib.Nat.{add-zero, le_antisymm}
use lib.Seq.{length-sets}
use Rattle.list_words.specs.Lists.{up_to}
use Rattle.list_stores.proofs.Stores.{run_next}
use Rattle.solids.specs.Solids.{solid, corner}
use Rattle.housefile.specs.declared.Record.TheVariants.{Fc}
use Rattle.housefile.specs.Records.{encoded}
use Rattle.housefile_writer.specs.Words.{facet_part}
use Rattle.housefile.proofs.Records.{length_encoded}
use Rattle.housefile_writer.proofs.put_facets.Invariants.{facet_bytes}
use Rattle.housefile_writer.proofs.put_facets.Goals as goal

pub loop-f-init : goal.loop-f-init
unfolding up_to flat_map
loop-f-init c = (refl, refl)

pub loop-f-preserved : goal.loop-f-preserved
loop-f-preserved c =
    let cs = c.args.corners.now in
    let old = c.args.bytes.now in
    let at = c.args.at in
    let e = run_next (facet_bytes cs) 14 (λ f. length_encoded (Fc (corner (solid [] cs) f 0) (corner (solid [] cs) f 1) (corner (solid [] cs) f 2))) old at c.loop-f.f in (
      rw c.put_facet.ensures (length-sets c.loop-f.bytes (at + 14 * c.loop-f.f) (encoded (Fc _ _ _)) ∙ c.loop-f.invariant.0),
      rw (c.put_facet.ensures, c.loop-f.invariant.1) (rw (add-zero (3 * c.loop-f.f)) at e),
    )

pub returns : goal.returns
unfolding facet_part
returns c = rw (← le_antisymm c.loop-f.auto.f-end c.loop-f-test.false) c.loop-f.invariant.1
