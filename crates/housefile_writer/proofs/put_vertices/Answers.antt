-- `put_vertices` meets its contract: the vertices below i are put, one where the one before it ended.
use mathlib.Core.Path.{refl, ◌∙◌}
use mathlib.Core.List.{[], flat_map}
use Prim.Native.Nat.{◌*◌}
use native.Mathlib.Nat.{zero-add, le_antisymm}
use lib.Seq.{length-sets}
use borrow.Author.Rules.{rules}
use Rattle.list_words.specs.Lists.{up_to}
use Rattle.list_stores.proofs.Stores.{run_next}
use Rattle.solids.specs.Solids.{solid, vertex}
use Rattle.housefile.specs.declared.Record.TheVariants.{Vx}
use Rattle.housefile.specs.Records.{encoded}
use Rattle.housefile_writer.specs.Words.{vertex_part}
use Rattle.housefile.proofs.Records.{length_encoded}
use Rattle.housefile_writer.proofs.Blanks.{vertex_present}
use Rattle.housefile_writer.proofs.put_vertices.Invariants.{vertex_bytes}
use Rattle.housefile_writer.proofs.put_vertices.Goals as goal

pub loop-i-init : goal.loop-i-init
unfolding up_to flat_map
loop-i-init c = (refl, refl)

pub put_vertex-requires : goal.put_vertex-requires
put_vertex-requires c =
    (search rules, rw c.vertex.ensures (vertex_present c.args.points.now c.loop-i.i c.requires.1 c.loop-i-test.true))

pub loop-i-preserved : goal.loop-i-preserved
loop-i-preserved c =
    let ps = c.args.points.now in
    let old = c.args.bytes.now in
    let e = run_next (vertex_bytes ps) 26 (λ i. length_encoded (Vx (vertex (solid ps []) i))) old 0 c.loop-i.i in (
      rw c.put_vertex.ensures (length-sets c.loop-i.bytes (26 * c.loop-i.i) (encoded (Vx _)) ∙ c.loop-i.invariant.0),
      rw (c.put_vertex.ensures, c.vertex.ensures, c.loop-i.invariant.1) (rw (zero-add (26 * c.loop-i.i)) at e),
    )

pub returns : goal.returns
unfolding vertex_part
returns c = rw (← le_antisymm c.loop-i.auto.i-end c.loop-i-test.false) c.loop-i.invariant.1
