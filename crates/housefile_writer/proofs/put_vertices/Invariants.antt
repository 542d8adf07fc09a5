use mathlib.Core.Path.{◌≡◌}
use mathlib.Core.List.{List, [], flat_map}
use Prim.Native.Nat.{ℕ}
use lib.ListN.{length}
use lib.Seq.{sets}
use lib.Ieee.{Float}
use Rattle.list_words.specs.Lists.{up_to}
use Rattle.solids.specs.Solids.{solid, vertex}
use Rattle.housefile.specs.declared.Record.TheVariants.{Vx}
use Rattle.housefile.specs.Records.{encoded}
use Rattle.housefile_writer.proofs.put_vertices.Given as goal

abbrev pub vertex_bytes : List Float → ℕ → List ℕ
vertex_bytes points i = encoded (Vx (vertex (solid points []) i))

abbrev pub invariant-loop-i : goal.invariant-loop-i
invariant-loop-i l =
    (length l.bytes ≡ length l.initial.bytes) × (l.bytes ≡ sets l.initial.bytes 0 (flat_map (vertex_bytes l.points) (up_to l.i)))
