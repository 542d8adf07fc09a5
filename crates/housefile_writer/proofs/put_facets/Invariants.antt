use mathlib.Core.Path.{◌≡◌}
use mathlib.Core.List.{List, [], flat_map}
use Prim.Native.Nat.{ℕ}
use lib.ListN.{length}
use lib.Seq.{sets}
use Rattle.list_words.specs.Lists.{up_to}
use Rattle.solids.specs.Solids.{solid, corner}
use Rattle.housefile.specs.declared.Record.TheVariants.{Fc}
use Rattle.housefile.specs.Records.{encoded}
use Rattle.housefile_writer.proofs.put_facets.Given as goal

abbrev pub facet_bytes : List ℕ → ℕ → List ℕ
facet_bytes corners f = encoded (Fc (corner (solid [] corners) f 0) (corner (solid [] corners) f 1) (corner (solid [] corners) f 2))

abbrev pub invariant-loop-f : goal.invariant-loop-f
invariant-loop-f l =
    (length l.bytes ≡ length l.initial.bytes) × (l.bytes ≡ sets l.initial.bytes l.at (flat_map (facet_bytes l.corners) (up_to l.f)))
