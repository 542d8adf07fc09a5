-- The three parts of a file, each where the one before it ended.
use mathlib.Core.Path.{◌≡◌, ap, ◌∙◌}
use mathlib.Core.List.{List}
use Prim.Native.Nat.{ℕ, ◌+◌, ◌*◌, ◌≤◌}
use native.Mathlib.Nat.{zero-add}
use lib.ListN.{length}
use lib.Seq.{sets}
use Rattle.list_words.specs.Lists.{onto}
use Rattle.list_stores.proofs.Stores.{sets_onto, sets_three, length_run}
use Rattle.solids.specs.Solids.{Solid, vertices, facets, vertex, corner}
use Rattle.housefile.specs.declared.Record.{Record}
use Rattle.housefile.specs.declared.Record.TheVariants.{Vx, Fc, En}
use Rattle.housefile.specs.Records.{encoded}
use Rattle.housefile.specs.Writer.{file}
use Rattle.housefile.proofs.Records.{length_encoded}
use Rattle.housefile_writer.specs.Words.{vertex_part, facet_part}

pub file_put : (s : Solid) (old : List ℕ) → length (file s) ≤ length old
    → sets (sets (sets old 0 (vertex_part s)) (26 * vertices s) (facet_part s)) (26 * vertices s + 14 * facets s) (encoded En) ≡ onto (file s) old
unfolding file vertex_part facet_part
file_put s old h =
    sets_three old 0 (26 * vertices s) (26 * vertices s + 14 * facets s) (vertex_part s) (facet_part s) (encoded En)
    (zero-add (length (vertex_part s)) ∙ length_run (λ i. encoded (Vx (vertex s i))) 26 (λ i. length_encoded (Vx (vertex s i))) (vertices s))
    (ap (λ n. 26 * vertices s + n) (length_run (λ f. encoded (facet f)) 14 (λ f. length_encoded (facet f)) (facets s)))
    ∙ sets_onto old (file s) h
  where
    facet : ℕ → Record
    facet f = Fc (corner s f 0) (corner s f 1) (corner s f 2)
