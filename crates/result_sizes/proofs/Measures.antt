-- What the lists of crossings and the vertices' lists say of both solids: that they are what the walks ask, and give the table's triangles.
use mathlib.Core.Path.{◌≡◌, sym, ap, ◌∙◌}
use mathlib.Core.List.{List}
use Prim.Native.Nat.{ℕ, ◌+◌, ◌<◌, ◌≤◌}
use native.Mathlib.Omega.{arith}
use lib.IntN.{ℤ}
use lib.ListN.{length}
use Rattle.solids.specs.Solids.{Solid, vertices}
use Rattle.solids.specs.Refusals.{accepted}
use Rattle.solids.specs.Admission.{admission}
use Rattle.solids.proofs.Admitted.{passed}
use Rattle.results.specs.declared.Operation.{Operation}
use Rattle.results.specs.Inclusion.{cI}
use Rattle.results.specs.Triangles.{Triangle}
use Rattle.layouts.specs.declared.Sizes.{Sizes}
use Rattle.layouts.specs.Words.{sizes, Sized, halves, Columns}
use Rattle.layouts.proofs.Lengths.{sized}
use Rattle.fans.specs.Words.{rank}
use Rattle.vertex_table.specs.Words as T
use Rattle.vertex_table.specs.Words.{inclusions, filled}
use Rattle.vertex_table.proofs.Good.{good, read_triangles}
use Rattle.kept_lists.specs.Words as K
use Rattle.kept_lists.proofs.Found.{listing_columns}
use Rattle.kept_lists.proofs.Use.{walked_triangles, walked_balanced}
use Rattle.crossing_rows.proofs.Room.{enough}
use Rattle.result_numbers.specs.Words.{Numbered}
use Rattle.result_numbers.proofs.Listed.{listed}
use Rattle.result_numbers.proofs.Numbered.{follows_A, follows_B}
use Rattle.result_sizes.specs.Words.{Lists}
use Rattle.result_sizes.proofs.Vertices.{own_A, own_B}

module _ (op : Operation) (a b : Solid) (ok_a : admission a ≡ accepted) (ok_b : admission b ≡ accepted) {z : Sizes} {total : ℕ} {hs : List ℕ} {inc : List ℤ} {first crossed : List ℕ} (l : Lists op a b z total hs inc first crossed) where
  -- how many there can be
  pub z_sized : Sized z
  z_sized = rw l.of_z_list (sized a b (passed a ok_a) (passed b ok_b))

  pub few_crossings : total ≤ 196608
  few_crossings = rw l.size (enough (cI op) a b ok_a ok_b)

  pub vertices_there : z.va + z.vb ≤ length inc
  vertices_there = rw l.of_z_list l.included.long

  -- what the walk asks
  pub columns_there : 640 < length first → Columns z first crossed
  columns_there h =
      let zs = sized a b (passed a ok_a) (passed b ok_b) in
      rw l.of_z_list (listing_columns (filled op a b) (sizes a b) (listed op a b l.listing) zs (omega (arith, zs.ea, zs.fa)))

  pub halves_there : T.Halves hs z
  halves_there = rw (l.of_z_list, l.of_hs) (good op a b (passed a ok_a) (passed b ok_b)).halves

  module _ {num : List ℕ} {base n : ℕ} (v : Numbered op a b num base n) where
    abbrev w : K.Rows
    w = K.rows first crossed base

    abbrev ts : List Triangle
    ts = T.triangles (K.dense z inc num w) hs z

    -- the triangles are those of the table of both
    pub as_filled : ts ≡ T.triangles (filled op a b) (halves a b) (sizes a b)
    as_filled =
        let start : 0 + vertices a ≡ vertices a = omega arith in
        rw (l.of_z_list, l.of_hs) (
        walked_triangles op a b w (passed a ok_a) (passed b ok_b) inc num (listed op a b l.listing) (v.of_A.next ∙ ap (rank (inclusions op a b)) start)
        (own_A op a b (follows_A op a b l.included) v.of_A) (own_B op a b (follows_B op a b l.included) v.of_B)
        ∙ sym (read_triangles op a b (passed a ok_a) (passed b ok_b)))

    pub ready : 640 < length first → 256 ≤ length num → base + length crossed ≤ 1048576 → K.Ready hs z inc num w
    ready long room few =
        let c = columns_there long in
        record {
          halves = halves_there;
          vertices = record { inc_long = vertices_there; num_long = omega (arith, z_sized.va, z_sized.vb); small = l.included.few };
          crossings = record { first_long = c.first_long; within = c.within; few = few };
        }

    pub balanced : K.Balanced hs z inc num w
    balanced =
        let start : 0 + vertices a ≡ vertices a = omega arith in
        rw (l.of_z_list, l.of_hs) (
        walked_balanced op a b w (passed a ok_a) (passed b ok_b) inc num (listed op a b l.listing) (v.of_A.next ∙ ap (rank (inclusions op a b)) start)
        (own_A op a b (follows_A op a b l.included) v.of_A) (own_B op a b (follows_B op a b l.included) v.of_B))
