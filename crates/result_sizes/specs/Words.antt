-- Words of contracts; no public statement needs them. The lists of two admitted solids: what is gathered of them, and what is measured by it.
use Rattle.std.specs.Prelude.{Result, Ok, Err, ◌≡◌, ℕ, ◌+◌, ◌*◌, ◌≤◌, Float, ℤ, length, take, drop}
use mathlib.Core.List.{List, flat_map}
use Rattle.list_words.specs.Lists.{up_to}
use Rattle.solids.specs.Solids.{Solid, solid}
use Rattle.solids.specs.Refusals.{accepted}
use Rattle.solids.specs.Admission.{admission}
use Rattle.results.specs.declared.Operation.{Operation}
use Rattle.results.specs.Inclusion.{cI}
use Rattle.edges.specs.Words as Ed
use Rattle.layouts.specs.declared.Sizes.{Sizes}
use Rattle.layouts.specs.Words.{sizes, halves, Listing}
use Rattle.vertex_table.specs.Words as T
use Rattle.kept_lists.specs.Words as K
use Rattle.crossing_rows.specs.Words.{row, rows}
use Rattle.inclusions.specs.Words.{Included}
use Rattle.result_numbers.specs.Words.{Numbered}
use Rattle.crossing_rows.specs.declared.Full.{Full}

-- half-edges, inclusions and `total` crossings are those of two solids
pub record Lists (op : Operation) (a b : Solid) (z : Sizes) (total : ℕ) (hs : List ℕ) (inc : List ℤ) (first crossed : List ℕ) : Type 0 where
  pub of_z_list : z ≡ sizes a b
  pub of_hs : hs ≡ halves a b
  pub included : Included op a b inc
  pub size : total ≡ length (flat_map (row (cI op) a b) (up_to (rows a b)))
  pub listing : Listing (row (cI op) a b) (rows a b) first crossed

-- the ends of both solids' edges
abbrev pub Ends : List Float → List ℕ → List Float → List ℕ → List ℕ → Type 0
Ends ap ac bp bc ends = Ed.Ready ap ac (take 768 ends) × Ed.Ready bp bc (drop 768 ends) × (length ends ≡ 1536)

-- `Full`: there is not room for 196,608 crossings
abbrev pub Told : Operation → List Float → List ℕ → List Float → List ℕ → List ℕ → List ℕ → List ℤ → List ℕ → List ℕ → Result (Sizes × ℕ) Full → Type 0
Told op ap ac bp bc ends hs inc first crossed (Ok (z, total)) =
    Lists op (solid ap ac) (solid bp bc) z total (take (9 * (z.fa + z.fb)) hs) inc first crossed × Ends ap ac bp bc ends × (length inc ≡ 256) × (length first ≡ 641)
Told op ap ac bp bc ends hs inc first crossed (Err full) = 196608 ≤ length crossed → ⊥

-- there are two admitted solids whose lists they are
pub record OfSome (z : Sizes) (total : ℕ) (hs : List ℕ) (inc : List ℤ) (first crossed : List ℕ) : Type 0 where
  pub op : Operation
  pub a : Solid
  pub b : Solid
  pub ok_a : admission a ≡ accepted
  pub ok_b : admission b ≡ accepted
  pub lists : Lists op a b z total hs inc first crossed

-- n vertices and m triangles, and what the triangles are then written from; it holds for whatever solids and operation have these lists
pub record Measures (z : Sizes) (total : ℕ) (hs : List ℕ) (inc : List ℤ) (num first crossed marks : List ℕ) (base n m : ℕ) : Type 0 where
  pub numbered : (op : Operation) (a b : Solid) → Lists op a b z total hs inc first crossed → Numbered op a b num base n
  pub ready : K.Ready hs z inc num (K.rows first crossed base)
  pub marked : K.Marked hs z (K.rows first crossed base) marks
  pub counted : m ≡ length (T.triangles (K.dense z inc num (K.rows first crossed base)) hs z)
  pub num_long : length num ≡ 256
  pub marks_long : length marks ≡ 5120
  pub few_vertices : n ≤ 196864
  pub few_triangles : m ≤ 1574400
