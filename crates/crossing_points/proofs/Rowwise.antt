-- The points of all crossings, stored row by row; a row by itself has the points that it has among all.
use mathlib.Core.Path.{◌≡◌, refl, ap, ◌∙◌}
use mathlib.Core.Bool.{Bool, true, false, cond}
use mathlib.Core.List.{List}
use Prim.Native.Nat.{ℕ, ◌+◌, ◌-◌, ◌<◌, ◌≤◌}
use native.Mathlib.Omega.{arith}
use lib.Dec.{ltb}
use lib.Ieee.{Float}
use lib.ListN.{length, get_or}
use lib.Seq.{sets}
use Rattle.list_words.specs.Lists.{up_to}
use Rattle.list_words.proofs.Sums.{flat_ext}
use Rattle.points.specs.Points.{coordinates}
use Rattle.solids.specs.Solids.{Solid, facets, edges, edge, facet}
use Rattle.edges.specs.Words.{edge_numbered}
use Rattle.results.specs.Inclusion.{eAfB, fAeB, edge_facet, facet_edge, place}
use Rattle.layouts.specs.declared.Sizes.{Sizes}
use Rattle.layouts.specs.Words.{sizes, column, columns, Columns}
use Rattle.crossing_rows.specs.declared.Row.{Row}
use Rattle.crossing_rows.specs.declared.Row.TheVariants.{OfEdge, OfFacet}
use Rattle.crossing_rows.specs.Words.{row_of}
use Rattle.crossing_points.specs.Words.{key_at, stretch, of_row, of_rows, width, point_on}
use Rattle.list_stores.proofs.Runs.{Run, run_none, run_room, run_next, run_all}

module _ (a b : Solid) where
  -- ---- a row by itself
  point_is : (r c : ℕ) → point_on (row_of a r) b c ≡ place a b (key_at a b r c)
  unfolding point_on row_of place key_at edge_facet facet_edge
  point_is r c = go (ltb r (length (edges a)))
    where
      e : Row
      e = OfEdge (edge a (edge_numbered a r))

      f : Row
      f = OfFacet (facet a (r - length (edges a)))

      go : (t : Bool) → point_on (cond t e f) b c ≡ place a b (cond t (eAfB (edge_numbered a r) c) (fAeB (r - length (edges a)) (edge_numbered b c)))
      go true = refl
      go false = refl

  width_is : (r : ℕ) → width (row_of a r) b ≡ columns (sizes a b) r
  unfolding width row_of
  width_is r = go (ltb r (length (edges a)))
    where
      go : (t : Bool) → width (cond t (OfEdge (edge a (edge_numbered a r))) (OfFacet (facet a (r - length (edges a))))) b ≡ cond t (facets b) (length (edges b))
      go true = refl
      go false = refl

  module _ (first crossed : List ℕ) where
    abbrev alone : Row → ℕ → List Float
    alone row r = stretch (point_on row b) crossed (get_or first r 0) (get_or first (r + 1) 0)

    alone_is : {row : Row} (r : ℕ) → row ≡ row_of a r → alone row r ≡ of_row a b first crossed r
    unfolding stretch of_row
    alone_is r e =
        let at : ℕ → ℕ = λ i. column (get_or crossed (get_or first r 0 + i) 0) in
        rw e (flat_ext (λ i. coordinates (point_on (row_of a r) b (at i))) (λ i. coordinates (place a b (key_at a b r (at i)))) (up_to (get_or first (r + 1) 0 - get_or first r 0)) (λ i. ap coordinates (point_is r (at i))))

    -- what is asked of its columns
    pub row_columns : {z : Sizes} {row : Row} {r : ℕ} → z ≡ sizes a b → Columns z first crossed → r < z.ea + z.fa → row ≡ row_of a r
        → (get_or first (r + 1) 0 ≤ length crossed)
        × ((k : ℕ) → get_or first r 0 ≤ k → k < get_or first (r + 1) 0 → column (get_or crossed k 0) < width row b)
    row_columns {z} {row} {r} e c h q =
        let w : width row b ≡ columns z r = rw (q, e) (width_is r) in
        (c.within (r + 1) (omega arith), λ k l u. rw w (c.column r k h l u))

    -- ---- row by row: the first r are stored
    pub record Rowed (old new : List Float) (start at r : ℕ) : Type 0 where
      pub within : r ≤ length (edges a) + facets a
      pub run : Run (of_row a b first crossed) old new start at r

    pub rowed_none : (old : List Float) (start : ℕ) → Rowed old old start start 0
    rowed_none old start = record { within = omega arith; run = run_none (of_row a b first crossed) old start }

module _ {a b : Solid} {first crossed : List ℕ} {old new : List Float} {start at r : ℕ} (g : Rowed a b first crossed old new start at r) where
  module _ {row : Row} (h : r < length (edges a) + facets a) (q : row ≡ row_of a r) where
    pub rowed_room : start + length (of_rows a b first crossed) ≤ length old → at + length (alone a b first crossed row r) ≤ length new
    unfolding of_rows
    rowed_room room = rw (alone_is a b first crossed r q) (run_room g.run h room)

    pub rowed_next : {last : List Float} {behind : ℕ} → last ≡ sets new at (alone a b first crossed row r) → behind ≡ at + length (alone a b first crossed row r)
        → Rowed a b first crossed old last start behind (r + 1)
    rowed_next e f =
        let s = alone_is a b first crossed r q in
        record { within = omega arith; run = run_next g.run (e ∙ ap (sets new at) s) (f ∙ ap (λ l. at + length l) s) }

  pub rowed_all : length (edges a) + facets a ≤ r → (new ≡ sets old start (of_rows a b first crossed)) × (at ≡ start + length (of_rows a b first crossed))
  unfolding of_rows
  rowed_all h = let w = g.within in run_all g.run (omega arith)
