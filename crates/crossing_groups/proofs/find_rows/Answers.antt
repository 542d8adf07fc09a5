-- `find_rows` meets its contract: the rows below r are listed.
use mathlib.Core.Path.{◌≡◌, refl, sym, ◌∙◌, subst}
use mathlib.Core.List.{List}
use Prim.Native.Nat.{ℕ, ◌+◌, ◌<◌, ◌≤◌}
use native.Mathlib.Omega.{arith}
use lib.ListN.{get_or}
use Rattle.solids.specs.Solids.{Solid}
use Rattle.edges.specs.Readers.{solid_of}
use Rattle.solids.proofs.Admitted.{passed}
use Rattle.std.specs.Prelude.{Result, Ok, Err}
use Rattle.box_lists.specs.declared.Near.{Near}
use Rattle.crossing_rows.specs.declared.Full.{Full}
use Rattle.crossing_rows.specs.declared.Row.{Row}
use Rattle.crossing_rows.specs.Words.{row, across, count_of, row_of, crossing, Added}
use Rattle.list_words.proofs.Handed.{handed_on}
use Rattle.crossing_rows.proofs.Listings.{below_next, below_within, listing_next}
use Rattle.crossing_rows.proofs.Rowwise.{row_present}
use Rattle.crossing_groups.specs.declared.Search.{Search}
use Rattle.crossing_groups.specs.Words.{Searching, Offered}
use Rattle.crossing_groups.proofs.find_rows.Goals as goal

module _ {search : Search} {a : Solid} {near : Near} (q : Searching search a (solid_of near.solid)) (o : Offered search a near) (r : ℕ) (from : search.begin ≤ r) (to : r < search.end) where
  kind : near.thing ≡ across (row_of a r)
  kind = o.kind ∙ sym (q.kind r from to)

  added : (old new : List ℕ) (at : ℕ) (w : Row) (x : Result ℕ Full) → w ≡ row_of a r → Added old at (crossing search.sign (count_of w (solid_of near.solid)) near.columns.now) new x
      → Added old at (row search.sign a (solid_of near.solid) r) new x
  added old new at w x e h =
      subst (λ m. Added old at m new x) (o.enough r from to)
      (subst (λ w. Added old at (crossing search.sign (count_of w (solid_of near.solid)) near.columns.now) new x) e h)

pub find_row-requires-clause-row : goal.find_row-requires-clause-row
find_row-requires-clause-row c =
    let l = c.loop-r in
    let near = c.args.near.now in
    rw c.row_at-row.ensures (
      kind c.requires.searching c.requires.offered l.r l.auto.r c.loop-r-test.true,
      row_present (solid_of c.args.a) (solid_of near.solid) l.r (passed _ c.requires.admitted) (passed _ near.admitted),
    )

pub returns-in_err-total-clause-reached : goal.returns-in_err-total-clause-reached
returns-in_err-total-clause-reached c =
    let l = c.loop-r in
    let t = c.loop-r-test.true in
    let of_A = row c.args.search.sign (solid_of c.args.a) (solid_of c.args.near.now.solid) in
    let from = get_or l.first l.r 0 in
    let full = added c.requires.searching c.requires.offered l.r l.auto.r t l.crossed c.find_row.new.crossed from c.row_at-row.result (Err c.in_err-total.field-0.0) c.row_at-row.ensures c.in_err-total.ensures.added in
    rw (handed_on _ _ c.from_residual.ensures.1)
    (omega (arith, full, l.invariant.starts l.r (omega arith), below_next of_A l.r, below_within of_A (l.r + 1) c.args.search.end (omega (arith, t))))

pub loop-r-preserved : goal.loop-r-preserved
loop-r-preserved c =
    let l = c.loop-r in
    let t = c.loop-r-test.true in
    let of_A = row c.args.search.sign (solid_of c.args.a) (solid_of c.args.near.now.solid) in
    let from = get_or l.first l.r 0 in
    let h = added c.requires.searching c.requires.offered l.r l.auto.r t l.crossed c.find_row.new.crossed from c.row_at-row.result (Ok c.in_ok-total.total) c.row_at-row.ensures c.in_ok-total.ensures.added in
    (listing_next of_A l.r l.first (omega (arith, t, l.auto.first)) refl l.invariant h).1
