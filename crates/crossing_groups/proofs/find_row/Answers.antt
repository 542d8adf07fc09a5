-- `find_row` meets its contract: what the first columns cross stands behind what was listed.
use mathlib.Core.Path.{◌≡◌, sym, ap, ap₂, ◌∙◌, subst}
use mathlib.Core.Bool.{true}
use Rattle.solids.specs.Refusals.{accepted}
use Rattle.solids.specs.Admission.{admission}
use Rattle.bounds.specs.Words.{Present, Among, apart, far, box_of}
use Rattle.crossing_rows.specs.declared.Row.{Row}
use Rattle.crossing_rows.specs.Words.{Lying, round, across, count_of, crossing, Behind}
use mathlib.Core.List.{List, [], ◌∷◌}
use Prim.Native.Nat.{ℕ, ◌+◌, ◌<◌}
use native.Mathlib.Omega.{arith}
use lib.IntN.{ℤ, pos}
use lib.ListN.{length, get_or, take, length-append}
use Rattle.list_words.specs.Lists.{keep}
use Rattle.list_words.proofs.Widths.{back_32}
use Rattle.solids.specs.Solids.{Solid}
use Rattle.edges.specs.Readers.{solid_of}
use Rattle.solids.proofs.Admitted.{passed}
use Rattle.bounds.specs.declared.Far.TheVariants.{Apart}
use Rattle.bounds.proofs.Things.{lies_box}
use Rattle.list_words.proofs.Handed.{handed_on}
use Rattle.crossing_rows.proofs.Listings.{crossing_skip, crossing_next, crossing_within, behind_none, behind_then}
use Rattle.crossing_rows.proofs.Rowwise.{in_round, no_count, none_crossed}
use Rattle.crossing_groups.proofs.find_row.Goals.{then-not-far_at+in_ok-k, else-not-far_at}
use Rattle.crossing_groups.proofs.find_row.Goals as goal

-- nothing is crossed where the boxes are apart
none_column : (row : Row) (b : Solid) → admission b ≡ accepted → Lying Present row → (c : ℕ) → far Apart (round row) (box_of (across row) b c) ≡ true → count_of row b c ≡ pos 0
unfolding far
none_column row b a p c h = no_count row b c (round row) (box_of (across row) b c) h (in_round row p) (lies_box b (passed b a) (across row) c)

-- one column more, where there was room for it, and where there was none
module _ (sign : ℤ) (g : ℕ → ℤ) (columns : List ℕ) (i : ℕ) (l : i < length columns) where
  more : {old mid new : List ℕ} {from k total : ℕ} → Behind old from (crossing sign g (take i columns)) mid k → Behind mid k (crossing sign g (get_or columns i 0 ∷ [])) new total
      → Behind old from (crossing sign g (take (i + 1) columns)) new total
  more h b = rw (crossing_next sign g columns i l) (behind_then h b)

  full : {old mid : List ℕ} {from n k : ℕ} → Behind old from (crossing sign g (take i columns)) mid k → n < k + length (crossing sign g (get_or columns i 0 ∷ [])) → n < from + length (crossing sign g columns)
  full h b =
      omega (
        arith,
        b,
        h.size,
        ap length (crossing_next sign g columns i l),
        length-append (crossing sign g (take i columns)) (crossing sign g (get_or columns i 0 ∷ [])),
        crossing_within sign g columns (i + 1),
      )

pub returns-then-apart-clause-added : goal.returns-then-apart-clause-added
returns-then-apart-clause-added c =
    let near = c.args.near.now in
    let b = solid_of near.solid in
    let row = c.args.row in
    let e = ap₂ apart (sym c.round-b.ensures) (sym c.requires.sign_bound.1) ∙ sym c.apart.ensures ∙ c.if-apart.true in
    let own : Among near.columns.now (across row) b = subst (λ t. Among near.columns.now t b) c.requires.row.0 near.among in
    rw (none_crossed c.args.search.sign row b (passed b near.admitted) (round row) e (in_round row c.requires.row.1) own)
    (behind_none c.args.crossed.now c.args.from c.requires.from_in_bounds.0)

pub loop-c-init : goal.loop-c-init
unfolding keep
loop-c-init c = behind_none c.args.crossed.now c.args.from c.requires.from_in_bounds.0

pub returns-in_err-k-clause-added : goal.returns-in_err-k-clause-added
returns-in_err-k-clause-added c =
    let l = c.loop-c in
    let near = c.args.near.now in
    let g = count_of c.args.row (solid_of near.solid) in
    let column = get_or near.columns.now l.c-index 0 in
    rw (handed_on _ _ c.from_residual.ensures.1)
    (full c.args.search.sign g near.columns.now l.c-index c.loop-c-test.true l.invariant
    (subst (λ s. length c.add.new.crossed < l.k + length (crossing s g (column ∷ []))) (back_32 c.args.search.sign (omega (arith, c.requires.sign_bound.0))) c.in_err-k.ensures.added))

pub loop-c-preserved : goal.loop-c-preserved
unfolding keep
loop-c-preserved c =
    let l = c.loop-c in
    let t = c.loop-c-test.true in
    let near = c.args.near.now in
    let columns = near.columns.now in
    let column = get_or columns l.c-index 0 in
    let sign = c.args.search.sign in
    let b = solid_of near.solid in
    let g = count_of c.args.row b in
    elim c.if-not-far_at.branch [
      | then-not-far_at+in_ok-k w ↦ let h = subst (λ s. Behind l.crossed l.k (crossing s g (column ∷ [])) w.add.new.crossed w.in_ok-k.k) (back_32 sign (omega (arith, c.requires.sign_bound.0))) w.in_ok-k.ensures.added in
          rw (w.crossed-is, w.k-is) (more sign g columns l.c-index t l.invariant h)
      | else-not-far_at w ↦ let own = near.boxed.own column (near.among.there l.c-index t) ∙ ap (λ t. box_of t b column) c.requires.row.0 in
          let e = ap₂ (far Apart) (sym c.round-b.ensures) (sym own) ∙ sym c.far_at.ensures ∙ w.if-not-far_at.false in
          let none = crossing_skip sign g column [] (none_column c.args.row b near.admitted c.requires.row.1 column e) in
          rw (w.crossed-is, w.k-is) (more sign g columns l.c-index t l.invariant (rw none (behind_none l.crossed l.k l.invariant.room)))
    ]
