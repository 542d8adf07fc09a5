-- `half_pieces` meets its contract: where nothing is marked, start and end are all ends.
use mathlib.Core.Path.{◌≡◌, subst}
use mathlib.Core.Bool.{Bool, not}
use mathlib.Core.List.{List, [], ◌∷◌}
use Prim.Native.Nat.{ℕ, ◌+◌, ◌*◌}
use Rattle.solids.specs.Solids.{Half}
use Rattle.results.specs.declared.End.{End}
use Rattle.results.specs.Pieces.{pieces}
use Rattle.layouts.specs.Words.{against}
use Rattle.joined_ends.specs.Words.{flat, Behind}
use Rattle.vertex_table.specs.Words.{flip}
use Rattle.marks.specs.Words.{Next}
use Rattle.kept_lists.specs.Words.{line_row, line_many}
use Rattle.kept_lists.proofs.Gathered.{gathered_two}
use Rattle.composite_ends.specs.declared.Kept.{Kept}
use Rattle.composite_ends.specs.Words.{rows_of, IsHalf, start_of, stop_of, half_of}
use Rattle.edge_pieces.proofs.half_pieces.Goals as goal

all_ends : (k : Kept) (h : ℕ) → IsHalf k.crossings h → {row many r : ℕ} {t : Bool} {a b : End} → row ≡ line_row k.crossings.halves.now k.crossings.plan.sizes h
    → many ≡ line_many k.crossings.plan.sizes h → Next k.marks.now (256 * row) (256 * row + many) r → r ≡ 256 * row + many → t ≡ against k.crossings.halves.now h
    → a ≡ flip (not t) (start_of k h) → b ≡ flip t (stop_of k h) → pieces (a ∷ b ∷ []) ≡ half_of k h
all_ends k h g {row} {many} er em n e t ea eb =
    let c = k.crossings in
    gathered_two k.inc.now k.num.now (rows_of c) c.halves.now c.plan.sizes h c.named k.marked g row many er em n e _ _ (rw t at ea) (rw t at eb)

pub two_ends-requires : goal.two_ends-requires
two_ends-requires c =
    let a = c.args in
    let r = c.requires in
    rw (all_ends a.kept.now a.h r.half c.line_row-row.ensures c.line_many.ensures c.first.ensures c.if-first-end.true c.against-against.ensures c.start-start.ensures c.stop-stop.ensures) r.h_in_bounds

pub returns-then-first-end : goal.returns-then-first-end
returns-then-first-end c =
    let a = c.args in
    let p = c.two_ends in
    let e = all_ends a.kept.now a.h c.requires.half c.line_row-row.ensures c.line_many.ensures c.first.ensures c.if-first-end.true c.against-against.ensures c.start-start.ensures c.stop-stop.ensures in
    subst (λ (ps : List Half). Behind (flat ps) a.list.now a.to p.new.list p.result) e p.ensures
