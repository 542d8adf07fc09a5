-- `scan` meets its contract: the records walked over, and the layout of what is left.
use mathlib.Core.Path.{◌≡◌, sym, ap, ◌∙◌}
use mathlib.Core.List.{List}
use Prim.Native.Nat.{ℕ, ◌+◌, ◌-◌, ◌≤◌}
use native.Mathlib.Omega.{arith}
use lib.ListN.{length, take, drop, length-drop}
use lib.Seq.{take_all}
use Rattle.std.specs.Prelude.{Option, Some}
use Rattle.housefile.specs.declared.Record.{Record}
use Rattle.housefile.specs.Records.{decoded}
use Rattle.housefile_reader.proofs.Walks.{walk_starts, no_record, no_further, walk_goes_on, walk_done, walk_stays, walk_less}
use Rattle.housefile_reader.proofs.scan.Goals.{In_ok-found}
use Rattle.housefile_reader.proofs.scan.Goals as goal

-- the record that was decoded is the one where the walk stands
begun : (bs : List ℕ) (n : ℕ) (r : Option Record) → n ≤ length bs → r ≡ decoded (take (length bs - n) (drop n bs)) → decoded (drop n bs) ≡ r
begun bs n r h e = sym (e ∙ ap decoded (take_all (length bs - n) (drop n bs) (rw (length-drop n bs) (omega arith))))

pub loop-found-init : goal.loop-found-init
loop-found-init c = walk_starts c.args.bytes.now c.args.points.now c.args.corners.now c.requires.0 c.requires.1

module _ (c : In_ok-found) where
  -- the record that stands where the walk does
  there : decoded (drop c.loop-found.w.used c.args.bytes.now) ≡ Some c.in_ok-found.found
  there = begun c.args.bytes.now c.loop-found.w.used _ c.loop-found.invariant.within (sym c.in_ok-found.was ∙ c.decode.ensures)

pub returns-in_err-found-clause-scanned : goal.returns-in_err-found-clause-scanned
returns-in_err-found-clause-scanned c =
    rw c.from_residual.ensures
    (no_record c.args.bytes.now c.loop-found.w c.loop-found.points c.loop-found.corners c.loop-found.invariant
    (begun c.args.bytes.now c.loop-found.w.used _ c.loop-found.invariant.within (sym c.in_err-found.was ∙ c.decode.ensures)))

pub returns-in_err-w-clause-scanned : goal.returns-in_err-w-clause-scanned
returns-in_err-w-clause-scanned c =
    rw c.from_residual-in_err-w.ensures
    (no_further c.args.bytes.now c.loop-found.w c.loop-found.points c.loop-found.corners c.loop-found.invariant c.in_ok-found.found
    (there (goal.at.returns-in_err-w-clause-scanned c).In_ok-found) (sym c.past.ensures ∙ c.in_err-w.was))

pub returns-in-En-clause-scanned : goal.returns-in-En-clause-scanned
returns-in-En-clause-scanned c =
    let bs = c.args.bytes.now in
    let w = c.loop-found.w in
    let v = c.in_ok-w.w in
    let k = c.keep.ensures in
    let e = there (goal.at.returns-in-En-clause-scanned c).In_ok-found in
    rw (k.points_after, k.corners_after)
    (walk_done bs w c.loop-found.points c.loop-found.corners c.loop-found.invariant c.in_ok-found.found e v (sym c.past.ensures ∙ c.in_ok-w.was) c.in-En.is)

pub loop-found-smaller : goal.loop-found-smaller
loop-found-smaller c =
    let bs = c.args.bytes.now in
    let w = c.loop-found.w in
    let e = there (goal.at.loop-found-smaller c).In_ok-found in
    let v = c.in_ok-w.w in
    let i = c.loop-found.invariant in
    let some = sym c.past.ensures ∙ c.in_ok-w.was in
    let l : w.used + 2 ≤ v.used = walk_less bs w c.loop-found.points c.loop-found.corners i c.in_ok-found.found e v some in
    let h : v.used ≤ length bs = (walk_goes_on bs w c.loop-found.points c.loop-found.corners i c.in_ok-found.found e v some).within in
    omega arith

pub loop-found-preserved : goal.loop-found-preserved
loop-found-preserved c =
    let bs = c.args.bytes.now in
    let w = c.loop-found.w in
    let v = c.in_ok-w.w in
    let k = c.keep.ensures in
    let e = there (goal.at.loop-found-preserved c).In_ok-found in
    rw (k.points_after, k.corners_after)
    (walk_stays bs w c.loop-found.points c.loop-found.corners c.loop-found.invariant c.in_ok-found.found e v (sym c.past.ensures ∙ c.in_ok-w.was) c.in_default.not-En)
