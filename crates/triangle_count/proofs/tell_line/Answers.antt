-- `tell_line` meets its contract.
use mathlib.Core.Path.{◌≡◌, sym, ap, ◌∙◌}
use mathlib.Core.Bool.{true}
use mathlib.Core.List.{List, flat_map}
use Prim.Native.Nat.{ℕ, suc, ◌+◌, ◌-◌, ◌*◌, ◌≤◌}
use native.Mathlib.Omega.{arith}
use lib.IntN.{ℤ, nat_abs}
use Rattle.list_words.specs.Lists.{up_to}
use Rattle.results.specs.declared.End.{End}
use Rattle.layouts.specs.declared.Sizes.{Sizes}
use Rattle.vertex_table.specs.Words.{flip}
use Rattle.fan_counts.specs.declared.Tally.{Tally}
use Rattle.fan_counts.specs.Words.{told, tell, Near}
use Rattle.fan_counts.proofs.Telling.{near_self, near_then, near_less, near_one}
use Rattle.kept_lists.specs.Words.{vertex, corner_at, line_end, line_many}
use Rattle.composite_ends.specs.Words.{rows_of}
use Rattle.kept_lists.proofs.Gathered.{line_room}
use Rattle.kept_lists.proofs.Counted.{tell_next, tell_none, crossing_ends, line_told, line_skip, flip_small, line_small}
use Rattle.triangle_count.proofs.tell_line.Goals as goal

-- start and end are small, and so is what they tell
module _ (inc : List ℤ) (num hs : List ℕ) (z : Sizes) (h : ℕ) (small : (i : ℕ) → nat_abs (vertex inc num i).count ≤ 257) where
  one_near : {t r : Tally} {e : End} → e ≡ flip true (vertex inc num (corner_at hs z h 1)) → r ≡ told t e → Near t r 257
  one_near {t} {r} {e} q s = let i = corner_at hs z h 1 in near_one {n = 257} e (near_self t) s (rw q (flip_small true (vertex inc num i) 257 (small i)))

  two_near : {t r s : Tally} {a b : End} → a ≡ flip true (vertex inc num (corner_at hs z h 1)) → b ≡ vertex inc num (corner_at hs z h 2) → r ≡ told t a → s ≡ told r b → Near t s 514
  two_near {b = b} qa qb f g = near_one {n = 257} b (one_near qa f) g (rw qb (small (corner_at hs z h 2)))

pub tell-r-requires : goal.tell-r-requires
tell-r-requires c =
    let a = c.args in
    let k = a.kept.now in
    let n = one_near k.inc.now k.num.now k.crossings.halves.now k.crossings.plan.sizes a.h k.numbered.small c.start-start.ensures c.tell.ensures in
    (omega (arith, n.pieces), omega (arith, n.at), rw c.stop-stop.ensures (k.numbered.small (corner_at k.crossings.halves.now k.crossings.plan.sizes a.h 2)))

pub loop-i-init : goal.loop-i-init
loop-i-init c =
    let a = c.args in
    let k = a.kept.now in
    let w = rows_of k.crossings in
    let r = c.tell-r.result in
    let row = c.line_row-row.result in
    let z : 256 * row - 256 * row ≡ 0 = omega arith in
    let f : ℕ → List End = crossing_ends k.inc.now k.num.now w k.crossings.halves.now k.crossings.plan.sizes a.h in
    let e =
    line_skip k.inc.now k.num.now w k.crossings.halves.now k.crossings.plan.sizes a.h k.crossings.named k.marked c.requires.0 _ _ c.line_row-row.ensures c.line_many.ensures r (256 * row) c.first-i.result
    (omega arith) c.first-i.ensures in
    (c.first-i.ensures.low, c.first-i.ensures.high, sym (e ∙ tell_none f r (256 * row - 256 * row) z), near_less (near_self r) (omega arith))

pub tell-r-requires-in-loop-i : goal.tell-r-requires-in-loop-i
tell-r-requires-in-loop-i c =
    let a = c.args in
    let k = a.kept.now in
    let w = rows_of k.crossings in
    let n =
    near_then
    (two_near k.inc.now k.num.now k.crossings.halves.now k.crossings.plan.sizes a.h k.numbered.small c.start-start.ensures c.stop-stop.ensures c.tell.ensures c.tell-r.ensures)
    c.loop-i.invariant.3 in
    let room = line_room k.inc.now k.num.now w k.crossings.halves.now k.crossings.plan.sizes a.h k.crossings.named k.marked c.requires.0 _ _ c.line_row-row.ensures c.line_many.ensures in
    let s : nat_abs c.line_end.result.count ≤ 2 = rw c.line_end.ensures (line_small w k.crossings.halves.now k.crossings.plan.sizes a.h (c.loop-i.i - 256 * c.line_row-row.result)) in
    (omega (arith, n.pieces, room), omega (arith, n.at, room), omega (arith, s))

pub loop-i-preserved : goal.loop-i-preserved
loop-i-preserved c =
    let a = c.args in
    let k = a.kept.now in
    let l = c.loop-i in
    let w = rows_of k.crossings in
    let f : ℕ → List End = crossing_ends k.inc.now k.num.now w k.crossings.halves.now k.crossings.plan.sizes a.h in
    let r = c.tell-r.result in
    let row = c.line_row-row.result in
    let d = l.i - 256 * row in
    let q : (l.i + 1) - 256 * row ≡ suc d = omega (arith, l.invariant.0) in
    let e = c.line_end in
    let step : c.tell-r-in-loop-i.result ≡ tell r (flat_map f (up_to (suc d))) =
    c.tell-r-in-loop-i.ensures ∙ ap (told l.r) e.ensures ∙ ap (λ (t : Tally). told t (line_end w k.crossings.halves.now k.crossings.plan.sizes a.h d)) l.invariant.2 ∙ sym (tell_next f r d) in
    let skip =
    line_skip k.inc.now k.num.now w k.crossings.halves.now k.crossings.plan.sizes a.h k.crossings.named k.marked c.requires.0 _ _ c.line_row-row.ensures c.line_many.ensures r (l.i + 1) c.next-i.result
    (omega (arith, l.invariant.0)) c.next-i.ensures in
    let near = near_one {n = 2} e.result l.invariant.3 c.tell-r-in-loop-i.ensures (rw e.ensures (line_small w k.crossings.halves.now k.crossings.plan.sizes a.h d)) in (
      omega (arith, c.next-i.ensures.low, l.invariant.0),
      c.next-i.ensures.high,
      step ∙ sym (skip ∙ ap (λ n. tell r (flat_map f (up_to n))) q),
      near_less near (omega (arith, c.next-i.ensures.low, l.invariant.0)),
    )

pub returns-clause-told : goal.returns-clause-told
returns-clause-told c =
    let a = c.args in
    let k = a.kept.now in
    let w = rows_of k.crossings in
    let f : ℕ → List End = crossing_ends k.inc.now k.num.now w k.crossings.halves.now k.crossings.plan.sizes a.h in
    let r = c.tell-r.result in
    let e : c.loop-i.i - 256 * c.line_row-row.result ≡ line_many k.crossings.plan.sizes a.h = omega (arith, c.line_many.ensures) in
    let one = c.tell.ensures ∙ ap (told a.t) c.start-start.ensures in
    let begin : r ≡ told (told a.t (flip true (vertex k.inc.now k.num.now (corner_at k.crossings.halves.now k.crossings.plan.sizes a.h 1)))) (vertex k.inc.now k.num.now (corner_at k.crossings.halves.now k.crossings.plan.sizes a.h 2)) =
    c.tell-r.ensures ∙ (λ j. told (one j) (c.stop-stop.ensures j)) in
    c.loop-i.invariant.2
    ∙ ap (λ n. tell r (flat_map f (up_to n))) e
    ∙ ap (λ (t : Tally). tell t (flat_map f (up_to (line_many k.crossings.plan.sizes a.h)))) begin
    ∙ sym (line_told k.inc.now k.num.now w k.crossings.halves.now k.crossings.plan.sizes a.h a.t (line_many k.crossings.plan.sizes a.h))

pub returns-clause-near : goal.returns-clause-near
returns-clause-near c =
    let a = c.args in
    let k = a.kept.now in
    let w = rows_of k.crossings in
    let room = line_room k.inc.now k.num.now w k.crossings.halves.now k.crossings.plan.sizes a.h k.crossings.named k.marked c.requires.0 _ _ c.line_row-row.ensures c.line_many.ensures in
    near_less
    (near_then
    (two_near k.inc.now k.num.now k.crossings.halves.now k.crossings.plan.sizes a.h k.numbered.small c.start-start.ensures c.stop-stop.ensures c.tell.ensures c.tell-r.ensures)
    c.loop-i.invariant.3)
    (omega (arith, room))
