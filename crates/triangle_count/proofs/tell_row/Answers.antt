-- `tell_row` meets its contract.
use mathlib.Core.Path.{◌≡◌, sym, ap, ◌∙◌}
use mathlib.Core.List.{List, flat_map}
use Prim.Native.Nat.{ℕ, suc, ◌+◌, ◌-◌, ◌*◌, ◌≤◌}
use native.Mathlib.Omega.{arith}
use Rattle.list_words.specs.Lists.{up_to}
use Rattle.results.specs.declared.End.{End}
use Rattle.fan_counts.specs.declared.Tally.{Tally}
use Rattle.fan_counts.specs.Words.{tell}
use Rattle.fan_counts.proofs.Telling.{near_self, near_then, near_less}
use Rattle.kept_lists.specs.Words.{facet_row}
use Rattle.composite_ends.specs.Words.{side_ends_of}
use Rattle.kept_lists.proofs.Counted.{tell_next, tell_none, row_skip_told}
use Rattle.triangle_count.proofs.tell_row.Goals as goal

pub loop-i-init : goal.loop-i-init
loop-i-init c =
    let a = c.args in
    let k = a.kept.now.crossings in
    let f = c.facet_row-from in
    -- the ends with each facet of the other solid
    let p : ℕ → List End = side_ends_of k a.x in
    let n = rw (c.others.ensures, f.ensures) at c.first-i.ensures in
    let r = 256 * facet_row k.plan.sizes a.x in
    let z : r - r ≡ 0 = omega arith in
    let e = row_skip_told c.requires.pairs a.t a.x r c.first-i.result c.requires.facet (omega arith) n ∙ tell_none p a.t (r - r) z in
    (c.first-i.ensures.low, c.first-i.ensures.high, rw f.ensures (sym e), near_less (near_self a.t) (omega arith))

pub loop-i-preserved : goal.loop-i-preserved
loop-i-preserved c =
    let a = c.args in
    let k = a.kept.now.crossings in
    let l = c.loop-i in
    let s = c.tell_side-r in
    let f = c.facet_row-from in
    let p : ℕ → List End = side_ends_of k a.x in
    let n = rw (c.others.ensures, f.ensures) at c.next-i.ensures in
    let r = 256 * facet_row k.plan.sizes a.x in
    let low : r ≤ l.i = omega (arith, f.ensures) in
    let d : (l.i + 1) - r ≡ suc (l.i - r) = omega arith in
    let step : s.result ≡ tell a.t (flat_map p (up_to (suc (l.i - r)))) =
    rw f.ensures at s.ensures.told ∙ ap (λ (t : Tally). tell t (p (l.i - r))) (rw f.ensures at l.invariant.2) ∙ sym (tell_next p a.t (l.i - r)) in
    let skip = row_skip_told c.requires.pairs a.t a.x (l.i + 1) c.next-i.result c.requires.facet (omega arith) n ∙ ap (λ m. tell a.t (flat_map p (up_to m))) d in (
      omega (arith, c.next-i.ensures.low),
      c.next-i.ensures.high,
      rw f.ensures (step ∙ sym skip),
      near_less (near_then l.invariant.3 s.ensures.near) (omega (arith, c.next-i.ensures.low)),
    )
