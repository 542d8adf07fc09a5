-- `tell_side` meets its contract: the ends are small, and so is what they tell.
use mathlib.Core.Path.{◌≡◌, sym, ap, ◌∙◌}
use mathlib.Core.Bool.{Bool, true, false, not, cond}
use mathlib.Core.List.{List, [], ◌∷◌, map, map-id}
use Prim.Native.Nat.{ℕ, suc, ◌+◌, ◌*◌, ◌-◌, ◌<◌, ◌≤◌}
use native.Mathlib.Numerals.{add-one}
use native.Mathlib.Omega.{arith}
use lib.Dec.{ltb}
use lib.IntN.{nat_abs}
use lib.ListN.{length, get_or, take}
use lib.Seq.{take-suc}
use Rattle.std.proofs.lemmas.List.{length-take-le, take_all}
use Rattle.list_words.proofs.Sums.{All}
use Rattle.list_words.proofs.Places.{all_get_d}
use Rattle.results.specs.declared.End.{End}
use Rattle.layouts.specs.declared.Sizes.{Sizes}
use Rattle.layouts.specs.Words.{edge_at, against}
use Rattle.vertex_table.specs.Words.{flip}
use Rattle.fan_counts.specs.declared.Tally.{Tally}
use Rattle.fan_counts.specs.Words.{told, tell}
use Rattle.fan_counts.proofs.Telling.{near_one, near_less, tell_append}
use Rattle.kept_lists.specs.Words.{Rows, blank, crossing, pair_ends, side_ends}
use Rattle.kept_lists.proofs.Dense.{crossing_small}
use Rattle.kept_lists.proofs.Counted.{flip_small}
use Rattle.composite_ends.specs.declared.Crossed.{Crossed}
use Rattle.composite_ends.specs.Words.{rows_of, side_ends_of}
use Rattle.triangle_count.proofs.tell_side.Goals as goal

abbrev Small : List End → Type 0
Small = All (λ (e : End). nat_abs e.count ≤ 2)

module _ (w : Rows) (hs : List ℕ) (z : Sizes) where
  pair_small : (f g : ℕ) → Small (pair_ends w hs z f g)
  unfolding pair_ends
  pair_small f g =
      let a : (h : ℕ) → nat_abs (flip (not (against hs h)) (crossing w (edge_at hs h) g)).count ≤ 2 = λ h. flip_small (not (against hs h)) _ 2 (crossing_small w (edge_at hs h) g) in
      let b : (h : ℕ) → nat_abs (flip (against hs h) (crossing w (z.ea + f) (edge_at hs h))).count ≤ 2 = λ h. flip_small (against hs h) _ 2 (crossing_small w (z.ea + f) (edge_at hs h)) in
      let m = z.fa + g in
      (a (3 * f), (a (3 * f + 1), (a (3 * f + 2), (b (3 * m), (b (3 * m + 1), (b (3 * m + 2), tt))))))

  side_small : (x i : ℕ) → Small (side_ends w hs z x i)
  side_small x i = go (ltb x z.fa)
    where
      go : (b : Bool) → Small (cond b (pair_ends w hs z x i) (pair_ends w hs z i (x - z.fa)))
      go true = pair_small x i
      go false = pair_small i (x - z.fa)

module _ (k : Crossed) (x i : ℕ) {es : List End} (e : es ≡ map (flip false) (side_ends_of k x i)) where
  same : es ≡ side_ends_of k x i
  same = e ∙ map-id (side_ends_of k x i)

  small_at : (n : ℕ) → n < length es → nat_abs (get_or es n blank).count ≤ 2
  small_at n h = all_get_d (λ (e : End). nat_abs e.count ≤ 2) es n blank (rw same (side_small (rows_of k) k.halves.now k.plan.sizes x i)) h

told_next : (t : Tally) (es : List End) (n : ℕ) → n < length es → tell t (take (suc n) es) ≡ told (tell t (take n es)) (get_or es n blank)
told_next t es n h = ap (tell t) (take-suc es n blank h) ∙ tell_append t (take n es) (get_or es n blank ∷ [])

pub tell-r-requires : goal.tell-r-requires
tell-r-requires c =
    let a = c.args in
    let l = c.loop-end in
    let s = small_at a.crossings.now a.x a.i c.side_ends-ends.ensures l.end-index c.loop-end-test.true in
    let six = length-take-le 6 c.side_ends-ends.result (omega arith) in
    (omega (arith, l.invariant.1.pieces, six), omega (arith, l.invariant.1.at, six), omega (arith, s))

pub loop-end-preserved : goal.loop-end-preserved
loop-end-preserved c =
    let a = c.args in
    let l = c.loop-end in
    let es = take 6 c.side_ends-ends.result in
    let s = small_at a.crossings.now a.x a.i c.side_ends-ends.ensures l.end-index c.loop-end-test.true in
    let e = get_or es l.end-index blank in (
      rw (add-one l.end-index) (c.tell-r.ensures ∙ ap (λ (t : Tally). told t e) l.invariant.0 ∙ sym (told_next a.t es l.end-index c.loop-end-test.true)),
      near_less (near_one {n = 2} e l.invariant.1 c.tell-r.ensures s) (omega arith),
    )

pub returns-clause-told : goal.returns-clause-told
returns-clause-told c =
    let a = c.args in
    let l = c.loop-end in
    let es = take 6 c.side_ends-ends.result in
    l.invariant.0 ∙ ap (tell a.t) (take_all l.end-index es c.loop-end-test.false ∙ same a.crossings.now a.x a.i c.side_ends-ends.ensures)
