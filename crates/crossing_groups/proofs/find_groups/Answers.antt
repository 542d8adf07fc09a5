-- `find_groups` meets its contract: the rows below r are listed.
use mathlib.Core.Path.{◌≡◌, sym, ap, subst}
use mathlib.Core.Bool.{cond}
use mathlib.Core.List.{List, []}
use Prim.Native.Nat.{ℕ, ◌-◌, ◌<◌, ◌≤◌}
use native.Mathlib.Omega.{arith}
use lib.Ieee.{Float}
use lib.IntN.{ℤ}
use lib.ListN.{length, take}
use Rattle.solids.specs.Solids.{Solid}
use Rattle.edges.specs.Readers.{solid_of}
use Rattle.list_words.proofs.Widths.{back_32}
use Rattle.solids.proofs.Admitted.{Passed, passed}
use Rattle.bounds.specs.declared.Bounds.{Bounds}
use Rattle.bounds.specs.declared.Far.TheVariants.{Apart}
use Rattle.bounds.specs.Words.{apart, span, box_at, Narrowed, Boxed, Among}
use Rattle.bounds.proofs.Inside.{In}
use Rattle.bounds.proofs.Listing.{narrowed_among, narrowed_own}
use Rattle.crossing_groups.specs.declared.Search.{Search}
use Rattle.crossing_rows.specs.Words.{row, round, Lying, row_of}
use Rattle.crossing_groups.specs.Words.{Searching, Enough}
use Rattle.list_words.proofs.Handed.{handed_on}
use Rattle.crossing_rows.proofs.Listings.{below, below_within}
use Rattle.crossing_groups.proofs.Searches.{rows_in, enough_near, enough_apart, among_apart}
use Rattle.crossing_groups.proofs.find_groups.Goals as goal

module _ (q : Search) {a b : Solid} (h : Searching q a b) (r e : ℕ) (from : q.begin ≤ r) (rise : r < e) (to : e ≤ q.end) where
  abbrev group : Search
  group = record { sign = q.sign; other = q.other; thing = q.thing; many = q.many; edges = q.edges; begin = r; end = e }

  searching : Searching group a b
  searching =
      record {
        small = h.small;
        signed = h.signed;
        other = h.other;
        many = h.many;
        edges = h.edges;
        begin = omega arith;
        end = omega (arith, h.end);
        kind = λ i f t. h.kind i (omega (arith, f)) (omega (arith, t));
      }

  -- the columns near the box round the group are enough for it
  enough_few : {columns few : List ℕ} {boxes : List Float} {n : ℕ} → Passed a → Passed b → Boxed boxes q.thing b → Among columns q.thing b → Enough q a b columns → (p : Bounds) → p ≡ span (λ i. round (row_of a i)) r (e - r)
      → Narrowed few Apart p (box_at boxes) (cond (apart p q.other) [] columns) n → Enough group a b (take n few)
  enough_few {columns} {few} {boxes} {n} pa pb boxed among all p d m =
      let w = apart p q.other in
      let inside : (i : ℕ) → r ≤ i → i < e → Lying (In p) (row_of a i) = λ i f t. subst (λ p. Lying (In p) (row_of a i)) (sym d) (rows_in a b pa pb group i f t) in
      let enough = enough_apart a b pa pb group searching columns p inside (λ i f t. all i (omega (arith, f)) (omega (arith, t))) among w (ap (apart p) (sym h.other)) in
      subst (Enough group a b) (sym (narrowed_own m boxed (among_apart w among))) (enough_near a b pa pb group searching (cond w [] columns) p inside enough)

pub invariant_of-nearer : goal.invariant_of-nearer
invariant_of-nearer c =
    let near = c.args.near.now in
    record { boxed = near.boxed; among = narrowed_among c.narrow-n.ensures.narrowed (among_apart (apart c.round_rows-own.result c.args.search.other) near.among); admitted = near.admitted }

pub find_rows-requires-clause-offered : goal.find_rows-requires-clause-offered
find_rows-requires-clause-offered c =
    let l = c.loop-r in
    let inv = l.invariant in
    let g = c.group_end in
    let own = c.round_rows-own in
    let q = c.args.search in
    let o = c.requires.offered in
    let h = c.requires.searching in
    let near = c.args.near.now in
    let a = solid_of c.args.a in
    let b = solid_of near.solid in
    let few = take c.narrow-n.result c.narrow-n.new.few in
    let boxed : Boxed near.boxes.now q.thing b = subst (λ t. Boxed near.boxes.now t b) o.kind near.boxed in
    let among : Among near.columns.now q.thing b = subst (λ t. Among near.columns.now t b) o.kind near.among in
    let enough = enough_few q h l.r g.result inv.begin g.ensures.0 g.ensures.1 (passed a c.requires.admitted) (passed b near.admitted) boxed among o.enough own.result own.ensures c.narrow-n.ensures.narrowed in
    record {
      kind = o.kind;
      enough = subst (λ s. Enough (record (group q h l.r g.result inv.begin g.ensures.0 g.ensures.1) { sign = s }) a b few) (sym (back_32 q.sign (omega (arith, h.small)))) enough;
    }

pub returns-in_err-find_rows-clause-reached : goal.returns-in_err-find_rows-clause-reached
returns-in_err-find_rows-clause-reached c =
    let g = c.group_end in
    let q = c.args.search in
    let of_A : ℤ → ℕ → List (ℕ × ℤ) = λ s. row s (solid_of c.args.a) (solid_of c.args.near.now.solid) in
    let full = subst (λ s. length c.find_rows.new.crossed < length (below (of_A s) g.result)) (back_32 q.sign (omega (arith, c.requires.searching.small))) c.in_err-find_rows.ensures.reached in
    rw (handed_on _ _ c.from_residual.ensures.1) (omega (arith, full, below_within (of_A q.sign) g.result q.end g.ensures.1))
