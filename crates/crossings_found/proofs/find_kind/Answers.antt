-- `find_kind` meets its contract: what is gathered are columns with their boxes, and enough.
use mathlib.Core.Path.{◌≡◌, refl, sym, subst}
use mathlib.Core.List.{List}
use Prim.Native.Nat.{ℕ, ◌<◌, ◌≤◌}
use native.Mathlib.Omega.{arith}
use lib.Ieee.{Float, binary64, of_bits}
use lib.ListN.{take, length-replicate}
use Rattle.list_words.specs.Lists.{up_to}
use Rattle.edges.specs.declared.ReadySolid.{ReadySolid}
use Rattle.edges.specs.Readers.{solid_of}
use Rattle.solids.proofs.Admitted.{passed}
use Rattle.bounds.specs.declared.Bounds.{Bounds}
use Rattle.bounds.specs.declared.Far.TheVariants.{Apart}
use Rattle.bounds.specs.Words.{whole, box_of, Among, Narrowed}
use Rattle.bounds.proofs.Inside.{In}
use Rattle.bounds.proofs.Listing.{among_all, narrowed_among}
use Rattle.crossing_rows.specs.Words.{Lying, row_of}
use Rattle.crossing_groups.specs.declared.Search.{Search}
use Rattle.crossing_groups.specs.Words.{Searching, Enough}
use Rattle.crossing_rows.proofs.Rowwise.{many_few, row_whole}
use Rattle.crossing_groups.proofs.Searches.{enough_near}
use Rattle.solids.specs.Refusals.{accepted}
use Rattle.solids.specs.Admission.{admission}
use Rattle.crossings_found.proofs.Searches.{enough_all}
use Rattle.crossings_found.proofs.find_kind.Goals as goal

module _ (search : Search) (a b : ReadySolid) (q : Searching search (solid_of a) (solid_of b)) {columns : List ℕ} {own : Bounds} {n : ℕ} (h : Narrowed columns Apart own (box_of search.thing (solid_of b)) (up_to search.many) n) where
  among : Among (take n columns) search.thing (solid_of b)
  among = narrowed_among h (subst (λ n. Among (up_to n) search.thing (solid_of b)) (sym q.many) (among_all (many_few b.ready search.thing)))

  enough : admission (solid_of a) ≡ accepted → admission (solid_of b) ≡ accepted → own ≡ whole (solid_of a) → Enough search (solid_of a) (solid_of b) (take n columns)
  enough ok_a ok_b e =
      let pa = passed (solid_of a) ok_a in
      let pb = passed (solid_of b) ok_b in
      let inside : (r : ℕ) → search.begin ≤ r → r < search.end → Lying (In own) (row_of (solid_of a) r) =
      λ r from to. subst (λ p. Lying (In p) (row_of (solid_of a) r)) (sym e) (row_whole (solid_of a) (solid_of b) r pa pb (omega (arith, to, q.end)))
      in
      subst (Enough search (solid_of a) (solid_of b)) (sym h.front) (enough_near (solid_of a) (solid_of b) pa pb search q (up_to search.many) own inside (enough_all (solid_of a) (solid_of b) pa pb search q))

pub gather-many-requires : goal.gather-many-requires
gather-many-requires c =
    let q = c.requires.searching in
    let few = many_few c.args.b.ready c.args.search.thing in
    record {
      many_value = (q.many, omega (arith, q.many, few));
      many_in_bounds = (omega (arith, q.many, few, length-replicate {A = ℕ} 384 0), omega (arith, q.many, few, length-replicate {A = Float} 2304 (of_bits binary64 0)));
    }

pub invariant_of-near : goal.invariant_of-near
invariant_of-near c =
    record { boxed = c.gather-many.ensures.boxed; among = among c.args.search c.args.a c.args.b c.requires.searching c.gather-many.ensures.narrowed; admitted = c.requires.admitted.1 }

pub invariant_of-near-else-many-le-GROUP : goal.invariant_of-near-else-many-le-GROUP
invariant_of-near-else-many-le-GROUP c =
    record { boxed = c.gather-many.ensures.boxed; among = among c.args.search c.args.a c.args.b c.requires.searching c.gather-many.ensures.narrowed; admitted = c.requires.admitted.1 }

pub find_rows-requires-clause-offered : goal.find_rows-requires-clause-offered
find_rows-requires-clause-offered c =
    record { kind = refl; enough = enough c.args.search c.args.a c.args.b c.requires.searching c.gather-many.ensures.narrowed c.requires.admitted.0 c.requires.admitted.1 c.requires.own_value }

pub find_groups-requires-clause-offered : goal.find_groups-requires-clause-offered
find_groups-requires-clause-offered c =
    record { kind = refl; enough = enough c.args.search c.args.a c.args.b c.requires.searching c.gather-many.ensures.narrowed c.requires.admitted.0 c.requires.admitted.1 c.requires.own_value }
