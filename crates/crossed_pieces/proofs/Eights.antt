-- The ends of an edge that is crossed, eight at a time: some are joined, and the others of those that came so far stand in the array.
use mathlib.Core.Path.{◌≡◌, sym, subst}
use mathlib.Core.List.{List, ◌++◌, append-nil}
use Prim.Native.Nat.{ℕ, ◌+◌, ◌-◌, ◌*◌, ◌≤◌, min}
use native.Mathlib.Omega.{arith}
use lib.IntN.{ℤ}
use lib.ListN.{length, take, drop}
use Rattle.solids.specs.Solids.{Half}
use Rattle.results.specs.declared.End.{End}
use Rattle.results.specs.Pieces.{pieces}
use Rattle.layouts.specs.declared.Sizes.{Sizes}
use Rattle.placed_ends.specs.declared.Counts.{Counts}
use Rattle.joined_ends.specs.Words.{flat, Behind, all_placed}
use Rattle.joined_ends.proofs.Joined.{Laid, laid_more, laid_behind}
use Rattle.kept_lists.specs.Words.{Rows, line_many, half}
use Rattle.kept_lists.proofs.Gathered.{Gathered, gathered_joined, gathered_all}

module _ (inc : List ℤ) (num : List ℕ) (w : Rows) (hs : List ℕ) (z : Sizes) (h : ℕ) where
  -- after i crossings, where the list was `o` and the pieces go behind its first `to` numbers
  pub record Going (o : List ℕ) (to : ℕ) (l : List ℕ) (c : Counts) (all : List End) (n i : ℕ) : Type 0 where
    pub done : List End
    pub laid : Laid o to done l c
    pub gathered : Gathered inc num w hs z h 8 done all n i
    pub room : n ≤ 8

  module _ {o : List ℕ} {to : ℕ} {l : List ℕ} {c : Counts} {all : List End} where
    -- what is in the array is joined
    pub going_joined : {n i : ℕ} → Going o to l c all n i → (p : List ℕ) (d : Counts) → to ≤ length o → length p ≡ length (take (length l - to) (drop to l))
        → (p ≡ (all_placed (take (length l - to) (drop to l), c) (take n all)).0) × (d ≡ (all_placed (take (length l - to) (drop to l), c) (take n all)).1)
        → Going o to (take to l ++ (p ++ drop (length l - to) (drop to l))) d all 0 i
    going_joined {n} {i} g p d k m e =
        record {
          done = g.done ++ take n all;
          laid = laid_more g.laid (take n all) p d k m e;
          gathered = gathered_joined inc num w hs z h g.gathered;
          room = omega arith;
        }

    -- all ends came, and are joined
    going_all : {i : ℕ} → Going o to l c all 0 i → i ≡ line_many z h → to + length (flat (half inc num w hs z h)) ≤ length o
        → Behind (flat (half inc num w hs z h)) o to l (to + 2 * min c.starts c.stops)
    going_all {i} g e k =
        let q : pieces g.done ≡ half inc num w hs z h = rw (append-nil g.done) at (gathered_all inc num w hs z h g.gathered e) in
        subst (λ (ps : List Half). Behind (flat ps) o to l (to + 2 * min c.starts c.stops)) q
        (laid_behind g.laid (subst (λ (ps : List Half). to + length (flat ps) ≤ length o) (sym q) k))

  -- the rest is joined, and that is all
  pub going_last : {o : List ℕ} {to : ℕ} {l : List ℕ} {c : Counts} {all : List End} {n i : ℕ} → Going o to l c all n i → (p : List ℕ) (d : Counts) → to ≤ length o
      → length p ≡ length (take (length l - to) (drop to l))
      → (p ≡ (all_placed (take (length l - to) (drop to l), c) (take n all)).0) × (d ≡ (all_placed (take (length l - to) (drop to l), c) (take n all)).1) → i ≡ line_many z h
      → to + length (flat (half inc num w hs z h)) ≤ length o → Behind (flat (half inc num w hs z h)) o to (take to l ++ (p ++ drop (length l - to) (drop to l))) (to + 2 * min d.starts d.stops)
  going_last g p d k m e q r = going_all (going_joined g p d k m e) q r
