-- `differ` meets its contract: the two counts stand in the table.
use mathlib.Core.Path.{◌≡◌, sym}
use mathlib.Core.Bool.{not}
use mathlib.Core.List.{List}
use Prim.Native.Nat.{ℕ, ◌<◌}
use lib.Dec.{eqb}
use lib.ListN.{get_or}
use Rattle.solids.specs.Solids.{Half}
use Rattle.solids.specs.Admission as Ad
use Rattle.solids.specs.Words.{place, Tallied}
use Rattle.tally.proofs.differ.Goals as goal

numbers :
    (table : List ℕ) (hs : List Half) (p q there back : ℕ)
    → p < 128 → q < 128 → Tallied table hs → there ≡ place (p, q) → back ≡ place (q, p)
    → Ad.differ hs (p, q) ≡ not (eqb (get_or table there 0) (get_or table back 0))
unfolding Ad.differ
numbers table hs p q there back a b t i j = rw (i, j, t.at (p, q) a b, t.at (q, p) b a)

pub returns : goal.returns
returns c = sym (numbers c.args.table.now _ c.args.p c.args.q _ _ c.requires.0 c.requires.1 c.requires.2 c.place.ensures.value c.place-2.ensures.value)
