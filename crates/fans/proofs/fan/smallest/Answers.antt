-- `smallest` meets its contract: a number of the list that none is below is the least of it.
use mathlib.Core.Path.{◌≡◌}
use mathlib.Core.List.{List, [], ◌∷◌}
use Prim.Native.Nat.{ℕ, zero, suc, ◌<◌, ◌≤◌, min}
use native.Mathlib.Nat.{le_antisymm}
use native.Mathlib.Omega.{arith}
use borrow.Author.Rules.{rules}
use lib.ListN.{length, get_or}
use Rattle.std.specs.Prelude.{Option, Some, None, MatchOption, EachIndex, SomeIndex}
use Rattle.list_words.specs.Lists.{least}
use Rattle.list_words.proofs.Fans.{least_le}
use Rattle.fans.proofs.fan.smallest.Goals as goal

-- the least number is none below which none is
not_below : (m x : ℕ) (l : List ℕ) → m ≤ x → EachIndex l (λ k. m ≤ get_or l k 0) → m ≤ least x l
unfolding least
not_below m x [] h e = h
not_below m x (n ∷ l) h e = not_below m (min x n) l (let z : m ≤ n = e 0 (omega arith) in omega arith) (λ k b. e (suc k) (omega arith))

at_most : (x i : ℕ) (l : List ℕ) → i < length l → least x l ≤ get_or l i 0
unfolding least
at_most x i [] h = absurd (omega arith)
at_most x zero (n ∷ l) h = let z : least (min x n) l ≤ min x n = least_le (min x n) l in omega arith
at_most x (suc i) (n ∷ l) h = at_most (min x n) i l (omega arith)

least_is : (r : Option ℕ) (l : List ℕ) → MatchOption r (length l ≡ 0) (λ m. EachIndex l (λ k. m ≤ get_or l k 0)) → MatchOption r (length l ≡ 0) (λ m. SomeIndex l (λ k. get_or l k 0 ≡ m))
    → MatchOption r (length l ≡ 0) (λ m. m ≡ least (get_or l 0 0) l)
least_is None l h k = h
least_is (Some m) l h (i, b, e) = le_antisymm (not_below m (get_or l 0 0) l (h 0 (omega arith)) h) (let z = at_most (get_or l 0 0) i l b in omega arith)

pub returns : goal.returns
returns c = least_is c.min.result c.args.list.now (search rules) (search rules)
