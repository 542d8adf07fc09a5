-- Words on lists and whole numbers, in which the definitions of the other crates are written. Nothing of document 01 is here.
-- `map`, `flat_map` (each element's list, one after the other), `zip`, `◌++◌` are the library's, of mathlib.Core.List; `length`, `take`, `drop`,
-- `get_or` (the element at a place, or a value for places beyond the end) and `replicate` are those of lib.ListN.
use Rattle.std.specs.Prelude.{ℕ, zero, suc, ◌+◌, min, Bool, true, false, ◌&&◌, ◌||◌, cond, List, [], ◌∷◌, ◌++◌, eqb, ℤ, pos, negsuc, ◌+ℤ◌}
use lib.ListN.{length, drop}

-- the numbers below n, in order
unfoldable pub up_to : ℕ → List ℕ
up_to zero = []
up_to (suc n) = up_to n ++ (n ∷ [])

-- the smallest of m and the numbers of a list
unfoldable pub least : ℕ → List ℕ → ℕ
least m [] = m
least m (n ∷ l) = least (min m n) l

abbrev pub one_if : Bool → ℕ
one_if true = 1
one_if false = 0

-- are two lists of numbers the same
unfoldable pub same : List ℕ → List ℕ → Bool
same [] [] = true
same [] (n ∷ l) = false
same (m ∷ k) [] = false
same (m ∷ k) (n ∷ l) = eqb m n && same k l

module _ {A : Type 0} where
  -- the sum of f over a list
  unfoldable pub sum_of : (A → ℤ) → List A → ℤ
  sum_of f [] = pos 0
  sum_of f (x ∷ l) = f x +ℤ sum_of f l

  -- those that pass the test, in their order
  unfoldable pub keep : (A → Bool) → List A → List A
  keep p [] = []
  keep p (x ∷ l) = let r = keep p l in cond (p x) (x ∷ r) r

  -- do all pass the test, does some one
  unfoldable pub every : (A → Bool) → List A → Bool
  every p [] = true
  every p (x ∷ l) = p x && every p l

  unfoldable pub any : (A → Bool) → List A → Bool
  any p [] = false
  any p (x ∷ l) = p x || any p l

  -- how often x stands in a list, by a test of equality
  unfoldable pub times : (A → A → Bool) → A → List A → ℕ
  times eq x [] = 0
  times eq x (y ∷ l) = one_if (eq x y) + times eq x l

  -- what stands before the first x
  unfoldable pub before : (A → A → Bool) → A → List A → List A
  before eq x [] = []
  before eq x (y ∷ l) = let r = before eq x l in cond (eq x y) [] (y ∷ r)

  -- a lent list with `new` in its front, and everything behind as before
  abbrev pub onto : List A → List A → List A
  onto new old = new ++ drop (length new) old

  -- the pair the other way round
  abbrev pub turned : A × A → A × A
  turned h = (h.1, h.0)

-- how far a whole number lies above 0, and how far below
abbrev pub above : ℤ → ℕ
above (pos n) = n
above (negsuc n) = 0

abbrev pub below : ℤ → ℕ
below (pos n) = 0
below (negsuc n) = suc n

abbrev pub nonzero : ℤ → Bool
nonzero (pos zero) = false
nonzero (pos (suc n)) = true
nonzero (negsuc n) = true
