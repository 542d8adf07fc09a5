-- Words of contracts; no public statement needs them. A composite edge's ends joined in any order, and what of its ends is needed to count triangles.
use Rattle.std.specs.Prelude.{◌≡◌, ◌≢◌, Bool, ◌||◌, cond, ℕ, ◌+◌, ◌<◌, ◌≤◌, eqb, ltb, pos, nat_abs, length}
use mathlib.Core.List.{List, [], ◌∷◌, ◌++◌, map, flat_map, zip, Memᴰ}
use Rattle.list_words.specs.Lists.{times, least, above, below, nonzero, sum_of, turned}
use Rattle.solids.specs.Solids.{Half}
use Rattle.results.specs.declared.End.{End}
use Rattle.fan_counts.specs.declared.Tally.{Tally}
use Rattle.results.specs.Pieces.{starts, stops}

-- the same numbers, in any order
pub record Shuffled (s t : List ℕ) : Type 0 where
  pub long : length s ≡ length t
  pub each : (v : ℕ) → times eqb v s ≡ times eqb v t

-- the numbers on a list of pieces
unfoldable pub on : List Half → List ℕ
on hs = flat_map (λ (h : Half). h.0 ∷ h.1 ∷ []) hs

-- the least of a list of numbers; of nothing there is none
unfoldable pub least_of : List ℕ → ℕ
least_of [] = 0
least_of (v ∷ l) = least v l

-- ends that can be joined: as many starts as stops, and no vertex has both
pub record Composite (es : List End) : Type 0 where
  pub even : sum_of (λ (e : End). e.count) es ≡ pos 0
  pub parted : (e d : End) → Memᴰ e es → Memᴰ d es → 0 < below e.count → 0 < above d.count → e.vertex ≢ d.vertex

-- pieces of a composite edge, whoever is joined to whom; `back` has each turned round
pub record Joined (es : List End) (hs : List Half) : Type 0 where
  pub from : List ℕ
  pub to : List ℕ
  pub back : Bool
  pub of_starts : Shuffled from (starts es)
  pub of_stops : Shuffled to (stops es)
  pub pieces : hs ≡ cond back (map turned (zip from to)) (zip from to)

-- all ends of a composite edge, and how many pieces they make; how many ends are at v
unfoldable pub all_ends : List End → List ℕ
all_ends es = starts es ++ stops es

unfoldable pub piece_count : List End → ℕ
piece_count [] = 0
piece_count (e ∷ es) = below e.count + piece_count es

unfoldable pub ends_at : ℕ → List End → ℕ
ends_at v [] = 0
ends_at v (e ∷ es) = cond (eqb v e.vertex) (nat_abs e.count) 0 + ends_at v es

-- a number for each, added up
unfoldable pub summed : {A : Type 0} → (A → ℕ) → List A → ℕ
summed f [] = 0
summed f (x ∷ l) = f x + summed f l

-- ---- counted as the ends come, with no list of pieces: how many pieces, the least vertex so far, and how many ends are there (0: none counts yet)

abbrev pub none_yet : Tally
none_yet = record { pieces = 0; least = 0; at = 0 }

abbrev pub told : Tally → End → Tally
told t e =
    let n = nat_abs e.count in
    cond (nonzero e.count)
    (cond (eqb t.at 0 || ltb e.vertex t.least)
    (record { pieces = t.pieces + below e.count; least = e.vertex; at = n })
    (record { pieces = t.pieces + below e.count; least = t.least; at = t.at + cond (eqb t.least e.vertex) n 0 }))
    t

abbrev pub tell : Tally → List End → Tally
tell t [] = t
tell t (e ∷ es) = tell (told t e) es

-- from one tally to another there are at most n pieces and ends more
pub record Near (s t : Tally) (n : ℕ) : Type 0 where
  pub pieces : t.pieces ≤ s.pieces + n
  pub at : t.at ≤ s.at + n
