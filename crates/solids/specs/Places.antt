-- What 2026-01 promises of a refusal on the only solid: that its place is where the fault is first found, and that its number is document 01's, with
-- 10 or 11 for 5.
use Rattle.std.specs.Prelude.{ℕ, ◌<◌, ◌≡◌, Bool, true, false, ◌||◌, cond, [], ◌∷◌, eqb, Err}
use Rattle.std.specs.Float.Ieee.{is_nan}
use Rattle.list_words.specs.Lists.{up_to, any}
use Rattle.solids.specs.declared.Answer.{Answer}
use Rattle.solids.specs.Refusals.{Verdict, answer, answer_of, on_solid, given, in_order}
use Rattle.solids.specs.Solids.{Solid, vertices, facets, vertex, half_edges, pairs}
use Rattle.solids.specs.Admission.{uneven, too_many, blank, beyond, out_of_range, high, twice, differ, unmatched, admission}

-- document 01's 5: "a corner number is not below the vertex count, or a facet names a vertex twice"
unfoldable pub faulty : Solid → ℕ → Bool
faulty s f = high s f || twice s f

-- the place is below the count, the fault is there, none is before it
pub record First (count : ℕ) (fault : ℕ → Bool) (place : ℕ) : Type 0 where
  pub below : place < count
  pub there : fault place ≡ true
  pub none_before : (i : ℕ) → i < place → fault i ≡ false

-- "a place: the first blank or out-of-range vertex for 3 and 4; the first faulty facet for corner faults; for 6 the first facet with a half-edge whose
-- two directions differ in number. Others carry place 0."
pub data Placed (s : Solid) : Answer → Type 0 where
  at_1 : Placed s (on_solid 1 0)
  at_2 : Placed s (on_solid 2 0)
  at_3 : (i : ℕ) → First (vertices s) (λ i. blank (vertex s i)) i → Placed s (on_solid 3 i)
  at_4 : (i : ℕ) → First (vertices s) (λ i. out_of_range (vertex s i)) i → Placed s (on_solid 4 i)
  at_10 : (f : ℕ) → First (facets s) (faulty s) f → high s f ≡ true → Placed s (on_solid 10 f)
  at_11 : (f : ℕ) → First (facets s) (faulty s) f → high s f ≡ false → twice s f ≡ true → Placed s (on_solid 11 f)
  at_6 : (f : ℕ) → First (facets s) (unmatched s) f → Placed s (on_solid 6 f)

-- the checks on one solid as document 01 has them
unfoldable pub admission_01 : Solid → Verdict
admission_01 s =
    in_order
    (given (answer_of 1) (uneven s)
    ∷ given (answer_of 2) (too_many s)
    ∷ given (answer_of 3) (any is_nan s.points)
    ∷ given (answer_of 4) (any beyond s.points)
    ∷ given (answer_of 5) (any (faulty s) (up_to (facets s)))
    ∷ given (answer_of 6) (any (differ (half_edges s)) (pairs (vertices s)))
    ∷ [])

-- "5 is split into 10 .. and 11"
abbrev pub five_for : ℕ → ℕ
five_for n = cond (eqb n 10 || eqb n 11) 5 n

pub record Places : Type 0 where
  pub place_holds : (s : Solid) (a : Answer) → admission s ≡ Err a → Placed s a
  -- "10 and 11 stand where an order of checks names or spans 5"; the other numbers are given where they were
  pub numbers_stay : (s : Solid) → five_for (answer (admission s)).number ≡ (answer (admission_01 s)).number
