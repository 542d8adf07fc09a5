-- How many triangles a boundary gives: as many as it has pieces, less the ends at its smallest vertex. Neither depends on who is joined to whom.
use mathlib.Core.Path.{◌≡◌, refl, sym, ap, ◌∙◌, subst}
use mathlib.Core.Logic.{◌≢◌}
use mathlib.Core.Bool.{Bool, true, false, not, ◌||◌, cond}
use mathlib.Core.List.{List, [], ◌∷◌, ◌++◌, map, flat_map, zip}
use Prim.Native.Nat.{ℕ, zero, suc, ◌+◌, ◌*◌, min}
use native.Mathlib.Omega.{arith}
use borrow.Author.Tests.{eqb-true}
use lib.Dec.{eqb}
use lib.IntN.{nat_abs}
use lib.ListN.{length, replicate, length-append, length-replicate, length-map}
use Rattle.list_words.specs.Lists.{times, least, one_if, keep, above, below, turned}
use Rattle.list_words.proofs.Integers.{abs_parts}
use Rattle.list_words.proofs.Sums.{All, all_mono, all_both, all-++, all_map_of, all_flat_map, flat_append}
use Rattle.list_words.proofs.UpTo.{Apart}
use Rattle.list_words.proofs.Closed.{Simple}
use Rattle.list_words.proofs.Joining as Joining
use Rattle.solids.specs.Solids.{Half}
use Rattle.results.specs.declared.End.{End}
use Rattle.results.specs.Pieces.{starts, stops, pieces}
use Rattle.results.specs.Triangles.{smallest, at_end, fan}
use Rattle.fan_counts.specs.Words.{Shuffled, on, least_of, Composite, Joined, all_ends, piece_count, ends_at, summed}
use Rattle.fan_counts.proofs.Shuffles.{times_append, shuffled_self, shuffled_then, shuffled_append, shuffled_flat, apart_shuffled, least_shuffled}

-- ---- a fan over pieces none of which goes from a vertex to itself
kept_count : (a : ℕ) (hs : List Half) → Simple hs → length (keep (λ h. not (at_end a h)) hs) + times eqb a (on hs) ≡ length hs
unfolding keep times on flat_map
kept_count a [] s = refl
kept_count a (h ∷ hs) s = go (eqb a h.0) (eqb a h.1) refl refl (kept_count a hs s.1)
  where
    k : List Half
    k = keep (λ h. not (at_end a h)) hs

    go : (b c : Bool) → eqb a h.0 ≡ b → eqb a h.1 ≡ c → length k + times eqb a (on hs) ≡ length hs
        → length (cond (not (b || c)) (h ∷ k) k) + (one_if b + (one_if c + times eqb a (on hs))) ≡ suc (length hs)
    go true true e d ih = absurd (s.0 (sym (eqb-true a h.0 e) ∙ eqb-true a h.1 d))
    go true false e d ih = omega arith
    go false true e d ih = omega arith
    go false false e d ih = omega arith

pub smallest_on : (hs : List Half) → smallest hs ≡ least_of (on hs)
unfolding smallest on least_of least flat_map
smallest_on [] = refl
smallest_on (h ∷ hs) = let e : min h.0 h.0 ≡ h.0 = omega arith in ap (λ m. least m (h.1 ∷ on hs)) e

pub fan_count : (o : ℕ) (hs : List Half) → Simple hs → length (fan o hs) + times eqb (least_of (on hs)) (on hs) ≡ length hs
unfolding fan
fan_count o hs s = rw (← smallest_on hs, length-map) (kept_count (smallest hs) hs s)

-- the order of two parts does not matter
on_append : (xs ys : List Half) → on (xs ++ ys) ≡ on xs ++ on ys
unfolding on
on_append xs ys = flat_append (λ (h : Half). h.0 ∷ h.1 ∷ []) xs ys

swap_shuffled : (xs ys : List Half) → Shuffled (on (xs ++ ys)) (on (ys ++ xs))
swap_shuffled xs ys =
    rw (on_append xs ys, on_append ys xs) (record {
      long = omega (arith, length-append (on xs) (on ys), length-append (on ys) (on xs));
      each = λ v. omega (arith, times_append v (on xs) (on ys), times_append v (on ys) (on xs));
    })

pub fan_swap : (o : ℕ) (xs ys : List Half) → Simple xs → Simple ys → length (fan o (xs ++ ys)) ≡ length (fan o (ys ++ xs))
fan_swap o xs ys p q =
    let h = swap_shuffled xs ys in
    let t = ap (λ v. times eqb v (on (xs ++ ys))) (least_shuffled h) ∙ h.each (least_of (on (ys ++ xs))) in
    let f = fan_count o (xs ++ ys) (all-++ (λ (h : Half). h.0 ≢ h.1) xs ys p q) in
    let g = fan_count o (ys ++ xs) (all-++ (λ (h : Half). h.0 ≢ h.1) ys xs q p) in
    omega (arith, f, g, t, length-append xs ys, length-append ys xs)

-- ---- one composite edge
on_zip : (v : ℕ) (s t : List ℕ) → length s ≡ length t → times eqb v (on (zip s t)) ≡ times eqb v s + times eqb v t
unfolding on zip flat_map times
on_zip v [] [] e = refl
on_zip v [] (y ∷ t) e = absurd (omega arith)
on_zip v (x ∷ s) [] e = absurd (omega arith)
on_zip v (x ∷ s) (y ∷ t) e = omega (arith, on_zip v s t (omega arith))

long_zip : (s t : List ℕ) → length s ≡ length t → length (zip s t) ≡ length s
unfolding zip
long_zip [] [] e = refl
long_zip [] (y ∷ t) e = absurd (omega arith)
long_zip (x ∷ s) [] e = absurd (omega arith)
long_zip (x ∷ s) (y ∷ t) e = ap suc (long_zip s t (omega arith))

pub two_on : (hs : List Half) → length (on hs) ≡ 2 * length hs
unfolding on flat_map
two_on [] = refl
two_on (h ∷ hs) = omega (arith, two_on hs)

on_turned : (v : ℕ) (hs : List Half) → times eqb v (on (map turned hs)) ≡ times eqb v (on hs)
unfolding on flat_map times
on_turned v [] = refl
on_turned v (h ∷ hs) = omega (arith, on_turned v hs)

zip_shuffled : (s t : List ℕ) → length s ≡ length t → Shuffled (on (zip s t)) (s ++ t)
zip_shuffled s t e =
    record {
      long = omega (arith, two_on (zip s t), long_zip s t e, length-append s t, e);
      each = λ v. on_zip v s t e ∙ sym (times_append v s t);
    }

turned_shuffled : (hs : List Half) → Shuffled (on (map turned hs)) (on hs)
turned_shuffled hs = record { long = omega (arith, two_on (map turned hs), two_on hs, length-map hs (turned {A = ℕ})); each = λ v. on_turned v hs }

turned_simple : (hs : List Half) → Simple hs → Simple (map turned hs)
turned_simple hs s = all_map_of (λ (h : Half). h.0 ≢ h.1) turned hs (all_mono (λ (h : Half). h.0 ≢ h.1) (λ (h : Half). h.1 ≢ h.0) hs (λ h n e. n (sym e)) s)

module _ {es : List End} (c : Composite es) where
  pub same_many : length (starts es) ≡ length (stops es)
  unfolding starts stops
  same_many = Joining.same_length (λ (e : End). e.vertex) (λ (e : End). e.count) es c.even

  pub ends_apart : Apart (starts es) (stops es)
  unfolding starts stops
  ends_apart =
      Joining.all_copies (λ (e : End). e.vertex) (λ x. All (λ y. x ≢ y) (Joining.stops (λ (e : End). e.vertex) (λ (e : End). e.count) es)) (λ (e : End). below e.count) es
      (λ e i m. Joining.all_copies (λ (e : End). e.vertex) (λ y. e.vertex ≢ y) (λ (e : End). above e.count) es (λ d j n. c.parted e d i j m n))

  module _ {hs : List Half} (j : Joined es hs) where
    level : length j.from ≡ length j.to
    level = j.of_starts.long ∙ same_many ∙ sym j.of_stops.long

    plain_simple : Simple (zip j.from j.to)
    plain_simple = Joining.all_zip (λ (h : Half). h.0 ≢ h.1) j.from j.to (apart_shuffled j.of_starts j.of_stops ends_apart)

    pub joined_simple : Simple hs
    joined_simple = subst Simple (sym j.pieces) (go j.back)
      where
        go : (b : Bool) → Simple (cond b (map turned (zip j.from j.to)) (zip j.from j.to))
        go true = turned_simple (zip j.from j.to) plain_simple
        go false = plain_simple

    pub joined_shuffled : Shuffled (on hs) (all_ends es)
    unfolding all_ends
    joined_shuffled =
        shuffled_then (subst (λ l. Shuffled (on l) (on (zip j.from j.to))) (sym j.pieces) (go j.back))
        (shuffled_then (zip_shuffled j.from j.to level) (shuffled_append j.of_starts j.of_stops))
      where
        go : (b : Bool) → Shuffled (on (cond b (map turned (zip j.from j.to)) (zip j.from j.to))) (on (zip j.from j.to))
        go true = turned_shuffled (zip j.from j.to)
        go false = shuffled_self (on (zip j.from j.to))

-- ---- sums and lists over composite edges
on_flat : {A : Type 0} (p : A → List Half) (l : List A) → on (flat_map p l) ≡ flat_map (λ x. on (p x)) l
unfolding on flat_map
on_flat p [] = refl
on_flat p (x ∷ l) = flat_append (λ (h : Half). h.0 ∷ h.1 ∷ []) (p x) (flat_map p l) ∙ ap (λ r. on (p x) ++ r) (on_flat p l)

-- in listing order, either way round
pub pieces_joined : (b : Bool) (es : List End) → Joined es (cond b (map turned (pieces es)) (pieces es))
unfolding pieces
pieces_joined b es = record { from = starts es; to = stops es; back = b; of_starts = shuffled_self (starts es); of_stops = shuffled_self (stops es); pieces = refl }

-- ---- what its counts say
starts_long : (es : List End) → length (starts es) ≡ piece_count es
unfolding starts flat_map piece_count
starts_long [] = refl
starts_long (e ∷ es) = omega (arith, length-append (replicate (below e.count) e.vertex) (starts es), length-replicate (below e.count) e.vertex, starts_long es)

times_replicate : (v n w : ℕ) → times eqb v (replicate n w) ≡ cond (eqb v w) n 0
unfolding times
times_replicate v zero w = go (eqb v w)
  where
    go : (b : Bool) → ◌≡◌ {A = ℕ} 0 (cond b 0 0)
    go true = refl
    go false = refl
times_replicate v (suc n) w = go (eqb v w) (times_replicate v n w)
  where
    go : (b : Bool) → times eqb v (replicate n w) ≡ cond b n 0 → one_if b + times eqb v (replicate n w) ≡ cond b (suc n) 0
    go true e = omega arith
    go false e = omega arith

one_end : (b : Bool) (e : End) → cond b (below e.count) 0 + cond b (above e.count) 0 ≡ cond b (nat_abs e.count) 0
one_end true e = omega (arith, abs_parts e.count)
one_end false e = refl

both_sides : (v : ℕ) (es : List End) → times eqb v (starts es) + times eqb v (stops es) ≡ ends_at v es
unfolding starts stops flat_map ends_at times
both_sides v [] = refl
both_sides v (e ∷ es) =
    omega (
      arith,
      times_append v (replicate (below e.count) e.vertex) (starts es),
      times_append v (replicate (above e.count) e.vertex) (stops es),
      times_replicate v (below e.count) e.vertex,
      times_replicate v (above e.count) e.vertex,
      one_end (eqb v e.vertex) e,
      both_sides v es,
    )

pub times_ends : (v : ℕ) (es : List End) → times eqb v (all_ends es) ≡ ends_at v es
unfolding all_ends
times_ends v es = times_append v (starts es) (stops es) ∙ both_sides v es

pub times_flat : {A : Type 0} (v : ℕ) (ends : A → List End) (l : List A) → times eqb v (flat_map (λ x. all_ends (ends x)) l) ≡ summed (λ x. ends_at v (ends x)) l
unfolding flat_map summed times
times_flat v ends [] = refl
times_flat v ends (x ∷ l) = omega (arith, times_append v (all_ends (ends x)) (flat_map (λ x. all_ends (ends x)) l), times_ends v (ends x), times_flat v ends l)

ends_long : {A : Type 0} (ends : A → List End) (l : List A) → All (λ x. Composite (ends x)) l → length (flat_map (λ x. all_ends (ends x)) l) ≡ 2 * summed (λ x. piece_count (ends x)) l
unfolding flat_map summed all_ends
ends_long ends [] c = refl
ends_long ends (x ∷ l) c =
    omega (
      arith,
      length-append (all_ends (ends x)) (flat_map (λ x. all_ends (ends x)) l),
      length-append (starts (ends x)) (stops (ends x)),
      starts_long (ends x),
      same_many c.0,
      ends_long ends l c.1,
    )

-- ---- a boundary of composite edges, each joined in any order
module _ {A : Type 0} (l : List A) (ends : A → List End) (c : All (λ x. Composite (ends x)) l) where
  -- every end of the boundary
  abbrev pub boundary_ends : List ℕ
  boundary_ends = flat_map (λ x. all_ends (ends x)) l

  module _ (p : A → List Half) (j : All (λ x. Joined (ends x) (p x)) l) where
    pub boundary_simple : Simple (flat_map p l)
    boundary_simple =
        all_flat_map (λ (h : Half). h.0 ≢ h.1) p l
        (all_mono (λ x. Composite (ends x) × Joined (ends x) (p x)) (λ x. Simple (p x)) l (λ x r. joined_simple r.0 r.1) (all_both _ _ l c j))

    pub boundary_shuffled : Shuffled (on (flat_map p l)) boundary_ends
    boundary_shuffled =
        subst (λ ns. Shuffled ns boundary_ends) (sym (on_flat p l)) (shuffled_flat (λ x. on (p x)) (λ x. all_ends (ends x)) l
        (all_mono (λ x. Composite (ends x) × Joined (ends x) (p x)) (λ x. Shuffled (on (p x)) (all_ends (ends x))) l (λ x r. joined_shuffled r.0 r.1) (all_both _ _ l c j)))

    -- AS MANY TRIANGLES as the composite edges have pieces, less the ends at the least vertex
    pub boundary_count : (o : ℕ) → length (fan o (flat_map p l)) + summed (λ x. ends_at (least_of boundary_ends) (ends x)) l ≡ summed (λ x. piece_count (ends x)) l
    boundary_count o =
        let f = fan_count o (flat_map p l) boundary_simple in
        let h = boundary_shuffled in
        let e = least_shuffled h in
        let t = ap (λ v. times eqb v (on (flat_map p l))) e ∙ h.each (least_of boundary_ends) ∙ times_flat (least_of boundary_ends) ends l in
        omega (arith, f, t, two_on (flat_map p l), h.long, ends_long ends l c)

  -- two joinings give as many triangles
  pub same_count : (p q : A → List Half) → All (λ x. Joined (ends x) (p x)) l → All (λ x. Joined (ends x) (q x)) l → (o : ℕ) → length (fan o (flat_map p l)) ≡ length (fan o (flat_map q l))
  same_count p q j k o = omega (arith, boundary_count p j o, boundary_count q k o)
