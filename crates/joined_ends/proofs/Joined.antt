-- Placing every end of a composite edge leaves its pieces in the front of the list. There need be room for the pieces only, and not for every start
-- or stop that finds no partner.
use mathlib.Core.Path.{◌≡◌, refl, sym, ap, ap₂, ◌∙◌}
use mathlib.Core.List.{List, [], ◌∷◌, ◌++◌, map, flat_map, zip, append_assoc, append-nil, map-map}
use Prim.Native.Nat.{ℕ, zero, suc, ◌+◌, ◌-◌, ◌*◌, ◌/◌, ◌<◌, ◌≤◌, min}
use native.Mathlib.Nat.{add-zero}
use native.Mathlib.Omega.{arith}
use native.Mathlib.Decide.{dec_lt}
use lib.ListN.{length, get_or, set, take, drop, replicate, length-append, length-set, length-drop, take-append-drop, drop_of_length-le, get_or-append}
use lib.Seq.{get_or-set_same, get_or-set_other, get_or_at, length-take-le, take_all, take_at, drop_at, take-append-add}
use Rattle.list_words.specs.Lists.{up_to, above, below}
use Rattle.list_words.proofs.UpTo.{up_to_first, map_up_to}
use Rattle.solids.specs.Solids.{Half}
use Rattle.results.specs.declared.End.{End}
use Rattle.results.specs.Pieces.{starts, stops, pieces}
use Rattle.placed_ends.specs.declared.Counts.{Counts}
use Rattle.placed_ends.specs.Words.{put_once, put_times, placed}
use Rattle.placed_ends.proofs.Placing.{both, put_room, put_full}
use Rattle.joined_ends.specs.Words.{flat, firsts, Behind, all_placed}
use Rattle.joined_ends.proofs.Flat.{two_each, numbers_firsts}
use Rattle.joined_ends.proofs.AllPlaced.{State, joined, placed_append}

-- ---- two lists, joined place by place
pub length_zip : {A B : Type 0} (us : List A) (bs : List B) → length (zip us bs) ≡ min (length us) (length bs)
unfolding zip
length_zip [] bs = omega arith
length_zip (u ∷ us) [] = omega arith
length_zip (u ∷ us) (b ∷ bs) = omega (arith, length_zip us bs)

zip_places : (us bs : List ℕ) → map (λ i. (get_or us i 0, get_or bs i 0)) (up_to (length (zip us bs))) ≡ zip us bs
unfolding zip up_to
zip_places [] bs = refl
zip_places (u ∷ us) [] = refl
zip_places (u ∷ us) (b ∷ bs) =
    let at : ℕ → Half = λ i. (get_or (u ∷ us) i 0, get_or (b ∷ bs) i 0) in
    let n = length (zip us bs) in
    ap (map at) (up_to_first n) ∙ ap (λ r. (u, b) ∷ r) (map-map at suc (up_to n) ∙ zip_places us bs)

-- ---- one side of the list: us came, and as many of them as there is room for stand at their places
record Has (room side : ℕ) (l us : List ℕ) (k : ℕ) : Type 0 where
  count : k ≡ min room (length us)
  same : (i : ℕ) → i < k → get_or l (2 * i + side) 0 ≡ get_or us i 0

module _ (room side : ℕ) (l us : List ℕ) (k v : ℕ) (h : Has room side l us k) where
  has_more : room ≡ length l / 2 → k < room → side < 2 → Has room side (set l (2 * k + side) v) (us ++ (v ∷ [])) (k + 1)
  has_more r f s =
      let n : length us ≡ k = omega (arith, h.count) in
      record { count = rw (length-append us (v ∷ [])) (omega arith); same = λ i j. elim (dec_lt i k) [ yes y ↦ before i y n | no q ↦ let e : i ≡ k = omega arith in rw e (here n) ] }
    where
      before : (i : ℕ) → i < k → length us ≡ k → get_or (set l (2 * k + side) v) (2 * i + side) 0 ≡ get_or (us ++ (v ∷ [])) i 0
      before i y n =
          get_or-set_other l (2 * k + side) (2 * i + side) v 0 (λ e. omega arith) ∙ h.same i y ∙ sym (get_or-append us (v ∷ []) 0 i (omega arith))

      here : length us ≡ k → get_or (set l (2 * k + side) v) (2 * k + side) 0 ≡ get_or (us ++ (v ∷ [])) k 0
      here n = get_or-set_same l (2 * k + side) v 0 (omega arith) ∙ sym (get_or_at us v [] 0 k n)

  has_full : room ≤ k → Has room side l (us ++ (v ∷ [])) k
  has_full f =
      record {
        count = rw (length-append us (v ∷ [])) (omega (arith, h.count));
        same = λ i j. h.same i j ∙ sym (get_or-append us (v ∷ []) 0 i (omega (arith, h.count)));
      }

  -- what is put on the other side is not seen
  has_still : (other j : ℕ) → side + other ≡ 1 → Has room side (set l (2 * j + other) v) us k
  has_still other j s = record { count = h.count; same = λ i y. get_or-set_other l (2 * j + other) (2 * i + side) v 0 (λ e. omega arith) ∙ h.same i y }

-- ---- both sides
record Sides (room side other : ℕ) (l us bs : List ℕ) (k j : ℕ) : Type 0 where
  mine : Has room side l us k
  theirs : Has room other l bs j
  size : room ≡ length l / 2
  apart : side + other ≡ 1

swap : {room side other : ℕ} {l us bs : List ℕ} {k j : ℕ} → Sides room side other l us bs k j → Sides room other side l bs us j k
swap h = record { mine = h.theirs; theirs = h.mine; size = h.size; apart = omega (arith, h.apart) }

module _ {room side other : ℕ} (v : ℕ) where
  once : {l us bs : List ℕ} {k j : ℕ} → Sides room side other l us bs k j
      → Sides room side other (put_once side v (l, k)).0 (us ++ (v ∷ [])) bs (put_once side v (l, k)).1 j
  once {l} {us} {bs} {k} {j} h = elim (dec_lt k (length l / 2)) [
    | yes y ↦ rw (put_room side v (l, k) y) (record {
      mine = has_more room side l us k v h.mine h.size (omega (arith, h.size)) (omega (arith, h.apart));
      theirs = has_still room other l bs j v h.theirs side k (omega (arith, h.apart));
      size = h.size ∙ ap (λ n. n / 2) (sym (length-set l (2 * k + side) v));
      apart = h.apart;
    })
    | no n ↦ rw (put_full side v (l, k) (omega arith)) (record {
      mine = has_full room side l us k v h.mine (omega (arith, h.size));
      theirs = h.theirs;
      size = h.size;
      apart = h.apart;
    })
  ]

  times : (n : ℕ) {l us bs : List ℕ} {k j : ℕ} → Sides room side other l us bs k j
      → Sides room side other (put_times side v n (l, k)).0 (us ++ replicate n v) bs (put_times side v n (l, k)).1 j
  times zero {us = us} h = rw (append-nil us) h
  times (suc n) {us = us} h = rw (append_assoc us (v ∷ []) (replicate n v)) at (times n (once h))

abbrev Placed : ℕ → State → List ℕ → List ℕ → Type 0
Placed room s us bs = Sides room 0 1 s.0 us bs s.1.starts s.1.stops

one_end : {room : ℕ} {s : State} {us bs : List ℕ} (e : End) → Placed room s us bs
    → Placed room (placed s e) (us ++ replicate (below e.count) e.vertex) (bs ++ replicate (above e.count) e.vertex)
one_end e h = swap (times e.vertex (above e.count) (swap (times e.vertex (below e.count) h)))

all_ends : {room : ℕ} {s : State} {us bs : List ℕ} (es : List End) → Placed room s us bs → Placed room (all_placed s es) (us ++ starts es) (bs ++ stops es)
unfolding starts stops flat_map
all_ends {room} {s} {us} {bs} [] h = rw (append-nil us, append-nil bs) h
all_ends {room} {s} {us} {bs} (e ∷ es) h =
    rw (append_assoc us (replicate (below e.count) e.vertex) (starts es), append_assoc bs (replicate (above e.count) e.vertex) (stops es)) at
    (all_ends {s = placed s e} es (one_end e h))

-- ---- where there is room for the pieces: how many they are, and that they stand in front
joined_pieces : (es : List End) (l : List ℕ) (r : ℕ) → length (flat (pieces es)) ≤ length l → r ≡ min (joined es l).1.starts (joined es l).1.stops
    → (2 * r ≡ length (flat (pieces es))) × (take (2 * r) (joined es l).0 ≡ flat (pieces es))
unfolding pieces firsts
joined_pieces es l r h q =
    let t = joined es l in
    let a =
    all_ends {room = length l / 2} {s = (l, record { starts = 0; stops = 0 })} {us = []} {bs = []} es (record {
      mine = record { count = omega arith; same = λ i j. absurd (omega arith) };
      theirs = record { count = omega arith; same = λ i j. absurd (omega arith) };
      size = refl;
      apart = refl;
    }) in
    let n = length_zip (starts es) (stops es) in
    let f = two_each (pieces es) in
    let m : r ≡ length (pieces es) = omega (arith, a.mine.count, a.theirs.count, q, f, n, h) in
    let fit : 2 * r ≤ length t.0 = omega (arith, a.size, a.mine.count) in
    let e : firsts t.0 r ≡ pieces es = read es t.0 r m (λ i j. a.mine.same i (omega arith)) (λ i j. a.theirs.same i (omega arith)) in
    (rw (f, m), sym (numbers_firsts t.0 r fit) ∙ ap flat e)
  where
    read : (es : List End) (l : List ℕ) (r : ℕ) → r ≡ length (zip (starts es) (stops es)) → ((i : ℕ) → i < r → get_or l (2 * i + 0) 0 ≡ get_or (starts es) i 0)
        → ((i : ℕ) → i < r → get_or l (2 * i + 1) 0 ≡ get_or (stops es) i 0) → firsts l r ≡ zip (starts es) (stops es)
    read es l r m x y =
        map_up_to r (λ i. (get_or l (2 * i) 0, get_or l (2 * i + 1) 0)) (λ i. (get_or (starts es) i 0, get_or (stops es) i 0))
        (λ i j. ap₂ (λ a b. (a, b)) (rw add-zero at (x i j)) (y i j))
        ∙ ap (λ n. map (λ i. (get_or (starts es) i 0, get_or (stops es) i 0)) (up_to n)) m ∙ zip_places (starts es) (stops es)

-- ---- where the list is lent from its place `at` on, once or more than once: the list was `o` and now is `l`, behind the first `at` numbers the ends `es`
-- are placed, and c counts them
pub record Laid (o : List ℕ) (at : ℕ) (es : List End) (l : List ℕ) (c : Counts) : Type 0 where
  pub long : length l ≡ length o
  pub before : take at l ≡ take at o
  pub state : (drop at l, c) ≡ joined es (drop at o)

pub laid_none : (o : List ℕ) (at : ℕ) → Laid o at [] o (record { starts = 0; stops = 0 })
laid_none o at = record { long = refl; before = refl; state = refl }

module _ {o : List ℕ} {at : ℕ} {es : List End} {l : List ℕ} {c : Counts} (h : Laid o at es l c) where
  -- the rest of the list is lent, some more ends are placed in it, and it is back
  pub laid_more : (xs : List End) (p : List ℕ) (d : Counts) → at ≤ length o → length p ≡ length (take (length l - at) (drop at l))
      → (p ≡ (all_placed (take (length l - at) (drop at l), c) xs).0) × (d ≡ (all_placed (take (length l - at) (drop at l), c) xs).1)
      → Laid o at (es ++ xs) (take at l ++ (p ++ drop (length l - at) (drop at l))) d
  laid_more xs p d k m e =
      let n : length (take at l) ≡ at = length-take-le at l (omega (arith, h.long)) in
      let whole : take (length l - at) (drop at l) ≡ drop at l = take_all (length l - at) (drop at l) (omega (arith, length-drop at l)) in
      let none : drop (length l - at) (drop at l) ≡ [] = drop_of_length-le (drop at l) {i = length l - at} (omega (arith, length-drop at l)) in
      let back : p ++ drop (length l - at) (drop at l) ≡ p = ap (λ z. p ++ z) none ∙ append-nil p in
      record {
        long =
            length-append (take at l) (p ++ drop (length l - at) (drop at l)) ∙ ap (λ z. length (take at l) + length z) back
            ∙ omega (arith, n, m, ap length whole, length-drop at l, h.long);
        before = take_at (take at l) (p ++ drop (length l - at) (drop at l)) at n ∙ h.before;
        state =
            ap₂ (λ (z : List ℕ) (b : Counts). (z, b)) (drop_at (take at l) (p ++ drop (length l - at) (drop at l)) at n ∙ back ∙ e.0) e.1
            ∙ ap (λ z. all_placed (z, c) xs) whole ∙ ap (λ (s : State). all_placed s xs) h.state
            ∙ sym (placed_append (drop at o, record { starts = 0; stops = 0 }) es xs);
      }

  -- where there is room for the pieces of all of them
  pub laid_behind : at + length (flat (pieces es)) ≤ length o → Behind (flat (pieces es)) o at l (at + 2 * min c.starts c.stops)
  laid_behind k =
      let r = min c.starts c.stops in
      let s = both h.state in
      let n : length (take at l) ≡ at = length-take-le at l (omega (arith, h.long)) in
      let w = joined_pieces es (drop at o) r (rw length-drop (omega arith)) (ap (λ (d : Counts). min d.starts d.stops) s.1) in
      record {
        front =
            ap (take (at + 2 * r)) (sym (take-append-drop at l)) ∙ ap (λ m. take (m + 2 * r) (take at l ++ drop at l)) (sym n)
            ∙ take-append-add (take at l) (drop at l) (2 * r) ∙ ap₂ ◌++◌ h.before (ap (take (2 * r)) s.0 ∙ w.1);
        next = ap (λ m. at + m) w.0;
      }
