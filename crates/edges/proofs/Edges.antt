-- Edges listed row by row: what comes next, that nothing comes twice, and one edge more in the list and in the table of numbers.
use mathlib.Core.Path.{◌≡◌, refl, sym, ap, ap₂, ◌∙◌, subst}
use mathlib.Core.Logic.{◌≢◌, ◌⊎◌, inl, inr}
use mathlib.Core.Bool.{Bool, true, false, cond}
use mathlib.Core.List.Memᴰ
use mathlib.Core.List.{List, [], ◌∷◌, ◌++◌, flat_map, append-nil, append_assoc, Memᴰ}
use Prim.Native.Nat.{ℕ, zero, suc, ◌+◌, ◌*◌, ◌<◌, ◌≤◌}
use native.Mathlib.Omega.{arith}
use native.Mathlib.Nat.{mul-le-mul_right}
use native.Mathlib.Numerals.{add-one}
use lib.Dec.{eqb, eqb→eq, eqb_refl}
use lib.ListN.{length, get_or, take, set, length-set, length-append, length-map}
use lib.Seq.{get_or-set_same, get_or-set_other, take-suc-set}
use Rattle.list_words.specs.Lists.{up_to, keep, before}
use Rattle.list_words.proofs.Sums.{All, all_at, all_mono, all-++, all_map_of, all_flat_map, flat_append}
use Rattle.list_words.proofs.Tests.{of_T, T_of, never, all_keep}
use Rattle.list_words.proofs.UpTo.{all_up_to, length_up_to, map_up_to_suc, flat_up_to_suc}
use Rattle.list_words.proofs.Closed.{same_half_sound, same_half_self}
use Rattle.list_stores.proofs.Kept.{keep_append}
use Rattle.solids.specs.Solids.{Solid, vertices, edges, Half, number_of, same_half, pairs, is_edge, half_edges, solid}
use Rattle.solids.specs.Words.{place, Tallied}
use Rattle.edges.specs.Words.{seen, edges_seen, edges_of, edge_number, two_each, Listed}
use Rattle.solids.proofs.Pairs.{row}
use Rattle.solids.proofs.Tally.{place_apart}

-- what stands in the table of counts
pub tallied_at : {table : List ℕ} {hs : List Half} (t : Tallied table hs) (p q : ℕ) → p < 128 → q < 128 → number_of (p, q) hs ≡ get_or table (128 * p + q) 0
tallied_at t p q h k = sym (t.at (p, q) h k)

-- ---- what comes next
pub seen_next : (n p q : ℕ) → seen n p (q + 1) ≡ seen n p q ++ ((p, q) ∷ [])
unfolding seen
seen_next n p q =
    ap (λ k. flat_map (row n) (up_to p) ++ row k p) (add-one q)
    ∙ ap (λ l. flat_map (row n) (up_to p) ++ l) (map_up_to_suc (λ s. (p, s)) q)
    ∙ sym (append_assoc (flat_map (row n) (up_to p)) (row q p) ((p, q) ∷ []))

pub seen_row : (n p : ℕ) → seen n p n ≡ seen n (p + 1) 0
unfolding seen up_to
seen_row n p =
    sym (append-nil (flat_map (row n) (up_to (p + 1))) ∙ ap (λ k. flat_map (row n) (up_to k)) (add-one p)
    ∙ flat_up_to_suc (row n) p)

pub seen_all : (n : ℕ) → seen n n 0 ≡ pairs n
unfolding seen up_to pairs
seen_all n = append-nil (flat_map (row n) (up_to n))

keep_one : {A : Type 0} (f : A → Bool) (x : A) → keep f (x ∷ []) ≡ cond (f x) (x ∷ []) []
unfolding keep
keep_one f x = refl

pub edges_next : (corners : List ℕ) (n p q : ℕ) → edges_seen corners n p (q + 1) ≡ edges_seen corners n p q ++ cond (is_edge (half_edges (solid [] corners)) (p, q)) ((p, q) ∷ []) []
unfolding edges_seen
edges_next corners n p q =
    let f = is_edge (half_edges (solid [] corners)) in
    ap (keep f) (seen_next n p q) ∙ keep_append f (seen n p q) ((p, q) ∷ []) ∙ ap (λ l. keep f (seen n p q) ++ l) (keep_one f (p, q))

-- ---- how many
length_rows : (n p : ℕ) → length (flat_map (row n) (up_to p)) ≡ p * n
unfolding up_to flat_map
length_rows n zero = omega arith
length_rows n (suc p) =
    ap length (flat_up_to_suc (row n) p) ∙ length-append (flat_map (row n) (up_to p)) (row n p)
    ∙ ap₂ ◌+◌ (length_rows n p) (length-map {B = Half} (up_to n) (λ s. (p, s)) ∙ length_up_to n) ∙ omega arith

pub keep_le : {A : Type 0} (f : A → Bool) (l : List A) → length (keep f l) ≤ length l
unfolding keep
keep_le f [] = omega arith
keep_le f (x ∷ l) = go (f x) (keep_le f l)
  where
    go : (b : Bool) → length (keep f l) ≤ length l → length (cond b (x ∷ keep f l) (keep f l)) ≤ suc (length l)
    go true h = omega arith
    go false h = omega arith

pub edges_few : (corners : List ℕ) (n p q : ℕ) → length (edges_seen corners n p q) ≤ p * n + q
unfolding edges_seen seen
edges_few corners n p q =
    omega (
      arith,
      keep_le (is_edge (half_edges (solid [] corners))) (seen n p q),
      length-append (flat_map (row n) (up_to p)) (row q p),
      length_rows n p,
      length-map {B = Half} (up_to q) (λ s. (p, s)),
      length_up_to q,
    )

pub edges_room : (corners : List ℕ) (n p q : ℕ) → p < n → q < n → n ≤ 128 → length (edges_seen corners n p q) ≤ 16383
edges_room corners n p q a b h = let k : p ≤ 127 = omega arith in omega (arith, edges_few corners n p q, mul-le-mul_right n k)

-- ---- nothing comes twice: what is seen stands in an earlier row, or earlier in this one
pub record Earlier (p q : ℕ) (d : Half) : Type 0 where
  pub row : d.0 ≤ p
  pub low : d.1 < 128
  pub apart : d ≢ (p, q)

pub edges_earlier : (corners : List ℕ) (n p q : ℕ) → n ≤ 128 → q ≤ n → All (Earlier p q) (edges_seen corners n p q)
unfolding edges_seen seen
edges_earlier corners n p q h k =
    all_mono _ (Earlier p q) (keep (is_edge (half_edges (solid [] corners))) (seen n p q)) (λ d r. r.1)
    (all_keep (is_edge (half_edges (solid [] corners))) (Earlier p q) (seen n p q)
    (all-++ (Earlier p q) (flat_map (row n) (up_to p)) (row q p)
    (all_flat_map (Earlier p q) (row n) (up_to p)
    (all_up_to (λ r. All (Earlier p q) (row n r)) p
    (λ r i. all_map_of (Earlier p q) (λ s. (r, s)) (up_to n) (all_up_to (λ s. Earlier p q (r, s)) n
    (λ s j. record { row = omega arith; low = omega arith; apart = λ e. let z = ap (λ (d : Half). d.0) e in omega arith })))))
    (all_map_of (Earlier p q) (λ s. (p, s)) (up_to q) (all_up_to (λ s. Earlier p q (p, s)) q
    (λ s j. record { row = omega arith; low = omega arith; apart = λ e. let z = ap (λ (d : Half). d.1) e in omega arith })))))

-- ---- one edge more
same_not : (d e : Half) → d ≢ e → same_half d e ≡ false
same_not d e n = go (same_half d e) refl
  where
    go : (b : Bool) → same_half d e ≡ b → b ≡ false
    go true q = absurd (n (same_half_sound eqb eqb→eq eqb_refl d e (T_of (same_half d e) q)))
    go false q = refl

same_self : (e : Half) → same_half e e ≡ true
same_self e = of_T (same_half e e) (same_half_self eqb eqb→eq eqb_refl e)

-- the number of an edge that is there stays, and a new one has the next
before_in : (d e : Half) (es : List Half) → Memᴰ d es → before same_half d (es ++ (e ∷ [])) ≡ before same_half d es
unfolding before
before_in d e [] m = absurd (Memᴰ.not-nil m)
before_in d e (x ∷ es) m = go (same_half d x) refl (Memᴰ.cases_cons m) (before_in d e es)
  where
    go :
        (b : Bool) → same_half d x ≡ b → (d ≡ x) ⊎ Memᴰ d es → (Memᴰ d es → before same_half d (es ++ (e ∷ [])) ≡ before same_half d es)
        → cond b [] (x ∷ before same_half d (es ++ (e ∷ []))) ≡ cond b [] (x ∷ before same_half d es)
    go true q c ih = refl
    go false q (inl r) ih = absurd (never (same_half d x) (subst (λ z. same_half d z ≡ true) r (same_self d)) q)
    go false q (inr n) ih = ap {B = List Half} (λ l. x ∷ l) (ih n)

before_new : (e : Half) (es : List Half) → All (λ d. d ≢ e) es → before same_half e (es ++ (e ∷ [])) ≡ es
unfolding before
before_new e [] h = rw (same_self e)
before_new e (x ∷ es) h = rw (same_not e x (λ q. h.0 (sym q))) (ap {B = List Half} (λ l. x ∷ l) (before_new e es h.1))

pub listed_next :
    (es : List Half) (ends numbers : List ℕ) (k p q : ℕ) → p < 128 → q < 128 → All (Earlier p q) es → Listed es ends numbers k
    → Listed (es ++ ((p, q) ∷ [])) (set (set ends (2 * k) p) (2 * k + 1) q) (set numbers (place (p, q)) k) (k + 1)
unfolding flat_map
listed_next es ends numbers k p q hp hq early l =
    record {
      many = ap (λ n. n + 1) l.many ∙ sym (length-append es ((p, q) ∷ []));
      room = length-set (set ends (2 * k) p) (2 * k + 1) q ∙ length-set ends (2 * k) p ∙ l.room;
      size = length-set numbers (place (p, q)) k ∙ l.size;
      front =
          λ few. let n = length-append es ((p, q) ∷ []) in
          let r = l.room in
          let m = l.many in
          let w : 2 * length (es ++ ((p, q) ∷ [])) ≡ suc (2 * k + 1) = omega arith in
          ap (λ i. take i (set (set ends (2 * k) p) (2 * k + 1) q)) w
          ∙ take-suc-set (set ends (2 * k) p) (2 * k + 1) q (rw (length-set ends (2 * k) p) (omega arith))
          ∙ ap (λ f. f ++ (q ∷ [])) (ap (λ i. take i (set ends (2 * k) p)) (add-one (2 * k)) ∙ take-suc-set ends (2 * k) p (omega arith))
          ∙ ap (λ f. (f ++ (p ∷ [])) ++ (q ∷ [])) (ap (λ i. take (2 * i) ends) m ∙ l.front (omega arith))
          ∙ append_assoc (two_each es) (p ∷ []) (q ∷ [])
          ∙ sym (flat_append (λ (e : Half). e.0 ∷ e.1 ∷ []) es ((p, q) ∷ []));
      at = λ e m. go e (Memᴰ.append_cases es m);
    }
  where
    go : (e : Half) → Memᴰ e es ⊎ Memᴰ e ((p, q) ∷ []) → get_or (set numbers (place (p, q)) k) (place e) 0 ≡ edge_number e (es ++ ((p, q) ∷ []))
    go e (inl m) =
        let a = all_at (Earlier p q) m early in
        get_or-set_other numbers (place (p, q)) (place e) k 0 (place_apart (p, q) e hq a.low (same_not e (p, q) a.apart))
        ∙ l.at e m ∙ ap length (sym (before_in e (p, q) es m))
    go e (inr m) =
        let r : e ≡ (p, q) = Memᴰ.eq_of_singleton m in
        subst (λ (d : Half). get_or (set numbers (place (p, q)) k) (place d) 0 ≡ edge_number d (es ++ ((p, q) ∷ []))) (sym r)
        (get_or-set_same numbers (place (p, q)) k 0 (let s = l.size in omega arith) ∙ l.many
        ∙ ap length (sym (before_new (p, q) es (all_mono (Earlier p q) (λ d. d ≢ (p, q)) es (λ d a. a.apart) early))))

-- ---- rows, and all of them
pub edges_row : (corners : List ℕ) (n p : ℕ) → edges_seen corners n p n ≡ edges_seen corners n (p + 1) 0
unfolding edges_seen
edges_row corners n p = ap (keep (is_edge (half_edges (solid [] corners)))) (seen_row n p)

pub edges_all : (corners : List ℕ) (n : ℕ) → edges_seen corners n n 0 ≡ edges_of corners n
unfolding edges_seen edges_of
edges_all corners n = ap (keep (is_edge (half_edges (solid [] corners)))) (seen_all n)

pub edges_none : (corners : List ℕ) (n : ℕ) → edges_seen corners n 0 0 ≡ []
unfolding edges_seen seen up_to keep flat_map
edges_none corners n = refl

-- the solid's own
pub edges_own : (s : Solid) → edges s ≡ edges_of s.corners (vertices s)
unfolding edges edges_of half_edges
edges_own s = refl

pub listed_own : (s : Solid) {ends numbers : List ℕ} {k : ℕ} → Listed (edges_of s.corners (vertices s)) ends numbers k → Listed (edges s) ends numbers k
listed_own s {ends} {numbers} {k} l = subst (λ es. Listed es ends numbers k) (sym (edges_own s)) l
