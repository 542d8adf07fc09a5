-- The walk over a file's records: its layout is that of the records walked over, with the layout of what is left behind them.
use mathlib.Core.Path.{◌≡◌, refl, sym, ap, ◌∙◌, subst}
use mathlib.Core.Bool.{Bool, true, false, cond}
use mathlib.Core.List.{List, [], ◌∷◌, ◌++◌, append-nil}
use Prim.Native.Nat.{ℕ, ◌+◌, ◌*◌, ◌≤◌}
use native.Mathlib.Nat.{add-zero}
use native.Mathlib.Omega.{arith}
use lib.ListN.{length, take, drop, length-append, length-drop}
use lib.Seq.{sets, sets-eq, take_at, drop-drop, length-sets}
use lib.Dec.{ltb}
use lib.Ieee.{Float}
use borrow.Author.Tests.{lt-ltb}
use Rattle.std.specs.Prelude.{Option, Some, None}
use Rattle.housefile.specs.declared.Record.{Record}
use Rattle.housefile.specs.declared.Record.TheVariants.{Vx, Fc, En}
use Rattle.housefile.specs.Records.{size, decoded}
use Rattle.housefile.specs.Reader.{Layout, fault, laid, after, layout}
use Rattle.housefile.proofs.Records.{size_within}
use Rattle.housefile.proofs.Steps.{layout_from, at_end, at_fault, late_vertex, at_vertex, at_facet, after_none, after_after}
use Rattle.housefile_reader.specs.declared.Walk.{Walk}
use Rattle.housefile_reader.specs.Words.{vertex_more, stepped, points_of, corners_of, kept, Held, Found}
use Rattle.housefile_reader.proofs.Kept.{kept_nothing}

-- ---- what is left

-- the layout of what the walk has not reached
abbrev pub left : Walk → List ℕ → Layout
left w bs = layout_from (ltb 0 w.facets) (drop w.used bs)

-- nothing belongs to a file behind its end
abbrev pub behind : Record → Layout → Layout
behind (Vx v) l = l
behind (Fc p q r) l = l
behind En l = laid 0 [] []

goes_on : (r : Record) (l : Layout) → (r ≡ En → ⊥) → behind r l ≡ l
goes_on (Vx v) l n = refl
goes_on (Fc p q r) l n = refl
goes_on En l n = absurd (n refl)

module _ (bs : List ℕ) (w : Walk) where
  abbrev rest : List ℕ
  rest = drop w.used bs

  -- the walk v is one record further
  record Further (r : Record) (v : Walk) : Type 0 where
    all_used : v.used ≡ w.used + size r
    points_more : 3 * w.vertices + length (points_of r) ≡ 3 * v.vertices
    corners_more : 3 * w.facets + length (corners_of r) ≡ 3 * v.facets
    left_next : left w bs ≡ after (size r) (points_of r) (corners_of r) (behind r (left v bs))

  abbrev Next : Record → Option Walk → Type 0
  Next r None = left w bs ≡ fault
  Next r (Some v) = Further r v

  next : (r : Record) → decoded rest ≡ Some r → Next r (stepped r w)
  unfolding stepped
  next (Vx v) e = by_late (ltb 0 w.facets) refl
    where
      by_late : (b : Bool) → ltb 0 w.facets ≡ b → Next (Vx v) (cond b None (Some (vertex_more w)))
      by_late true l = rw l (late_vertex rest v e)
      by_late false l = record {
        all_used = refl;
        points_more = omega arith;
        corners_more = omega arith;
        left_next = rw l (at_vertex rest v e ∙ ap (λ l. after 26 (points_of (Vx v)) [] (layout_from false l)) (drop-drop 26 w.used bs));
      }
  next (Fc p q r) e = record {
    all_used = refl;
    points_more = omega arith;
    corners_more = omega arith;
    left_next =
        rw (lt-ltb 0 (w.facets + 1) (omega arith))
        (at_facet rest (ltb 0 w.facets) p q r e ∙ ap (λ l. after 14 [] (p ∷ q ∷ r ∷ []) (layout_from true l)) (drop-drop 14 w.used bs));
  }
  next En e = record { all_used = refl; points_more = omega arith; corners_more = omega arith; left_next = at_end rest (ltb 0 w.facets) e }

-- ---- what is kept
module _ {A : Type 0} (room i : ℕ) (xs l : List A) where
  held_same : Held (3 * room) xs l → Held (3 * room) (xs ++ []) (kept room i [] l)
  held_same h = rw (append-nil xs, ← kept_nothing room i l) h

  held_three : (a b c : A) → Held (3 * room) xs l → length xs ≡ 3 * i → length l ≡ 3 * room
      → Held (3 * room) (xs ++ (a ∷ b ∷ c ∷ [])) (kept room i (a ∷ b ∷ c ∷ []) l)
  unfolding kept
  held_three a b c h e n k =
      let new : List A = a ∷ b ∷ c ∷ [] in
      let long : length (xs ++ new) ≡ length xs + 3 = length-append xs new in
      let front : take (3 * i) l ≡ xs = subst (λ j. take j l ≡ xs) e (h (omega arith)) in
      rw (lt-ltb i room (omega arith), sets-eq new l (3 * i) (omega arith), front) (take_at (xs ++ new) (drop (3 * i + 3) l) (length (xs ++ new)) refl)

  length_kept : (new : List A) → length (kept room i new l) ≡ length l
  unfolding kept
  length_kept new = by_room (ltb i room)
    where
      by_room : (b : Bool) → length (cond b (sets l (3 * i) new) l) ≡ length l
      by_room true = length-sets l (3 * i) new
      by_room false = refl

-- ---- the walk so far, with the layout l of what is left

pub record Walked (bs : List ℕ) (w : Walk) (l : Layout) (ps : List Float) (cs : List ℕ) : Type 0 where
  pub xs : List Float
  pub ds : List ℕ
  pub so_far : layout bs ≡ after w.used xs ds l
  pub points_long : length xs ≡ 3 * w.vertices
  pub corners_long : length ds ≡ 3 * w.facets
  pub points_room : length ps ≡ 384
  pub corners_room : length cs ≡ 768
  pub points_held : Held 384 xs ps
  pub corners_held : Held 768 ds cs
  pub within : w.used ≤ length bs
  pub few_vertices : w.vertices ≤ w.used
  pub few_facets : w.facets ≤ w.used

abbrev pub start : Walk
start = record { used = 0; vertices = 0; facets = 0 }

pub walk_starts : (bs : List ℕ) (ps : List Float) (cs : List ℕ) → length ps ≡ 384 → length cs ≡ 768 → Walked bs start (left start bs) ps cs
unfolding layout
walk_starts bs ps cs p c = record {
  xs = [];
  ds = [];
  so_far = sym (after_none (layout bs));
  points_long = refl;
  corners_long = refl;
  points_room = p;
  corners_room = c;
  points_held = λ h. refl;
  corners_held = λ h. refl;
  within = omega arith;
  few_vertices = omega arith;
  few_facets = omega arith;
}

-- at the end the walk has found the file
pub walk_ends : (bs : List ℕ) (w : Walk) (ps : List Float) (cs : List ℕ) → Walked bs w (laid 0 [] []) ps cs → Found (layout bs) w ps cs
walk_ends bs w ps cs h = record {
  xs = h.xs;
  ds = h.ds;
  as_laid = h.so_far ∙ (λ i. laid (add-zero w.used i) (append-nil h.xs i) (append-nil h.ds i));
  points_long = h.points_long;
  corners_long = h.corners_long;
  points_held = h.points_held;
  corners_held = h.corners_held;
}

module _ (bs : List ℕ) (w : Walk) (ps : List Float) (cs : List ℕ) (h : Walked bs w (left w bs) ps cs) where
  -- no record is there
  pub no_record : decoded (drop w.used bs) ≡ None → layout bs ≡ fault
  no_record e = h.so_far ∙ ap (after w.used h.xs h.ds) (at_fault (drop w.used bs) (ltb 0 w.facets) e)

  module _ (r : Record) (e : decoded (drop w.used bs) ≡ Some r) where
    abbrev next_points : List Float
    next_points = kept 128 w.vertices (points_of r) ps

    abbrev next_corners : List ℕ
    next_corners = kept 256 w.facets (corners_of r) cs

    -- the record is there, so the bytes walked over are no more than there are
    pub reaches : w.used + size r ≤ length bs
    reaches = let k : size r ≤ length (drop w.used bs) = size_within (drop w.used bs) r e in omega (arith, length-drop w.used bs, h.within)

    -- there is no walk past it
    pub no_further : stepped r w ≡ None → layout bs ≡ fault
    no_further none = h.so_far ∙ ap (after w.used h.xs h.ds) (subst (Next bs w r) none (next bs w r e))

    points_next : (r : Record) → Held 384 (h.xs ++ points_of r) (kept 128 w.vertices (points_of r) ps)
    points_next (Vx v) = held_three 128 w.vertices h.xs ps v.x v.y v.z h.points_held h.points_long h.points_room
    points_next (Fc p q r) = held_same 128 w.vertices h.xs ps h.points_held
    points_next En = held_same 128 w.vertices h.xs ps h.points_held

    corners_next : (r : Record) → Held 768 (h.ds ++ corners_of r) (kept 256 w.facets (corners_of r) cs)
    corners_next (Vx v) = held_same 256 w.facets h.ds cs h.corners_held
    corners_next (Fc p q r) = held_three 256 w.facets h.ds cs p q r h.corners_held h.corners_long h.corners_room
    corners_next En = held_same 256 w.facets h.ds cs h.corners_held

    few_more : (r : Record) → (length (points_of r) ≤ size r) × (length (corners_of r) ≤ size r)
    few_more (Vx v) = (omega arith, omega arith)
    few_more (Fc p q r) = (omega arith, omega arith)
    few_more En = (omega arith, omega arith)

    pub size_not_0 : (r : Record) → 2 ≤ size r
    size_not_0 (Vx v) = omega arith
    size_not_0 (Fc p q r) = omega arith
    size_not_0 En = omega arith

    pub walk_goes_on : (v : Walk) → stepped r w ≡ Some v → Walked bs v (behind r (left v bs)) next_points next_corners
    walk_goes_on v some =
        let f : Further bs w r v = subst (Next bs w r) some (next bs w r e) in
        let u = f.all_used in
        let p = f.points_more in
        let c = f.corners_more in
        let few = few_more r in
        let fp : length (points_of r) ≤ size r = few.0 in
        let fc : length (corners_of r) ≤ size r = few.1 in
        let fv = h.few_vertices in
        let ff = h.few_facets in
        record {
          xs = h.xs ++ points_of r;
          ds = h.ds ++ corners_of r;
          so_far =
              h.so_far ∙ ap (after w.used h.xs h.ds) f.left_next
              ∙ after_after w.used (size r) h.xs (points_of r) h.ds (corners_of r) (behind r (left v bs))
              ∙ ap (λ n. after n (h.xs ++ points_of r) (h.ds ++ corners_of r) (behind r (left v bs))) (sym u);
          points_long = length-append h.xs (points_of r) ∙ omega (arith, h.points_long);
          corners_long = length-append h.ds (corners_of r) ∙ omega (arith, h.corners_long);
          points_room = length_kept 128 w.vertices h.xs ps (points_of r) ∙ h.points_room;
          corners_room = length_kept 256 w.facets h.ds cs (corners_of r) ∙ h.corners_room;
          points_held = points_next r;
          corners_held = corners_next r;
          within = rw u reaches;
          few_vertices = omega arith;
          few_facets = omega arith;
        }

    -- at the end it has found the file
    pub walk_done : (v : Walk) → stepped r w ≡ Some v → r ≡ En → Found (layout bs) v next_points next_corners
    walk_done v some end = walk_ends bs v next_points next_corners (subst (λ r. Walked bs v (behind r (left v bs)) next_points next_corners) end (walk_goes_on v some))

    pub walk_stays : (v : Walk) → stepped r w ≡ Some v → (r ≡ En → ⊥) → Walked bs v (left v bs) next_points next_corners
    walk_stays v some more = subst (λ l. Walked bs v l next_points next_corners) (goes_on r (left v bs) more) (walk_goes_on v some)

    -- what is left grows less
    pub walk_less : (v : Walk) → stepped r w ≡ Some v → w.used + 2 ≤ v.used
    walk_less v some =
        let f : Further bs w r v = subst (Next bs w r) some (next bs w r e) in
        let u = f.all_used in
        let n : 2 ≤ size r = size_not_0 r in
        omega arith
