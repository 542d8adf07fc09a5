-- Half-edges stored one behind the other, three numbers each; for a passed solid whose edges' numbers stand in the table they are its list of
-- half-edges, and for two solids in turn the list of both.
use mathlib.Core.Path.{◌≡◌, refl, sym, ap, ◌∙◌}
use mathlib.Core.Bool.{not}
use mathlib.Core.List.{List, [], ◌∷◌, ◌++◌, flat_map, Memᴰ}
use Prim.Native.Nat.{ℕ, ◌+◌, ◌*◌, ◌≤◌}
use native.Mathlib.Omega.{arith}
use lib.ListN.{length, get_or, take, drop}
use lib.Seq.{sets, sets-eq, take_at}
use Rattle.list_words.specs.Lists.{up_to, one_if, onto}
use Rattle.list_words.proofs.Sums.{all_of, all_at, flat_ext_all, flat_append}
use Rattle.list_words.proofs.Threes as Th
use Rattle.list_stores.proofs.Stores.{sets_append, sets_onto, sets_three}
use Rattle.solids.specs.Solids.{Solid, Half, solid, vertices, facets, facet_half_edges, half_edges, edges, along, edge_of}
use Rattle.solids.specs.Words.{place, counted, Low}
use Rattle.solids.proofs.Tally.{counted_next, counted_length}
use Rattle.solids.proofs.Closure as Cl
use Rattle.solids.proofs.Admitted.{Passed, Between}
use Rattle.solids.proofs.Shut.{mem_edges, between}
use Rattle.edges.specs.Words.{Listed, edges_of}
use Rattle.edges.proofs.Edges.{listed_own}
use Rattle.layouts.specs.Words.{edge_number, half_numbers, half_list, halves}
use Rattle.layouts.proofs.Lengths.{length_half_list, length_halves}
use Rattle.half_edges.specs.Words.{three, threes}

-- ---- one behind the other
module _ (numbers : List ℕ) where
  pub put_three : (l : List ℕ) (at : ℕ) (h i j : Half) {l₁ l₂ l₃ : List ℕ}
      → l₁ ≡ sets l at (three numbers h) → l₂ ≡ sets l₁ (at + 3) (three numbers i) → l₃ ≡ sets l₂ (at + 6) (three numbers j)
      → l₃ ≡ sets l at (threes numbers (h ∷ i ∷ j ∷ []))
  unfolding threes flat_map
  put_three l at h i j e₁ e₂ e₃ =
      e₃ ∙ rw (e₂, e₁) (sets_three l at (at + 3) (at + 6) (three numbers h) (three numbers i) (three numbers j) refl (omega arith))

  length_counted : (corners : List ℕ) (f : ℕ) → length (threes numbers (counted corners f)) ≡ 9 * f
  unfolding threes
  length_counted corners f =
      omega (
        arith,
        Th.length_threes (λ h. 2 * get_or numbers (place (edge_of h)) 0 + one_if (not (along h))) (λ h. (edge_of h).0) (λ h. (edge_of h).1) (counted corners f),
        counted_length corners f,
      )

  threes_append : (hs ks : List Half) → threes numbers (hs ++ ks) ≡ threes numbers hs ++ threes numbers ks
  unfolding threes
  threes_append hs ks = flat_append (three numbers) hs ks

  pub put_next : (corners l : List ℕ) (at f : ℕ) {l₁ l₂ : List ℕ}
      → l₁ ≡ sets l at (threes numbers (counted corners f)) → l₂ ≡ sets l₁ (at + 9 * f) (threes numbers (facet_half_edges (solid [] corners) f))
      → l₂ ≡ sets l at (threes numbers (counted corners (f + 1)))
  put_next corners l at f e₁ e₂ =
      let new = facet_half_edges (solid [] corners) f in
      e₂ ∙ ap (λ k. sets k (at + 9 * f) (threes numbers new)) e₁
      ∙ ap (λ n. sets (sets l at (threes numbers (counted corners f))) (at + n) (threes numbers new)) (sym (length_counted corners f))
      ∙ sets_append l at (threes numbers (counted corners f)) (threes numbers new)
      ∙ sym (ap (λ hs. sets l at (threes numbers hs)) (counted_next corners f) ∙ ap (sets l at) (threes_append (counted corners f) new))

  pub put_none : (corners l : List ℕ) (at : ℕ) → l ≡ sets l at (threes numbers (counted corners 0))
  unfolding threes counted up_to flat_map
  put_none corners l at = refl

pub all_counted : (corners : List ℕ) (f : ℕ) → f ≡ facets (solid [] corners) → counted corners f ≡ half_edges (solid [] corners)
unfolding counted half_edges
all_counted corners f e = ap (counted corners) e

-- ---- a solid's own
-- at each edge's place stands its number
abbrev pub Numbered : Solid → List ℕ → Type 0
Numbered s numbers = (e : Half) → Memᴰ e (edges s) → get_or numbers (place e) 0 ≡ edge_number s e

module _ (s : Solid) where
  -- so it is where the edges have been listed
  pub numbered : {ends numbers : List ℕ} {k : ℕ} → Listed (edges_of s.corners (vertices s)) ends numbers k → Numbered s numbers
  numbered l = (listed_own s l).at

  pub passed_low : Passed s → Low s.corners
  passed_low p = Cl.low s p.corners_whole p.few_vertices p.proper

  pub own_halves : (numbers : List ℕ) → Passed s → Numbered s numbers → threes numbers (half_edges (solid [] s.corners)) ≡ half_list s
  unfolding threes half_list half_edges
  own_halves numbers p n =
      flat_ext_all (three numbers) (half_numbers s) (half_edges s)
      (all_of (λ h. three numbers h ≡ half_numbers s h) (half_edges s)
      (λ h m. ap (λ k. (2 * k + one_if (not (along h))) ∷ (edge_of h).0 ∷ (edge_of h).1 ∷ []) (n (edge_of h) (mem_edges s h (all_at (Between (vertices s)) m (between s p)) m))))

  module _ (l : List ℕ) (at : ℕ) {l₁ : List ℕ} where
    -- what `put_halves` leaves
    pub own_put : (numbers : List ℕ) → Passed s → Numbered s numbers → l₁ ≡ sets l at (threes numbers (half_edges (solid [] s.corners))) → l₁ ≡ sets l at (half_list s)
    own_put numbers p n e = e ∙ ap (sets l at) (own_halves numbers p n)

    -- part by part, where there is room
    pub own_parts : at + 9 * facets s ≤ length l → l₁ ≡ sets l at (half_list s) → l₁ ≡ take at l ++ half_list s ++ drop (at + 9 * facets s) l
    own_parts h e =
        e ∙ sets-eq (half_list s) l at (omega (arith, length_half_list s))
        ∙ ap (λ n. take at l ++ half_list s ++ drop (at + n) l) (length_half_list s)

-- ---- two solids in turn: the front holds the list of both, and everything behind is as before
module _ (a b : Solid) (l : List ℕ) {l₁ l₂ : List ℕ} (room : 9 * (facets a + facets b) ≤ length l) (first : l₁ ≡ sets l 0 (half_list a)) (second : l₂ ≡ sets l₁ (9 * facets a) (half_list b)) where
  pub both_halves : l₂ ≡ onto (halves a b) l
  unfolding halves
  both_halves =
      let e : 9 * facets a ≡ 0 + length (half_list a) = omega (arith, length_half_list a) in
      second ∙ rw (first, e) (sets_append l 0 (half_list a) (half_list b)) ∙ sets_onto l (halves a b) (omega (arith, length_halves a b))

  pub front_halves : take (9 * (facets a + facets b)) l₂ ≡ halves a b
  front_halves = rw both_halves (take_at (halves a b) _ (9 * (facets a + facets b)) (length_halves a b))
