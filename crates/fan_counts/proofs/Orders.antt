-- A facet has as many triangles, whoever is joined to whom: for any order of the starts and of the stops of each composite edge round it.
use mathlib.Core.Path.{◌≡◌, sym, ap₂, ◌∙◌}
use mathlib.Core.Logic.{◌⊎◌, inl, inr}
use mathlib.Core.Bool.{Bool, true, false, cond}
use mathlib.Core.List.{List, ◌++◌, map, flat_map}
use Prim.Native.Nat.{ℕ, ◌+◌, ◌<◌}
use lib.IntN.{ℤ}
use lib.ListN.{length}
use Rattle.list_words.specs.Lists.{up_to, turned}
use Rattle.list_words.proofs.Sums.{All, all_of, all-++, all_map_of, flat_append, flat_map_map}
use Rattle.list_words.proofs.UpTo.{all_up_to}
use Rattle.solids.specs.Solids.{Solid, Half, facets, facet_half_edges, along, edge_of}
use Rattle.solids.proofs.Admitted.{Passed}
use Rattle.solids.proofs.Shut.{facet_edges}
use Rattle.results.specs.declared.End.{End}
use Rattle.results.specs.Inclusion.{Key}
use Rattle.results.specs.Pieces.{ends_of_eA, ends_of_fAfB, ends_of_eB, gathered, pieces, as_half}
use Rattle.results.specs.Triangles.{fan, boundary_A, boundary_B, pieces_of_eA, pieces_of_fAfB, pieces_of_eB}
use Rattle.results.proofs.Adding.{Adds}
use Rattle.results.proofs.Corners.{num}
use Rattle.fan_counts.specs.Words.{Composite, Joined, ends_at, piece_count, summed, least_of, all_ends}
use Rattle.fan_counts.proofs.Counts.{boundary_count, pieces_joined, same_count}
use Rattle.fan_counts.proofs.Results.{composite_eA, composite_eB, composite_fAfB}

module _ (inc : Key → ℤ) (a b : Solid) where
  -- ---- the composite edges round a facet of A, and round one of B: half-edges, and facets of the other solid
  abbrev pub ends_A : ℕ → Half ⊎ ℕ → List End
  ends_A f (inl h) = gathered (num inc a b) (ends_of_eA inc b (edge_of h))
  ends_A f (inr g) = gathered (num inc a b) (ends_of_fAfB inc a b f g)

  abbrev pub parts_A : ℕ → List (Half ⊎ ℕ)
  parts_A f = map inl (facet_half_edges a f) ++ map inr (up_to (facets b))

  abbrev pub ends_B : ℕ → Half ⊎ ℕ → List End
  ends_B g (inl h) = gathered (num inc a b) (ends_of_eB inc a (edge_of h))
  ends_B g (inr f) = gathered (num inc a b) (ends_of_fAfB inc a b f g)

  abbrev pub parts_B : ℕ → List (Half ⊎ ℕ)
  parts_B g = map inr (up_to (facets a)) ++ map inl (facet_half_edges b g)

  -- as document 01 joins them
  abbrev listed_A : ℕ → Half ⊎ ℕ → List Half
  listed_A f (inl h) = as_half h (pieces_of_eA inc (num inc a b) a b (edge_of h))
  listed_A f (inr g) = pieces_of_fAfB inc (num inc a b) a b f g

  abbrev listed_B : ℕ → Half ⊎ ℕ → List Half
  listed_B g (inl h) = as_half h (pieces_of_eB inc (num inc a b) a b (edge_of h))
  listed_B g (inr f) = map turned (pieces_of_fAfB inc (num inc a b) a b f g)

  flat_A : (f : ℕ) → boundary_A inc (num inc a b) a b f ≡ flat_map (listed_A f) (parts_A f)
  unfolding boundary_A
  flat_A f =
      sym (flat_append (listed_A f) (map inl (facet_half_edges a f)) (map inr (up_to (facets b)))
      ∙ ap₂ ◌++◌ (flat_map_map (listed_A f) inl (facet_half_edges a f)) (flat_map_map (listed_A f) inr (up_to (facets b))))

  flat_B : (g : ℕ) → boundary_B inc (num inc a b) a b g ≡ flat_map (listed_B g) (parts_B g)
  unfolding boundary_B
  flat_B g =
      sym (flat_append (listed_B g) (map inr (up_to (facets a))) (map inl (facet_half_edges b g))
      ∙ ap₂ ◌++◌ (flat_map_map (listed_B g) inr (up_to (facets a))) (flat_map_map (listed_B g) inl (facet_half_edges b g)))

  half_joined : (t : Bool) (es : List End) → Joined es (cond t (pieces es) (map turned (pieces es)))
  half_joined true es = pieces_joined false es
  half_joined false es = pieces_joined true es

  listed_joined_A : (f : ℕ) → All (λ x. Joined (ends_A f x) (listed_A f x)) (parts_A f)
  listed_joined_A f =
      all-++ (λ x. Joined (ends_A f x) (listed_A f x)) (map inl (facet_half_edges a f)) (map inr (up_to (facets b)))
      (all_map_of (λ x. Joined (ends_A f x) (listed_A f x)) inl (facet_half_edges a f) (all_of _ (facet_half_edges a f) (λ h m. half_joined (along h) (ends_A f (inl h)))))
      (all_map_of (λ x. Joined (ends_A f x) (listed_A f x)) inr (up_to (facets b)) (all_of _ (up_to (facets b)) (λ g m. pieces_joined false (ends_A f (inr g)))))

  listed_joined_B : (g : ℕ) → All (λ x. Joined (ends_B g x) (listed_B g x)) (parts_B g)
  listed_joined_B g =
      all-++ (λ x. Joined (ends_B g x) (listed_B g x)) (map inr (up_to (facets a))) (map inl (facet_half_edges b g))
      (all_map_of (λ x. Joined (ends_B g x) (listed_B g x)) inr (up_to (facets a)) (all_of _ (up_to (facets a)) (λ f m. pieces_joined true (ends_B g (inr f)))))
      (all_map_of (λ x. Joined (ends_B g x) (listed_B g x)) inl (facet_half_edges b g) (all_of _ (facet_half_edges b g) (λ h m. half_joined (along h) (ends_B g (inl h)))))

  module _ (adds : Adds inc a b) (passed_a : Passed a) (passed_b : Passed b) where
    all_composite_A : (f : ℕ) → f < facets a → All (λ x. Composite (ends_A f x)) (parts_A f)
    all_composite_A f i =
        all-++ (λ x. Composite (ends_A f x)) (map inl (facet_half_edges a f)) (map inr (up_to (facets b)))
        (all_map_of (λ x. Composite (ends_A f x)) inl (facet_half_edges a f) (all_of _ (facet_half_edges a f) (λ h m. composite_eA inc a b adds passed_a passed_b (edge_of h) (facet_edges a passed_a f i m))))
        (all_map_of (λ x. Composite (ends_A f x)) inr (up_to (facets b)) (all_up_to (λ g. Composite (ends_A f (inr g))) (facets b) (λ g j. composite_fAfB inc a b adds passed_a passed_b f g i j)))

    all_composite_B : (g : ℕ) → g < facets b → All (λ x. Composite (ends_B g x)) (parts_B g)
    all_composite_B g j =
        all-++ (λ x. Composite (ends_B g x)) (map inr (up_to (facets a))) (map inl (facet_half_edges b g))
        (all_map_of (λ x. Composite (ends_B g x)) inr (up_to (facets a)) (all_up_to (λ f. Composite (ends_B g (inr f))) (facets a) (λ f i. composite_fAfB inc a b adds passed_a passed_b f g i j)))
        (all_map_of (λ x. Composite (ends_B g x)) inl (facet_half_edges b g) (all_of _ (facet_half_edges b g) (λ h m. composite_eB inc a b adds passed_a passed_b (edge_of h) (facet_edges b passed_b g j m))))

    -- HOW MANY TRIANGLES a facet has: its composite edges' pieces, less the ends at the least vertex
    pub count_A : (f o : ℕ) → f < facets a
        → length (fan o (boundary_A inc (num inc a b) a b f)) + summed (λ x. ends_at (least_of (flat_map (λ x. all_ends (ends_A f x)) (parts_A f))) (ends_A f x)) (parts_A f)
        ≡ summed (λ x. piece_count (ends_A f x)) (parts_A f)
    count_A f o i = rw (flat_A f) (boundary_count (parts_A f) (ends_A f) (all_composite_A f i) (listed_A f) (listed_joined_A f) o)

    pub count_B : (g o : ℕ) → g < facets b
        → length (fan o (boundary_B inc (num inc a b) a b g)) + summed (λ x. ends_at (least_of (flat_map (λ x. all_ends (ends_B g x)) (parts_B g))) (ends_B g x)) (parts_B g)
        ≡ summed (λ x. piece_count (ends_B g x)) (parts_B g)
    count_B g o j = rw (flat_B g) (boundary_count (parts_B g) (ends_B g) (all_composite_B g j) (listed_B g) (listed_joined_B g) o)

    -- AS MANY, WHOEVER IS JOINED TO WHOM
    pub any_order_A : (f o : ℕ) → f < facets a → (p : Half ⊎ ℕ → List Half) → All (λ x. Joined (ends_A f x) (p x)) (parts_A f)
        → length (fan o (flat_map p (parts_A f))) ≡ length (fan o (boundary_A inc (num inc a b) a b f))
    any_order_A f o i p j = rw (flat_A f) (same_count (parts_A f) (ends_A f) (all_composite_A f i) p (listed_A f) j (listed_joined_A f) o)

    pub any_order_B : (g o : ℕ) → g < facets b → (p : Half ⊎ ℕ → List Half) → All (λ x. Joined (ends_B g x) (p x)) (parts_B g)
        → length (fan o (flat_map p (parts_B g))) ≡ length (fan o (boundary_B inc (num inc a b) a b g))
    any_order_B g o i p j = rw (flat_B g) (same_count (parts_B g) (ends_B g) (all_composite_B g i) p (listed_B g) j (listed_joined_B g) o)
