-- The triangles of a result are closed: each boundary goes round, so a fan turns as its boundary does, and all boundaries together turn back.
use mathlib.Core.Path.{◌≡◌, ap₂, ◌∙◌}
use mathlib.Core.List.{List, flat_map}
use Prim.Native.Nat.{ℕ, ◌+◌}
use lib.Dec.{eqb}
use lib.IntN.{ℤ, ◌+ℤ◌}
use Rattle.list_words.specs.Lists.{up_to, sum_of}
use Rattle.list_words.proofs.Sums.{sum_append, sum_ext, sum_flat_map}
use Rattle.list_words.proofs.Closed.{Anti, Closed, closed_of_sums}
use Rattle.list_words.proofs.Signed.{Round}
use Rattle.solids.specs.Solids.{Solid, Half, facets}
use Rattle.results.specs.Inclusion.{Key}
use Rattle.results.specs.Triangles.{fan, boundary_A, boundary_B, triangles}
use Rattle.results.proofs.Adding.{Shut, Adds}
use Rattle.results.proofs.Fans.{triangle_half_edges, turn, fan_turns}
use Rattle.results.proofs.Balance.{turns_back, round_A, round_B}

module _ (G : Half → ℤ) (anti : Anti G) where
  fans_turn : (o : ℕ → ℕ) (boundary : ℕ → List Half) → ((f : ℕ) → Round (boundary f)) → (fs : List ℕ) → sum_of (turn G) (flat_map (λ f. fan (o f) (boundary f)) fs) ≡ sum_of (λ f. sum_of G (boundary f)) fs
  fans_turn o boundary round fs =
      sum_flat_map (turn G) (λ f. fan (o f) (boundary f)) fs ∙ sum_ext _ (λ f. sum_of G (boundary f)) fs (λ f. fan_turns G anti (o f) (boundary f) (round f))

pub triangles_closed : (inc : Key → ℤ) (num : Key → ℕ) (a b : Solid) → Adds inc a b → Shut a → Shut b → Closed eqb (flat_map triangle_half_edges (triangles inc num a b))
unfolding triangles
triangles_closed inc num a b adds shut_a shut_b =
    closed_of_sums eqb (flat_map triangle_half_edges (triangles inc num a b))
    (λ G anti. sum_flat_map G triangle_half_edges (triangles inc num a b)
    ∙ sum_append (λ t. sum_of G (triangle_half_edges t)) (flat_map (λ f. fan f (boundary_A inc num a b f)) (up_to (facets a))) (flat_map (λ g. fan (facets a + g) (boundary_B inc num a b g)) (up_to (facets b)))
    ∙ ap₂ ◌+ℤ◌
    (fans_turn G anti (λ f. f) (boundary_A inc num a b) (λ f φ. round_A inc num a b adds φ shut_b f) (up_to (facets a)))
    (fans_turn G anti (λ g. facets a + g) (boundary_B inc num a b) (λ g φ. round_B inc num a b adds φ shut_a g) (up_to (facets b)))
    ∙ turns_back inc num a b G anti shut_a shut_b)
