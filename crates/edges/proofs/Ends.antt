-- An edge's ends, read from the list of ends.
use mathlib.Core.Path.{◌≡◌, refl, sym, ap, ◌∙◌}
use mathlib.Core.List.{List, [], ◌∷◌}
use Prim.Native.Nat.{ℕ, ◌+◌, ◌*◌, ◌<◌}
use native.Mathlib.Omega.{arith}
use lib.ListN.{length, get_or}
use lib.Seq.{get_or-take}
use lib.Ieee.{Float}
use Rattle.solids.specs.Solids.{Solid, Half, solid, vertices, edges}
use Rattle.solids.proofs.Shut.{IsEdge, all_edges}
use Rattle.edges.specs.Words.{edge_numbered, Ready}
use Rattle.list_words.proofs.Places.{all_get_d, get_or_blocks}

module _ {points : List Float} {corners ends : List ℕ} (r : Ready points corners ends) (e : ℕ) where
  abbrev own : Solid
  own = solid points corners

  abbrev two : Half → List ℕ
  two h = h.0 ∷ h.1 ∷ []

  pub is_edge_numbered : e < length (edges own) → IsEdge own (edge_numbered own e)
  is_edge_numbered h = all_get_d (IsEdge own) (edges own) e (0, 0) (all_edges own) h

  -- end j of edge e
  end_there : (j : ℕ) → e < length (edges own) → j < 2 → get_or ends (2 * e + j) 0 ≡ get_or (two (edge_numbered own e)) j 0
  end_there j h k =
      let at : 2 * e + j ≡ e * 2 + j = omega arith in
      sym (get_or-take (2 * length (edges own)) ends (2 * e + j) 0 (omega arith))
      ∙ ap (λ l. get_or l (2 * e + j) 0) r.front
      ∙ rw at (get_or_blocks two 2 (λ x. refl) (edges own) e j 0 (0, 0) h k)

  pub start_there : e < length (edges own) → get_or ends (2 * e) 0 ≡ (edge_numbered own e).0
  start_there h = let at : 2 * e ≡ 2 * e + 0 = omega arith in rw at (end_there 0 h (omega arith))

  pub stop_there : e < length (edges own) → get_or ends (2 * e + 1) 0 ≡ (edge_numbered own e).1
  stop_there h = end_there 1 h (omega arith)

  pub start_below : e < length (edges own) → get_or ends (2 * e) 0 < vertices own
  start_below h = let i = is_edge_numbered h in omega (arith, start_there h, i.rises, i.below)

  pub stop_below : e < length (edges own) → get_or ends (2 * e + 1) 0 < vertices own
  stop_below h = let i = is_edge_numbered h in omega (arith, stop_there h, i.below)
