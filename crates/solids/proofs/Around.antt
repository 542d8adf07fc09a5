-- Sums round the facets of a solid, by its half-edges: over all facets of a closed solid they are 0.
use mathlib.Core.Path.{◌≡◌, sym, ◌∙◌}
use Prim.Native.Nat.{ℕ}
use lib.Dec.{eqb, eqb→eq, eqb_refl}
use lib.IntN.{ℤ, pos}
use Rattle.list_words.specs.Lists.{up_to, sum_of}
use Rattle.list_words.proofs.Sums.{sum_flat_map}
use Rattle.list_words.proofs.Closed.{Closed, Simple, closed_sum}
use Rattle.list_words.proofs.Signed as Signed
use Rattle.list_words.proofs.Signed.{sgn, sgn_anti}
use Rattle.solids.proofs.Pairs.{flip}
use Rattle.solids.specs.Solids.{Solid, Half, facets, facet_half_edges, half_edges, along}

module _ (s : Solid) where
  -- a function of edges, summed round facet f with the signs of its half-edges
  abbrev pub around : (Half → ℤ) → ℕ → ℤ
  around x f = Signed.around along x (facet_half_edges s f)

  pub around_closed : Closed eqb (half_edges s) → Simple (half_edges s) → (x : Half → ℤ) → sum_of (around x) (up_to (facets s)) ≡ pos 0
  unfolding half_edges
  around_closed closed simple x =
      sym (sum_flat_map (sgn along x) (facet_half_edges s) (up_to (facets s)))
      ∙ closed_sum eqb eqb→eq eqb_refl (half_edges s) closed simple (sgn along x) (sgn_anti along flip x)
