-- A solid whose corner list is laid out from a list of triangles: its facets are the triangles, and so are its half-edges.
use mathlib.Core.Path.{◌≡◌, sym, ap, ◌∙◌, subst}
use mathlib.Core.List.{List, [], ◌∷◌, flat_map}
use Prim.Native.Nat.{ℕ, ◌+◌, ◌*◌, ◌/◌, ◌%◌, ◌<◌}
use native.Mathlib.Omega.{arith}
use lib.ListN.{length, get_or}
use Rattle.list_words.specs.Lists.{up_to}
use Rattle.list_words.proofs.Sums.{All, all_at}
use Rattle.list_words.proofs.UpTo.{all_up_to, mem_up_to}
use Rattle.list_words.proofs.Threes.{third_threes, rest_threes, flat_threes, all_threes, threes_all}
use Rattle.solids.specs.Solids.{Solid, facets, corner, half_edges_of, half_edges}

module _ {B : Type 0} (f g h : B → ℕ) (ts : List B) (s : Solid) (laid : s.corners ≡ flat_map (λ t. f t ∷ g t ∷ h t ∷ []) ts) where
  first : (i : ℕ) → 3 * i + 0 ≡ 3 * i
  first i = omega arith

  pub laid_whole : length s.corners % 3 ≡ 0
  laid_whole = ap (λ c. length c % 3) laid ∙ rest_threes f g h ts

  pub laid_facets : facets s ≡ length ts
  laid_facets = ap (λ c. length c / 3) laid ∙ third_threes f g h ts

  pub laid_half_edges : half_edges s ≡ flat_map (λ t. half_edges_of (f t) (g t) (h t)) ts
  unfolding half_edges
  laid_half_edges =
      ap (λ c. flat_map (λ i. half_edges_of (get_or c (3 * i + 0) 0) (get_or c (3 * i + 1) 0) (get_or c (3 * i + 2) 0)) (up_to (length c / 3))) laid
      ∙ flat_threes f g h ts 0 (λ i. 3 * i + 0) first half_edges_of

  -- what holds of the triangles' corners holds of the facets', and the other way round
  module _ (P : ℕ → ℕ → ℕ → Type 0) where
    abbrev Each : List ℕ → Type 0
    Each c = All (λ i. P (get_or c (3 * i + 0) 0) (get_or c (3 * i + 1) 0) (get_or c (3 * i + 2) 0)) (up_to (length c / 3))

    pub laid_each : All (λ t. P (f t) (g t) (h t)) ts → (i : ℕ) → i < facets s → P (corner s i 0) (corner s i 1) (corner s i 2)
    laid_each a i l =
        all_at (λ i. P (corner s i 0) (corner s i 1) (corner s i 2)) (mem_up_to (facets s) i l)
        (subst Each (sym laid) (all_threes f g h ts 0 (λ i. 3 * i + 0) first P a))

    pub each_laid : ((i : ℕ) → i < facets s → P (corner s i 0) (corner s i 1) (corner s i 2)) → All (λ t. P (f t) (g t) (h t)) ts
    each_laid a = threes_all f g h ts 0 (λ i. 3 * i + 0) first P (subst Each laid (all_up_to (λ i. P (corner s i 0) (corner s i 1) (corner s i 2)) (facets s) a))
