-- The pieces of two ends: none or one, if none or one of each side is there.
use mathlib.Core.Path.{◌≡◌, refl, ap, ◌∙◌}
use mathlib.Core.List.{[], ◌∷◌, flat_map, zip}
use Prim.Native.Nat.{ℕ}
use lib.IntN.{ℤ, pos, negsuc}
use Rattle.results.specs.declared.End.{End}
use Rattle.results.specs.Pieces.{starts, stops, pieces}

-- as counts are
abbrev end : ℕ → ℤ → End
end v n = record { vertex = v; count = n }

none : (v u : ℕ) (n : ℤ) → pieces (end v (pos 0) ∷ end u n ∷ []) ≡ []
unfolding pieces starts stops flat_map zip
none v u (pos n) = refl
none v u (negsuc n) = refl

pub no_piece : (a b : End) → a.count ≡ pos 0 → pieces (a ∷ b ∷ []) ≡ []
no_piece a b e = ap (λ n. pieces (end a.vertex n ∷ b ∷ [])) e ∙ none a.vertex b.vertex b.count

pub one_piece : (a b : End) → a.count ≡ negsuc 0 → b.count ≡ pos 1 → pieces (a ∷ b ∷ []) ≡ (a.vertex, b.vertex) ∷ []
unfolding pieces starts stops flat_map zip
one_piece a b e d = ap (λ n. pieces (end a.vertex n ∷ b ∷ [])) e ∙ ap (λ n. pieces (end a.vertex (negsuc 0) ∷ end b.vertex n ∷ [])) d

pub piece_back : (a b : End) → a.count ≡ pos 1 → b.count ≡ negsuc 0 → pieces (a ∷ b ∷ []) ≡ (b.vertex, a.vertex) ∷ []
unfolding pieces starts stops flat_map zip
piece_back a b e d = ap (λ n. pieces (end a.vertex n ∷ b ∷ [])) e ∙ ap (λ n. pieces (end a.vertex (pos 1) ∷ end b.vertex n ∷ [])) d
