-- Keys: the test of equality is right, and every vertex and every crossing of an edge and a facet is listed.
use mathlib.Core.Path.{◌≡◌, refl, sym, ap, ap₂, ◌∙◌}
use mathlib.Core.Bool.{true, false}
use mathlib.Core.List.Memᴰ
use mathlib.Core.List.{List, [], ◌∷◌, ◌++◌, map, flat_map, Memᴰ}
use Prim.Native.Nat.{ℕ, zero, suc, ◌<◌}
use lib.ListN.{get_or}
use lib.Dec.{T, eqb, eqb→eq, eqb_refl}
use Rattle.list_words.specs.Lists.{up_to, same}
use Rattle.list_words.proofs.Sums.{mem_flat_map}
use Rattle.list_words.proofs.Tests.{T_of, of_T, and_true, true_and}
use Rattle.list_words.proofs.UpTo.{mem_up_to}
use Rattle.solids.specs.Solids.{Solid, Half, vertices, facets, edges}
use Rattle.results.specs.Inclusion.{Key, vA, eAfB, fAeB, vB}
use Rattle.results.specs.Vertices.{keys, key_numbers, same_key}

-- ---- the test of equality
same_sound : (k l : List ℕ) → same k l ≡ true → k ≡ l
unfolding same
same_sound [] [] e = refl
same_sound [] (n ∷ l) e = absurd (T_of false e)
same_sound (m ∷ k) [] e = absurd (T_of false e)
same_sound (m ∷ k) (n ∷ l) e = let r = and_true (eqb m n) (same k l) e in ap₂ ◌∷◌ (eqb→eq m n (T_of (eqb m n) r.0)) (same_sound k l r.1)

same_self : (l : List ℕ) → same l l ≡ true
unfolding same
same_self [] = refl
same_self (n ∷ l) = true_and (eqb n n) (same l l) (of_T (eqb n n) (eqb_refl n)) (same_self l)

-- the key that has these numbers
with_first : ℕ → List ℕ → Key
with_first zero ns = vA (get_or ns 1 0)
with_first (suc zero) ns = eAfB (get_or ns 1 0, get_or ns 2 0) (get_or ns 3 0)
with_first (suc (suc zero)) ns = fAeB (get_or ns 1 0) (get_or ns 2 0, get_or ns 3 0)
with_first (suc (suc (suc n))) ns = vB (get_or ns 1 0)

with_numbers : List ℕ → Key
with_numbers ns = with_first (get_or ns 0 0) ns

back : (k : Key) → with_numbers (key_numbers k) ≡ k
unfolding with_first with_numbers
back (vA i) = refl
back (eAfB e f) = refl
back (fAeB f e) = refl
back (vB i) = refl

pub same_key_sound : (k l : Key) → T (same_key k l) → k ≡ l
unfolding same_key
same_key_sound k l t = sym (back k) ∙ ap with_numbers (same_sound (key_numbers k) (key_numbers l) (of_T (same (key_numbers k) (key_numbers l)) t)) ∙ back l

pub same_key_self : (k : Key) → T (same_key k k)
unfolding same_key
same_key_self k = T_of (same (key_numbers k) (key_numbers k)) (same_self (key_numbers k))

-- ---- what is listed
module _ (a b : Solid) where
  abbrev block_vA : List Key
  block_vA = map vA (up_to (vertices a))

  abbrev block_eAfB : List Key
  block_eAfB = flat_map (λ e. map (eAfB e) (up_to (facets b))) (edges a)

  abbrev block_fAeB : List Key
  block_fAeB = flat_map (λ f. map (fAeB f) (edges b)) (up_to (facets a))

  abbrev block_vB : List Key
  block_vB = map vB (up_to (vertices b))

  pub mem_vA : (i : ℕ) → i < vertices a → Memᴰ (vA i) (keys a b)
  unfolding keys
  mem_vA i h = Memᴰ.append_left (block_eAfB ++ (block_fAeB ++ block_vB)) (Memᴰ.map vA (mem_up_to (vertices a) i h))

  pub mem_eAfB : (e : Half) (f : ℕ) → Memᴰ e (edges a) → f < facets b → Memᴰ (eAfB e f) (keys a b)
  unfolding keys
  mem_eAfB e f m h =
      Memᴰ.append_right block_vA (Memᴰ.append_left (block_fAeB ++ block_vB)
      (mem_flat_map (λ e. map (eAfB e) (up_to (facets b))) m (Memᴰ.map (eAfB e) (mem_up_to (facets b) f h))))

  pub mem_fAeB : (f : ℕ) (e : Half) → f < facets a → Memᴰ e (edges b) → Memᴰ (fAeB f e) (keys a b)
  unfolding keys
  mem_fAeB f e h m =
      Memᴰ.append_right block_vA (Memᴰ.append_right block_eAfB (Memᴰ.append_left block_vB
      (mem_flat_map (λ f. map (fAeB f) (edges b)) (mem_up_to (facets a) f h) (Memᴰ.map (fAeB f) m))))

  pub mem_vB : (i : ℕ) → i < vertices b → Memᴰ (vB i) (keys a b)
  unfolding keys
  mem_vB i h = Memᴰ.append_right block_vA (Memᴰ.append_right block_eAfB (Memᴰ.append_right block_fAeB (Memᴰ.map vB (mem_up_to (vertices b) i h))))
