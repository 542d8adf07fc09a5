-- Words of contracts; no public statement needs them. Numbers of slots, and fans in lists.
use Rattle.std.specs.Prelude.{◌≡◌, not, ℕ, ◌+◌, ◌<◌, ◌≤◌, ◌*◌, ℤ, pos, length, take, get_or}
use mathlib.Core.List.{List, map, flat_map}
use Rattle.std.proofs.lemmas.List.Edits.{sets}
use Rattle.list_words.specs.Lists.{up_to, keep, nonzero}
use Rattle.solids.specs.Solids.{Half}
use Rattle.results.specs.Triangles.{Triangle, at_end, corners_of}

-- ---- the number of a slot: how many slots before it are not 0

unfoldable pub rank : List ℤ → ℕ → ℕ
rank inc i = length (keep nonzero (take i inc))

unfoldable pub ranks : List ℤ → List ℕ
ranks inc = map (rank inc) (up_to (length inc))

-- ---- some slots of a table in a short list, with their numbers

-- `many` inclusions from place `from` on are those of a table from `slot` on
pub record Follows (t inc : List ℤ) (slot from many : ℕ) : Type 0 where
  pub room : slot + many ≤ length t
  pub each : (i : ℕ) → i < many → get_or inc (from + i) (pos 0) ≡ get_or t (slot + i) (pos 0)

-- and their numbers are how many kept ones stand before each; k is the next
pub record Ranked (t : List ℤ) (num : List ℕ) (slot from many k : ℕ) : Type 0 where
  pub next : k ≡ rank t (slot + many)
  pub each : (i : ℕ) → i < many → get_or num (from + i) 0 ≡ rank t (slot + i)

-- ---- triangles stored one behind the other

-- the fan from a, whatever a is
unfoldable pub fan_at : ℕ → ℕ → List Half → List Triangle
fan_at origin a hs = map (λ (h : Half). record { a = a; p = h.0; q = h.1; origin = origin }) (keep (λ h. not (at_end a h)) hs)

abbrev pub origins_of : List Triangle → List ℕ
origins_of ts = map (λ (t : Triangle). t.origin) ts

-- the triangles ts are stored from the k₀-th on, as far as there is room (`sets` does nothing beyond a list's end); k is the next one's number
pub record Laid (ts : List Triangle) (cs₀ os₀ : List ℕ) (k₀ : ℕ) (cs os : List ℕ) (k : ℕ) : Type 0 where
  pub corners : cs ≡ sets cs₀ (3 * k₀) (flat_map corners_of ts)
  pub origins : os ≡ sets os₀ k₀ (origins_of ts)
  pub count : k ≡ k₀ + length ts
