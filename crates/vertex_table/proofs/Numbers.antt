-- The number of a slot is the number of its key: nothing is listed twice, so what stands before a key's place is what is listed before the key.
use mathlib.Core.Path.{◌≡◌, sym, ap, ◌∙◌}
use mathlib.Core.List.{map}
use Prim.Native.Nat.{ℕ, ◌<◌}
use lib.IntN.{ℤ}
use lib.ListN.{length, get_or, take, length-map}
use lib.Seq.{take-length}
use Rattle.list_words.specs.Lists.{up_to, keep, nonzero}
use Rattle.list_words.proofs.UpTo.{map_up_to}
use Rattle.solids.specs.Solids.{Solid}
use Rattle.results.specs.declared.Operation.{Operation}
use Rattle.results.specs.Inclusion.{Key, inclusion}
use Rattle.results.specs.Vertices.{keys, kept, number, same_key}
use Rattle.results.proofs.Keys.{same_key_sound, same_key_self}
use Rattle.fans.specs.Words.{rank, ranks}
use Rattle.vertex_table.specs.Words.{inclusions, numbers}
use Rattle.list_words.proofs.Places.{by_places, before_take, take_map, kept_map}
use Rattle.vertex_table.proofs.Keys.{no_key, distinct_keys}

module _ (inc : Key → ℤ) (a b : Solid) where
  rank_number : (i : ℕ) → i < length (keys a b) → rank (map inc (keys a b)) i ≡ number inc (keys a b) (get_or (keys a b) i no_key)
  unfolding rank number kept
  rank_number i h =
      ap (λ l. length (keep nonzero l)) (take_map inc i (keys a b)) ∙ kept_map inc nonzero (take i (keys a b))
      ∙ ap (λ l. length (keep (λ k. nonzero (inc k)) l)) (sym (before_take same_key same_key_sound same_key_self (keys a b) i no_key (distinct_keys a b) h))

  ranks_number : ranks (map inc (keys a b)) ≡ map (number inc (keys a b)) (keys a b)
  unfolding ranks
  ranks_number =
      ap (λ n. map (rank (map inc (keys a b))) (up_to n)) (length-map (keys a b) inc)
      ∙ map_up_to (length (keys a b)) (rank (map inc (keys a b))) (λ i. number inc (keys a b) (get_or (keys a b) i no_key)) rank_number
      ∙ by_places (number inc (keys a b)) (keys a b) no_key

  rank_kept : rank (map inc (keys a b)) (length (map inc (keys a b))) ≡ length (kept inc (keys a b))
  unfolding rank kept
  rank_kept = ap (λ l. length (keep nonzero l)) (take-length (map inc (keys a b))) ∙ kept_map inc nonzero (keys a b)

module _ (op : Operation) (a b : Solid) where
  pub ranks_numbers : ranks (inclusions op a b) ≡ numbers op a b
  unfolding inclusions numbers
  ranks_numbers = ranks_number (inclusion op a b) a b

  pub ranks_count : rank (inclusions op a b) (length (inclusions op a b)) ≡ length (kept (inclusion op a b) (keys a b))
  unfolding inclusions
  ranks_count = rank_kept (inclusion op a b) a b
