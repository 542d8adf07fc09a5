-- The ends of a composite edge: an end with count 0 may be left out, and turning every piece round is negating every count.
use mathlib.Core.Path.{◌≡◌, refl, sym, ap₂, ◌∙◌}
use mathlib.Core.Bool.{Bool, true, false, not}
use mathlib.Core.List.{List, [], ◌∷◌, ◌++◌, map, flat_map, zip, map-id, append-nil}
use Prim.Native.Nat.{ℕ, zero, suc}
use lib.IntN.{ℤ, pos, negsuc, neg_ℤ-neg_ℤ}
use lib.ListN.{replicate}
use Rattle.list_words.specs.Lists.{above, below, any, nonzero}
use Rattle.list_words.proofs.Sums.{flat_append, flat_map_map}
use Rattle.list_words.proofs.Tests.{or-false, never}
use Rattle.list_words.proofs.Joining.{turned_pieces}
use Rattle.results.specs.declared.End.{End}
use Rattle.results.specs.Pieces.{starts, stops, pieces}
use Rattle.vertex_table.specs.Words.{off, flip, turn, some_count}

abbrev starts_of : End → List ℕ
starts_of e = replicate (below e.count) e.vertex

abbrev stops_of : End → List ℕ
stops_of e = replicate (above e.count) e.vertex

-- ---- the same starts and the same stops
pub record Same (xs ys : List End) : Type 0 where
  pub from : starts xs ≡ starts ys
  pub to : stops xs ≡ stops ys

pub same_pieces : {xs ys : List End} → Same xs ys → pieces xs ≡ pieces ys
unfolding pieces
same_pieces h = rw (h.from, h.to)

starts_append : (xs ys : List End) → starts (xs ++ ys) ≡ starts xs ++ starts ys
unfolding starts
starts_append xs ys = flat_append starts_of xs ys

stops_append : (xs ys : List End) → stops (xs ++ ys) ≡ stops xs ++ stops ys
unfolding stops
stops_append xs ys = flat_append stops_of xs ys

pub same_one : {xs ys : List End} (e : End) → Same xs ys → Same (xs ++ (e ∷ [])) (ys ++ (e ∷ []))
same_one {xs} {ys} e h = record { from = rw (starts_append, starts_append, h.from); to = rw (stops_append, stops_append, h.to) }

pub no_ends : (z : ℤ) → nonzero z ≡ false → (below z ≡ 0) × (above z ≡ 0)
no_ends (pos zero) h = (refl, refl)
no_ends (pos (suc n)) h = absurd (never true refl h)
no_ends (negsuc n) h = absurd (never true refl h)

pub same_skip : {xs ys : List End} (e : End) → nonzero e.count ≡ false → Same xs ys → Same xs (ys ++ (e ∷ []))
unfolding starts stops flat_map
same_skip {xs} {ys} e z h =
    let n = no_ends e.count z in
    record { from = rw (starts_append, n.0, append-nil) h.from; to = rw (stops_append, n.1, append-nil) h.to }

-- where no count is not 0 there are no pieces
quiet : (es : List End) → some_count es ≡ false → starts es ≡ []
unfolding starts flat_map any
quiet [] h = refl
quiet (e ∷ es) h = let b = or-false (nonzero e.count) (some_count es) h in rw (no_ends e.count b.0).0 (quiet es b.1)

pub quiet_pieces : (es : List End) → some_count es ≡ false → pieces es ≡ []
unfolding pieces zip
quiet_pieces es h = rw (quiet es h)

-- ---- turned round
pub turn_pieces : (b : Bool) (es : List End) → pieces (map (flip b) es) ≡ turn b (pieces es)
unfolding pieces starts stops
turn_pieces true es =
    ap₂ zip (flat_map_map starts_of off es) (flat_map_map stops_of off es) ∙ sym (turned_pieces (λ (e : End). e.vertex) (λ (e : End). e.count) es)
turn_pieces false es = rw map-id

pub flip_off : (b : Bool) (e : End) → flip (not b) e ≡ flip b (off e)
flip_off true e = rw (neg_ℤ-neg_ℤ e.count)
flip_off false e = refl
