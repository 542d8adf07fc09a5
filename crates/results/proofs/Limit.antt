-- Every coordinate of a result is within the limit: copied vertices are, and a new vertex is A's point of a crossing, which the hold keeps there.
use mathlib.Core.Path.{◌≡◌, sym, ap, ◌∙◌}
use mathlib.Core.Logic.{◌≢◌}
use mathlib.Core.Bool.{true, false≢true}
use lib.IntN.{ℤ, pos, ◌*ℤ◌, *ℤ-zero}
use Rattle.list_words.specs.Lists.{nonzero}
use Rattle.list_words.proofs.Sums.{All, all_mono, all_flat_map, all_of}
use Rattle.list_words.proofs.Tests.{all_keep}
use Rattle.points.specs.Points.{coordinates}
use Rattle.crossings.specs.declared.Crossing.{Crossing}
use Rattle.crossings.specs.Crossings.{count, points}
use Rattle.crossings.proofs.Kept.{Keeps, keeps_there, keeps_ef, keeps_fe}
use Rattle.solids.specs.Solids.{Solid, edge, facet, corner}
use Rattle.solids.proofs.Limit.{Near, Limited, limited_held, limited_coordinates, limited_vertex}
use Rattle.results.specs.declared.Operation.{Operation}
use Rattle.results.specs.Inclusion.{Key, vA, eAfB, fAeB, vB, edge_facet, facet_edge, cI, inclusion, place}
use Rattle.results.specs.Vertices.{keys, kept}
use Rattle.results.specs.Triangles.{listed, result}

pub nonzero_ne : (x : ℤ) → nonzero x ≡ true → x ≢ pos 0
nonzero_ne x e z = false≢true (ap nonzero (sym z) ∙ e)

-- a crossing that is kept is no miss
counted : (i : ℤ) (c : Crossing) → nonzero (i *ℤ count c) ≡ true → count c ≢ pos 0
counted i c e z = nonzero_ne (i *ℤ count c) e (ap (λ n. i *ℤ n) z ∙ *ℤ-zero i)

module _ (op : Operation) (a b : Solid) (near_a : All Near a.points) (near_b : All Near b.points) where
  crossing_limited : (i : ℤ) (c : Crossing) → nonzero (i *ℤ count c) ≡ true → Keeps Limited Limited c → Limited (points c).a
  crossing_limited i c e h = (keeps_there Limited Limited c (counted i c e) h).0

  place_limited : (k : Key) → nonzero (inclusion op a b k) ≡ true → Limited (place a b k)
  unfolding inclusion place edge_facet facet_edge
  place_limited (vA i) e = limited_vertex a near_a i
  place_limited (eAfB h f) e =
      crossing_limited (cI op) (edge_facet a b h f) e
      (keeps_ef Limited Limited limited_held limited_held (edge a h) (facet b f) (limited_vertex a near_a h.0, limited_vertex a near_a h.1)
      (limited_vertex b near_b (corner b f 0), limited_vertex b near_b (corner b f 1), limited_vertex b near_b (corner b f 2)))
  place_limited (fAeB f h) e =
      crossing_limited (cI op) (facet_edge a b f h) e
      (keeps_fe Limited Limited limited_held limited_held (facet a f) (edge b h)
      (limited_vertex a near_a (corner a f 0), limited_vertex a near_a (corner a f 1), limited_vertex a near_a (corner a f 2))
      (limited_vertex b near_b h.0, limited_vertex b near_b h.1))
  place_limited (vB i) e = limited_vertex b near_b i

  pub result_near : All Near (result op a b).points
  unfolding result listed kept
  result_near =
      all_flat_map Near (λ k. coordinates (place a b k)) (kept (inclusion op a b) (keys a b))
      (all_mono (λ k. (nonzero (inclusion op a b k) ≡ true) × Unit {0}) (λ k. All Near (coordinates (place a b k))) (kept (inclusion op a b) (keys a b))
      (λ k e. limited_coordinates (place a b k) (place_limited k e.0))
      (all_keep (λ k. nonzero (inclusion op a b k)) (λ k. Unit {0}) (keys a b) (all_of (λ k. Unit {0}) (keys a b) (λ k m. tt))))
