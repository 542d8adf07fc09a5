-- `two_ends` meets its contract: no piece, or one, one way or the other.
use mathlib.Core.Path.{◌≡◌, sym, subst}
use mathlib.Core.List.{List, [], ◌∷◌, flat_map}
use Prim.Native.Nat.{ℕ, ◌+◌, ◌≤◌}
use borrow.Author.Rules.{rules}
use lib.ListN.{length}
use Rattle.solids.specs.Solids.{Half}
use Rattle.joined_ends.specs.Words.{flat, Behind}
use Rattle.joined_ends.proofs.Flat.{behind_none}
use Rattle.layouts.proofs.Packing.{is}
use Rattle.kept_lists.proofs.Single.{no_piece, one_piece, piece_back}
use Rattle.edge_pieces.proofs.quiet.two_ends.Goals as goal

-- one piece has two numbers
module _ {ps : List Half} {p : Half} (e : ps ≡ p ∷ []) where
  room : (at n : ℕ) → at + length (flat ps) ≤ n → at + 2 ≤ n
  unfolding flat flat_map
  room at n h = subst (λ (qs : List Half). at + length (flat qs) ≤ n) e h

  stands : {old l : List ℕ} {at r : ℕ} → Behind (p.0 ∷ p.1 ∷ []) old at l r → Behind (flat ps) old at l r
  unfolding flat flat_map
  stands {old} {l} {at} {r} b = subst (λ (qs : List Half). Behind (flat qs) old at l r) (sym e) b

pub returns-in-0-default : goal.returns-in-0-default
returns-in-0-default c = let a = c.args in rw (no_piece a.a a.b (is 0 (search rules) c.in-0-default.is-0)) (behind_none a.list.now a.at)

pub put_piece-requires : goal.put_piece-requires
put_piece-requires c = let a = c.args in let m = c.in-minus1-eq1 in room (one_piece a.a a.b (is _ (search rules) m.is-0) (is 1 (search rules) m.is-1)) a.at _ c.requires

pub returns-in-minus1-eq1 : goal.returns-in-minus1-eq1
returns-in-minus1-eq1 c = let a = c.args in let m = c.in-minus1-eq1 in stands (one_piece a.a a.b (is _ (search rules) m.is-0) (is 1 (search rules) m.is-1)) c.put_piece.ensures

pub put_piece-requires-in-1-minus1 : goal.put_piece-requires-in-1-minus1
put_piece-requires-in-1-minus1 c = let a = c.args in let m = c.in-1-minus1 in room (piece_back a.a a.b (is 1 (search rules) m.is-0) (is _ (search rules) m.is-1)) a.at _ c.requires

pub returns-in-1-minus1 : goal.returns-in-1-minus1
returns-in-1-minus1 c = let a = c.args in let m = c.in-1-minus1 in stands (piece_back a.a a.b (is 1 (search rules) m.is-0) (is _ (search rules) m.is-1)) c.put_piece-in-1-minus1.ensures
