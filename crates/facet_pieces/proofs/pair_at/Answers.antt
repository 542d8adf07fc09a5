-- `pair_at` meets its contract.
use mathlib.Core.Path.{◌≡◌, refl, ap, ◌∙◌, subst}
use mathlib.Core.Bool.{Bool, true, false, not, cond}
use mathlib.Core.List.{List, map}
use Prim.Native.Nat.{ℕ}
use lib.Dec.{ltb}
use Rattle.list_words.specs.Lists.{turned}
use Rattle.solids.specs.Solids.{Half}
use Rattle.results.specs.declared.End.{End}
use Rattle.results.specs.Pieces.{pieces}
use Rattle.joined_ends.specs.Words.{flat, Behind}
use Rattle.vertex_table.specs.Words.{flip, turn}
use Rattle.vertex_table.proofs.Gather.{turn_pieces}
use Rattle.kept_lists.specs.Words.{pair}
use Rattle.composite_ends.specs.declared.Crossed.{Crossed}
use Rattle.composite_ends.specs.Words.{side_ends_of, pair_of}
use Rattle.facet_pieces.proofs.pair_at.Goals as goal

-- A's facet x with B's i, or A's i with B's x less A's facet count, turned round
either : (b : Bool) (p q : List End) → turn (not b) (pieces (cond b p q)) ≡ cond b (pieces p) (map turned (pieces q))
either true p q = refl
either false p q = refl

side : (k : Crossed) (x i : ℕ) {t : Bool} {es : List End} → t ≡ not (ltb x k.plan.sizes.fa) → es ≡ map (flip t) (side_ends_of k x i) → pieces es ≡ pair_of k x i
unfolding pair
side k x i {t} q e = ap pieces e ∙ turn_pieces t (side_ends_of k x i) ∙ rw q (either (ltb x k.plan.sizes.fa) _ _)

pub join_at-requires-clause-all_in_bounds : goal.join_at-requires-clause-all_in_bounds
join_at-requires-clause-all_in_bounds c = let a = c.args in rw (side a.crossings.now a.x a.i refl c.side_ends.ensures) c.requires.i_in_bounds

pub returns : goal.returns
returns c =
    let a = c.args in
    let j = c.join_at in
    subst (λ (ps : List Half). Behind (flat ps) a.list.now a.to j.new.list j.result) (side a.crossings.now a.x a.i refl c.side_ends.ensures) j.ensures
