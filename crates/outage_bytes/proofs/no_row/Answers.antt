-- `no_row` meets its contract: the length, the mark, the two flags that are no bound's.
use mathlib.Core.Path.{◌≡◌, refl, ap, ◌∙◌}
use mathlib.Core.Bool.{Bool, true, false, not, ◌||◌}
use mathlib.Core.List.{List}
use Prim.Native.Nat.{ℕ}
use lib.ListN.{length}
use lib.Dec.{eqb}
use borrow.Author.Tests.{ne_eqb}
use Rattle.numbers.specs.Numbers.{number, number_at}
use Rattle.outage_rows.specs.Row.{no_row, mark_RW}
use Rattle.outage_rows.proofs.Either.{then_or, else_or}
use Rattle.outage_bytes.specs.Words.{flag}
use Rattle.outage_bytes.proofs.no_row.Goals.{then-row-ne53, else-row-ne53}
use Rattle.outage_bytes.proofs.no_row.Goals as goal

four : (a b c d : Bool) → (a || b) || (c || d) ≡ a || b || c || d
four true b c d = refl
four false true c d = refl
four false false c d = refl

-- what `no_row` looks for in some bytes
abbrev other_length : List ℕ → Bool
other_length bs = not (eqb (length bs) 53)

abbrev other_mark : List ℕ → Bool
other_mark bs = not (eqb (number_at 0 2 bs) (number mark_RW))

abbrev stray : List ℕ → Bool
stray bs = flag bs 6 || flag bs 7

in_parts : (bs : List ℕ) → (other_length bs || other_mark bs) || stray bs ≡ no_row bs
unfolding no_row
in_parts bs = four (other_length bs) (other_mark bs) (flag bs 6) (flag bs 7)

pub returns-then-number_at-ne-RW : goal.returns-then-number_at-ne-RW
unfolding number
returns-then-number_at-ne-RW c =
    let bs = c.args.row.now in
    let unmarked : c.if-row-ne53.value ≡ other_length bs || other_mark bs = elim c.if-row-ne53.branch [
      | then-row-ne53 w ↦ then_or _ _ _ _ w.value-is (rw (ne_eqb _ 53 w.if-row-ne53.true)) refl
      | else-row-ne53 w ↦ else_or _ _ _ _ _ w.value-is (rw w.if-row-ne53.false) refl (ap (λ n. not (eqb n 22354)) w.number_at.ensures.value)
    ] in
    then_or _ _ _ (stray bs) refl c.if-number_at-ne-RW.true unmarked ∙ in_parts bs

pub returns-else-number_at-ne-RW : goal.returns-else-number_at-ne-RW
unfolding number
returns-else-number_at-ne-RW c =
    let bs = c.args.row.now in
    let unmarked : c.if-row-ne53.value ≡ other_length bs || other_mark bs = elim c.if-row-ne53.branch [
      | then-row-ne53 w ↦ then_or _ _ _ _ w.value-is (rw (ne_eqb _ 53 w.if-row-ne53.true)) refl
      | else-row-ne53 w ↦ else_or _ _ _ _ _ w.value-is (rw w.if-row-ne53.false) refl (ap (λ n. not (eqb n 22354)) w.number_at.ensures.value)
    ] in
    else_or _ _ _ _ (stray bs) refl c.if-number_at-ne-RW.false unmarked c.stray_flag.ensures ∙ in_parts bs
