-- The letter, then the length: what an input comes to, by its first byte and the bytes behind it.
use mathlib.Core.Path.{◌≡◌, refl, ap, ◌∙◌}
use mathlib.Core.List.{List, [], ◌∷◌}
use Prim.Native.Nat.{ℕ, suc, ◌≤◌}
use native.Mathlib.Omega.{arith}
use lib.ListN.{length}
use borrow.Author.Tests.{le-ltb}
use Rattle.results.specs.declared.Operation.{Operation}
use Rattle.std.specs.Prelude.{Option, Some}
use Rattle.results.specs.Operation.{refusal}
use Rattle.solid_line.specs.Line.{letter, room, by_letter, program}
use Rattle.solid_input.specs.Words.{of_bytes}
use Rattle.solids.specs.declared.Answer.{Answer}
use Rattle.solids.specs.Refusals.{answer_of}

-- ---- the length
pub not_long : (op : Operation) (bs : List ℕ) → length bs ≤ 32767 → by_letter (Some op) bs ≡ of_bytes op bs
unfolding of_bytes
not_long op bs h = rw (by_letter, le-ltb 32768 (suc (length bs)) (omega arith))

-- ---- the first byte
pub no_letter : (input : List ℕ) → length input ≡ 0 → program input ≡ refusal (answer_of 9) room
unfolding program
no_letter [] e = refl
no_letter (b ∷ bs) e = absurd (omega arith)

pub at_letter : (input : List ℕ) (c : ℕ) (bs : List ℕ) (l : Option Operation) → input ≡ c ∷ bs → letter c ≡ l → program input ≡ by_letter l bs
unfolding program
at_letter input c bs l e k = ap program e ∙ ap (λ o. by_letter o bs) k

-- a refusal is told by its answer's three numbers
pub refused_so : (a b : Answer) → a.number ≡ b.number → a.who ≡ b.who → a.place ≡ b.place → refusal a room ≡ refusal b room
refused_so a b n w p = ap (λ r. refusal r room) (λ i. record { number = n i; who = w i; place = p i })
