-- Texts: what one says after a byte, what it says after one thing and another, and that all of it is there.
use mathlib.Core.Path.{◌≡◌, refl, sym, ap, ap₂, ◌∙◌}
use mathlib.Core.List.{List, [], ◌∷◌, ◌++◌, append_assoc}
use Prim.Native.Nat.{ℕ, ◌+◌, ◌≤◌, ◌<◌}
use native.Mathlib.Omega.{arith}
use lib.ListN.{length, set, replicate, length-append}
use lib.Seq.{sets}
use Rattle.list_stores.proofs.Stores.{onto_append}
use Rattle.solid_line.specs.declared.Text.{Text}
use Rattle.solid_line.specs.Answers.{text, Printed}
use Rattle.solid_line.specs.Words.{Then}

-- ---- what is stored behind it

pub and_stored : (t : Text) (l : List ℕ) → t.used + length l ≤ 64 → Then t l (record { bytes = sets t.bytes t.used l; used = t.used + length l })
and_stored t l h =
    record {
      longer = refl;
      says = λ before e.
          let n : t.used ≡ length before = ap (λ x. x.used) e in
          rw e (ap₂ (λ x y. record { bytes = x; used = y }) (onto_append (replicate 64 0) before l (omega arith)) (sym (length-append before l)));
    }

pub one_more : (t : Text) (b : ℕ) → t.used < 64 → Then t (b ∷ []) (record { bytes = set t.bytes t.used b; used = t.used + 1 })
one_more t b h = and_stored t (b ∷ []) (omega arith)

pub and_then : {t r q : Text} {k l : List ℕ} → Then t k r → Then r l q → Then t (k ++ l) q
and_then {t} {r} {q} {k} {l} d e =
    record {
      longer = omega (arith, length-append k l);
      says = λ before s. e.says (before ++ k) (d.says before s) ∙ ap text (append_assoc before k l);
    }

-- ---- what is printed is all there

pub within : (input : List ℕ) {t : Text} → Printed input t → t.used ≤ length t.bytes
within input e = rw (e, length-append) (omega arith)
