-- One record and the bytes behind it: what every walk over records needs, whatever the order of the records.
use mathlib.Core.Path.{◌≡◌, ap, ap₂, ◌∙◌}
use mathlib.Core.List.{List, ◌++◌, append_assoc}
use Prim.Native.Nat.{ℕ, ◌+◌, ◌≤◌}
use native.Mathlib.Omega.{arith}
use lib.ListN.{length, take, drop, length-append, length-drop}
use lib.Seq.{take-add, drop_at, length-take-le}
use Rattle.std.specs.Prelude.{Some}
use Rattle.list_words.proofs.Sums.{All}
use Rattle.numbers.specs.Numbers.{Byte}
use Rattle.housefile.specs.declared.Record.{Record}
use Rattle.housefile.specs.Records.{size, decoded, encoded}
use Rattle.housefile.proofs.Records.{Storable, Present, size_within, decoded_own, length_encoded, behind_encoded, decoded_encoded, encoded_decoded}

-- ---- a record that was read, and u bytes behind it
module _ (bs : List ℕ) (r : Record) (e : decoded bs ≡ Some r) (u : ℕ) where
  pub reach : u ≤ length (drop (size r) bs) → size r + u ≤ length bs
  reach h = let s = size_within bs r e in let l = length-drop (size r) bs in omega arith

  -- if the u bytes are l, written again, then so are those of the record and they
  pub written_again : All Byte bs → Present r → (l : List ℕ) → take u (drop (size r) bs) ≡ l → take (size r + u) bs ≡ encoded r ++ l
  written_again all p l t = take-add (size r) u bs ∙ ap₂ ◌++◌ (encoded_decoded bs all r e p) t

  -- with anything else behind those bytes, the same record is read, and then the same u bytes
  module _ (rest : List ℕ) where
    split : take (size r + u) bs ++ rest ≡ take (size r) bs ++ (take u (drop (size r) bs) ++ rest)
    split = rw take-add (append_assoc (take (size r) bs) (take u (drop (size r) bs)) rest)

    pub record_alone : decoded (take (size r + u) bs ++ rest) ≡ Some r
    record_alone = ap decoded split ∙ decoded_own bs r e (take u (drop (size r) bs) ++ rest)

    pub behind_alone : drop (size r) (take (size r + u) bs ++ rest) ≡ take u (drop (size r) bs) ++ rest
    behind_alone =
        ap (drop (size r)) split
        ∙ drop_at (take (size r) bs) (take u (drop (size r) bs) ++ rest) (size r) (length-take-le (size r) bs (size_within bs r e))

-- ---- a record written in front of l, with anything behind
module _ (r : Record) (l : List ℕ) where
  pub length_put : length (encoded r ++ l) ≡ size r + length l
  length_put = length-append (encoded r) l ∙ ap (λ n. n + length l) (length_encoded r)

  module _ (rest : List ℕ) where
    pub put_decoded : Storable r → decoded ((encoded r ++ l) ++ rest) ≡ Some r
    put_decoded h = ap decoded (append_assoc (encoded r) l rest) ∙ decoded_encoded r h (l ++ rest)

    pub put_behind : drop (size r) ((encoded r ++ l) ++ rest) ≡ l ++ rest
    put_behind = ap (drop (size r)) (append_assoc (encoded r) l rest) ∙ behind_encoded r (l ++ rest)
