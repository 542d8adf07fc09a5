-- The round trip of the house file, as a statement: what is written is read as it was, bit for bit; what is read and accepted is written again
-- byte by byte; and bytes behind a file change nothing. Proved in proofs/RoundTrip.antt.
use Rattle.std.specs.Prelude.{ℕ, ◌*◌, ◌≤◌, ◌≡◌, length, take, Float}
use mathlib.Core.List.{List, ◌++◌, Memᴰ}
use Rattle.list_words.specs.Lists.{onto}
use Rattle.numbers.specs.Numbers.{Byte, F64}
use Rattle.solids.specs.Refusals.{accepted, no_refusal}
use Rattle.solids.specs.Solids.{Solid, vertices, facets}
use Rattle.solids.specs.Admission.{admission}
use Rattle.housefile.specs.Reader.{Reading, laid, layout, read}
use Rattle.housefile.specs.Writer.{file, write}

-- the solid that stands in the fronts of the lent lists after a reading
abbrev pub solid_read : Reading → Solid
solid_read r = record { points = take (3 * r.vertices) r.points; corners = take (3 * r.facets) r.corners }

pub record RoundTrip : Type 0 where
  -- an admitted solid's file, whatever stands behind it, is read as that solid, given room
  pub written_then_read : (s : Solid) → admission s ≡ accepted → ((x : Float) → Memᴰ x s.points → F64 x)
      → (rest : List ℕ) (ps : List Float) (cs : List ℕ) → length s.points ≤ length ps → length s.corners ≤ length cs
      → read (file s ++ rest) ps cs
      ≡ record {
        answer = no_refusal;
        vertices = vertices s;
        facets = facets s;
        used = length (file s);
        points = onto s.points ps;
        corners = onto s.corners cs;
      }
  -- so, by the two calls, the solid that was written is read, bit for bit
  pub write_then_read : (s : Solid) (lent : List ℕ) → (write s lent).answer.number ≡ 0 → ((x : Float) → Memᴰ x s.points → F64 x)
      → (ps : List Float) (cs : List ℕ) → length s.points ≤ length ps → length s.corners ≤ length cs
      → solid_read (read (write s lent).bytes ps cs) ≡ s
  -- an accepted file is written again with the same bytes
  pub read_then_written : (bs : List ℕ) → ((b : ℕ) → Memᴰ b bs → Byte b) → (ps : List Float) (cs : List ℕ) → (read bs ps cs).answer.number ≡ 0
      → file (solid_read (read bs ps cs)) ≡ take (read bs ps cs).used bs
  -- so, by the two calls, given room
  pub read_then_write : (bs : List ℕ) → ((b : ℕ) → Memᴰ b bs → Byte b) → (ps : List Float) (cs : List ℕ) → (read bs ps cs).answer.number ≡ 0
      → (lent : List ℕ) → (read bs ps cs).used ≤ length lent
      → write (solid_read (read bs ps cs)) lent
      ≡ record { answer = no_refusal; used = (read bs ps cs).used; bytes = onto (take (read bs ps cs).used bs) lent }
  -- "bytes behind EN are not its business": no part of a reading, accepted or not, depends on them
  pub behind_changes_nothing : (bs : List ℕ) (used : ℕ) (xs : List Float) (ds : List ℕ) → layout bs ≡ laid used xs ds
      → (rest : List ℕ) (ps : List Float) (cs : List ℕ) → read (take used bs ++ rest) ps cs ≡ read bs ps cs
