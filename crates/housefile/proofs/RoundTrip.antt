-- The round trip of the house file: what is written is read as it was, what was accepted is written again with the same bytes, and bytes behind a
-- file change nothing.
use mathlib.Core.Path.{◌≡◌, sym, ap, ap₂, ◌∙◌, subst}
use mathlib.Core.Bool.{false}
use mathlib.Core.List.{List, ◌++◌}
use Prim.Native.Nat.{ℕ, ◌*◌, ◌/◌, ◌%◌, ◌≤◌}
use native.Mathlib.Omega.{arith}
use lib.ListN.{length, take, drop}
use lib.Seq.{take_at, length-take-le}
use lib.Ieee.{Float, is_nan}
use Rattle.list_words.specs.Lists.{onto}
use Rattle.list_words.proofs.Sums.{All, all_of, all_flat_map, all_of_flat_map}
use Rattle.numbers.specs.Numbers.{Byte, F64}
use Rattle.points.specs.Points.{coordinates}
use Rattle.solids.specs.Refusals.{no_refusal, accepted}
use Rattle.solids.specs.Solids.{Solid, vertices, facets}
use Rattle.solids.specs.Admission.{admission}
use Rattle.solids.proofs.Admitted.{passed}
use Rattle.housefile.specs.Reader.{Reading, laid, layout, reading, by_layout, read}
use Rattle.housefile.specs.Writer.{Writing, file, write}
use Rattle.housefile.specs.RoundTrip.{solid_read, RoundTrip}
use Rattle.housefile.proofs.Grammar.{Follows, follows_layout, layout_follows}
use Rattle.housefile.proofs.Files.{follows_within, follows_alone, follows_bytes, file_written, follows_storable}
use Rattle.housefile.proofs.Shown.{Shows, shown, shown_whole, shown_file, storable_vertices, storable_facets}
use Rattle.housefile.proofs.Refusals.{read_checked, write_else, read_success, write_success, even, long_enough, not_too_short, admitted_read, read_admitted}

-- ---- written, then read
module _ (s : Solid) (fine : admission s ≡ accepted) (held : All F64 s.points) where
  pub layout_written : (rest : List ℕ) → layout (file s ++ rest) ≡ laid (length (file s)) s.points s.corners
  layout_written rest =
      let p = passed s fine in
      let (vs, fs, h) = shown s p.points_whole p.corners_whole in
      let f = file_written vs fs (storable_vertices s vs fs h held) (storable_facets s vs fs h fine) rest in
      follows_layout (subst (λ l. Follows (l ++ rest) (length l) vs fs) (sym (shown_file s vs fs h)) f)
      ∙ ap₂ (laid (length (file s))) (sym h.points) (sym h.corners)

  module _ (ps : List Float) (cs : List ℕ) (room_points : length s.points ≤ length ps) (room_corners : length s.corners ≤ length cs) where
    pub written_then_read : (rest : List ℕ) → read (file s ++ rest) ps cs ≡ reading accepted (length (file s)) s ps cs
    written_then_read rest =
        read_checked (file s ++ rest) ps cs (length (file s)) s (layout_written rest)
        ∙ ap (λ v. reading v (length (file s)) s ps cs) (admitted_read s ps cs fine (long_enough s ps cs room_points room_corners))

-- the bytes that a call of the writer left, lent bytes behind the file and all
pub write_then_read : (s : Solid) (lent : List ℕ) → (write s lent).answer.number ≡ 0 → All F64 s.points
    → (ps : List Float) (cs : List ℕ) → length s.points ≤ length ps → length s.corners ≤ length cs
    → read (write s lent).bytes ps cs ≡ reading accepted (write s lent).used s ps cs
write_then_read s lent z held ps cs hp hc =
    let (fine, h) = write_success s lent z in
    subst (λ (w : Writing). read w.bytes ps cs ≡ reading accepted w.used s ps cs) (sym (write_else s lent fine h))
    (written_then_read s fine held ps cs hp hc (drop (length (file s)) lent))

-- ---- what a reading leaves in the lent lists' fronts
whole : (n : ℕ) → n % 3 ≡ 0 → n ≡ 3 * (n / 3)
whole n h = omega arith

pub solid_back : (used : ℕ) (s : Solid) (ps : List Float) (cs : List ℕ) → length s.points % 3 ≡ 0 → length s.corners % 3 ≡ 0
    → solid_read (reading accepted used s ps cs) ≡ s
solid_back used s ps cs p c = λ i. record {
  points = take_at s.points (drop (length s.points) ps) (3 * vertices s) (whole (length s.points) p) i;
  corners = take_at s.corners (drop (length s.corners) cs) (3 * facets s) (whole (length s.corners) c) i;
}

-- so a solid that is written and read again is the same solid, bit for bit
pub same_solid : (s : Solid) (lent : List ℕ) → (write s lent).answer.number ≡ 0 → All F64 s.points
    → (ps : List Float) (cs : List ℕ) → length s.points ≤ length ps → length s.corners ≤ length cs
    → solid_read (read (write s lent).bytes ps cs) ≡ s
same_solid s lent z held ps cs hp hc =
    let p = passed s (write_success s lent z).0 in
    ap solid_read (write_then_read s lent z held ps cs hp hc) ∙ solid_back (write s lent).used s ps cs p.points_whole p.corners_whole

-- ---- read, then written

-- an accepted file: the solid that it is read as, and that its bytes are that solid's file
pub record AcceptedFile (bs : List ℕ) (ps : List Float) (cs : List ℕ) : Type 0 where
  pub used : ℕ
  pub solid : Solid
  pub follows : layout bs ≡ laid used solid.points solid.corners
  pub admitted : admission solid ≡ accepted
  pub held : All F64 solid.points
  pub room_points : length solid.points ≤ length ps
  pub room_corners : length solid.corners ≤ length cs
  pub reads : read bs ps cs ≡ reading accepted used solid ps cs
  pub left : solid_read (read bs ps cs) ≡ solid
  pub within : used ≤ length bs
  pub bytes : file solid ≡ take used bs

module _ (bs : List ℕ) (all : All Byte bs) where
  pub accepted_file : (ps : List Float) (cs : List ℕ) → (read bs ps cs).answer.number ≡ 0 → AcceptedFile bs ps cs
  accepted_file ps cs z =
      let (used, s, l, v) = read_success bs ps cs z in
      let (vs, fs, f, p, c) = layout_follows bs used s.points s.corners l in
      let h : Shows s vs fs = record { points = p; corners = c } in
      let (wp, wc) = shown_whole s vs fs h in
      let (fine, room) = read_admitted s ps cs (even s wp wc) v in
      let (rp, rc) = not_too_short s ps cs room in
      let present = all_of_flat_map (λ x. is_nan x ≡ false) coordinates vs (subst (All (λ x. is_nan x ≡ false)) p (passed s fine).present) in
      let r = read_checked bs ps cs used s l ∙ ap (λ v. reading v used s ps cs) v in
      record {
        used = used;
        solid = s;
        follows = l;
        admitted = fine;
        held = subst (All F64) (sym p) (all_flat_map F64 coordinates vs (follows_storable all f).0);
        room_points = rp;
        room_corners = rc;
        reads = r;
        left = ap solid_read r ∙ solid_back used s ps cs wp wc;
        within = follows_within f;
        bytes = shown_file s vs fs h ∙ sym (follows_bytes all present f);
      }

  module _ (ps : List Float) (cs : List ℕ) (z : (read bs ps cs).answer.number ≡ 0) where
    pub read_then_written : file (solid_read (read bs ps cs)) ≡ take (read bs ps cs).used bs
    read_then_written =
        let a = accepted_file ps cs z in
        ap file a.left ∙ a.bytes ∙ sym (ap (λ (r : Reading). take r.used bs) a.reads)

    -- the writer, lent as many bytes as were used or more, puts the same bytes there
    pub read_then_write : (lent : List ℕ) → (read bs ps cs).used ≤ length lent
        → write (solid_read (read bs ps cs)) lent
        ≡ record { answer = no_refusal; used = (read bs ps cs).used; bytes = onto (take (read bs ps cs).used bs) lent }
    read_then_write lent h =
        let a = accepted_file ps cs z in
        let u : (read bs ps cs).used ≡ a.used = ap (λ (r : Reading). r.used) a.reads in
        let long : length (file a.solid) ≡ a.used = ap length a.bytes ∙ length-take-le a.used bs a.within in
        let same : file a.solid ≡ take (read bs ps cs).used bs = a.bytes ∙ sym (ap (λ n. take n bs) u) in
        ap (λ s. write s lent) a.left ∙ write_else a.solid lent a.admitted (omega arith)
        ∙ (λ i. record { answer = no_refusal; used = (long ∙ sym u) i; bytes = onto (same i) lent })

-- ---- bytes behind a file
module _ (bs : List ℕ) (used : ℕ) (xs : List Float) (ds : List ℕ) (e : layout bs ≡ laid used xs ds) where
  pub used_within : used ≤ length bs
  used_within = let (vs, fs, f, p, c) = layout_follows bs used xs ds e in follows_within f

  -- a file's lists are of whole threes, so the reader has no check 1
  pub layout_whole : (length xs % 3 ≡ 0) × (length ds % 3 ≡ 0)
  layout_whole =
      let (vs, fs, f, p, c) = layout_follows bs used xs ds e in
      shown_whole (record { points = xs; corners = ds }) vs fs (record { points = p; corners = c })

  pub layout_alone : (rest : List ℕ) → layout (take used bs ++ rest) ≡ laid used xs ds
  layout_alone rest =
      let (vs, fs, f, p, c) = layout_follows bs used xs ds e in
      follows_layout (follows_alone f rest) ∙ ap₂ (laid used) (sym p) (sym c)

  pub behind_changes_nothing : (rest : List ℕ) (ps : List Float) (cs : List ℕ) → read (take used bs ++ rest) ps cs ≡ read bs ps cs
  unfolding read
  behind_changes_nothing rest ps cs = ap (λ l. by_layout l ps cs) (layout_alone rest ∙ sym e)

-- ---- the statement
pub round_trip : RoundTrip
round_trip = record {
  written_then_read = λ s fine held rest ps cs hp hc. written_then_read s fine (all_of F64 s.points held) ps cs hp hc rest;
  write_then_read = λ s lent z held ps cs hp hc. same_solid s lent z (all_of F64 s.points held) ps cs hp hc;
  read_then_written = λ bs all ps cs z. read_then_written bs (all_of Byte bs all) ps cs z;
  read_then_write = λ bs all ps cs z lent h. read_then_write bs (all_of Byte bs all) ps cs z lent h;
  behind_changes_nothing = behind_changes_nothing;
}
