-- Each public call has one answer: a contract is an equation, and from its left side the answer and the lent lists can be taken back.
use mathlib.Core.Path.{◌≡◌, sym, ap, ◌∙◌}
use mathlib.Core.List.{List}
use Prim.Native.Nat.{ℕ}
use lib.Ieee.{Float}
use Rattle.results.specs.declared.Made.{Made}
use Rattle.results.specs.Operation.{Lent, Outcome}
use Rattle.housefile.specs.declared.Read.{Read}
use Rattle.housefile.specs.declared.Written.{Written}
use Rattle.housefile.specs.Reader.{Reading}
use Rattle.housefile.specs.Writer.{Writing}
use Rattle.outage_rows.specs.declared.Boxed.{Boxed}
use Rattle.outage_rows.specs.Boxed.{Boxing}
use Rattle.one_answer.specs.Unique.{Unique}

-- equal to one thing
same : {A : Type 0} {r q x : A} → r ≡ x → q ≡ x → r ≡ q
same d e = d ∙ sym e

abbrev of_outcome : Outcome → Made × Lent
of_outcome o = (record { answer = o.answer; vertices = o.vertices; triangles = o.triangles }, o.lent)

abbrev of_reading : Reading → Read × (List Float × List ℕ)
of_reading o = (record { answer = o.answer; vertices = o.vertices; facets = o.facets; used = o.used }, (o.points, o.corners))

abbrev of_writing : Writing → Written × List ℕ
of_writing o = (record { answer = o.answer; used = o.used }, o.bytes)

abbrev of_boxing : Boxing → Boxed × (List Float × List ℕ)
of_boxing o = (record { answer = o.answer; vertices = o.vertices; facets = o.facets; unit = o.unit }, (o.points, o.corners))

pub unique : Unique
unique =
    record {
      operate = λ code a b l r q d e. ap of_outcome (same d e);
      count_as_a = λ v s r q d e. same d e;
      count_as_b = λ v s r q d e. same d e;
      admit = λ s r q d e. same d e;
      admit_point = λ v r q d e. same d e;
      judged = λ s r q d e. same d e;
      shown = λ a b origin r q d e. same d e;
      read = λ bs ps cs r q d e. ap of_reading (same d e);
      write = λ s bs r q d e. ap of_writing (same d e);
      boxed = λ bs ps cs r q d e. ap of_boxing (same d e);
      program = λ input r q d e. same d e;
      printed = λ input r q d e. same d e;
      shown_copied = λ a b origin lent r q d e. ap of_writing (same d e);
    }
