-- Each public call has one answer: the relation that its `ensures` cites, between what it is given and what it answers and leaves, allows one only.
use Rattle.std.specs.Prelude.{ℕ, ◌≡◌, List, Float}
use Rattle.points.specs.declared.Point.{Point}
use Rattle.solids.specs.Solids.{Solid}
use Rattle.solids.specs.Admission.{Admit, Judged, AdmitPoint}
use Rattle.solids.specs.Containment.{CountAsA, CountAsB}
use Rattle.results.specs.Operation.{Lent, Operate}
use Rattle.results.specs.Origin.{Part, Shown}
use Rattle.housefile.specs.Reader.{ReadFile}
use Rattle.housefile.specs.Writer.{WriteFile}
use Rattle.solid_line.specs.Answers.{Program, Printed}
use Rattle.origins.specs.Shown.{ShownCopied}
use Rattle.outage_rows.specs.Boxed.{BoxRow}

abbrev pub One : {A : Type 0} → (A → Type 0) → Type 0
One {A} allowed = (r q : A) → allowed r → allowed q → r ≡ q

pub record Unique : Type 0 where
  -- operations::operate
  pub operate : (code : ℕ) (a b : Solid) (l : Lent) → One (Operate code a b l)
  -- containment::count_as_a and count_as_b
  pub count_as_a : (v : Point) (s : Solid) → One (CountAsA v s)
  pub count_as_b : (v : Point) (s : Solid) → One (CountAsB v s)
  -- admission::admit and admit_point
  pub judged : (s : Solid) → One (Judged s)
  pub admit_point : (v : Point) → One (AdmitPoint v)
  -- origins::shown
  pub shown : (a b : Part) (origin : ℕ) → One (Shown a b origin)
  -- housefile_reader::read and housefile_writer::write
  pub read : (bs : List ℕ) (ps : List Float) (cs : List ℕ) → One (ReadFile bs ps cs)
  pub write : (s : Solid) (bs : List ℕ) → One (WriteFile s bs)
  -- outage_boxes::boxed
  pub boxed : (bs : List ℕ) (ps : List Float) (cs : List ℕ) → One (BoxRow bs ps cs)
  -- solid_outcome::outcome and solid_outcome::printed
  pub program : (input : List ℕ) → One (Program input)
  pub printed : (input : List ℕ) → One (Printed input)
  -- capi: `ozoravesh_admit` tells the verdict's number, and origins::copied copies what is shown; the other calls for C cite a relation above
  pub admit : (s : Solid) → One (Admit s)
  pub shown_copied : (a b : Part) (origin : ℕ) (lent : List ℕ) → One (ShownCopied a b origin lent)
