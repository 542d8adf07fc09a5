-- `checked` meets its contract: the admission, then 8 by the length of the file, then the three parts of the file.
use mathlib.Core.Path.{◌≡◌, sym, ◌∙◌}
use Prim.Native.Nat.{◌+◌, ◌*◌, ◌≤◌}
use native.Mathlib.Omega.{arith}
use lib.ListN.{length}
use lib.Ieee.{is_nan}
use borrow.Author.Rules.{rules}
use Rattle.list_words.specs.Lists.{onto}
use Rattle.list_words.proofs.Tests.{false_any}
use Rattle.solids.specs.Refusals.{no_refusal, Verdict, accepted}
use Rattle.solids.specs.Solids.{Solid, solid, vertices, facets}
use Rattle.solids.specs.Admission.{admission}
use Rattle.solids.proofs.Admitted.{Passed, passed}
use Rattle.list_words.proofs.Handed.{handed_on}
use Rattle.housefile_writer.specs.Words.{vertex_part, facet_part}
use Rattle.housefile.specs.Writer.{file}
use Rattle.housefile.proofs.Shown.{length_file}
use Rattle.housefile.proofs.Refusals.{write_first, write_then_8, write_else}
use Rattle.housefile_writer.proofs.Parts.{file_put}
use Rattle.housefile_writer.proofs.checked.Goals as goal

-- what an admitted solid has, and how long its file is
module _ (s : Solid) (said : Verdict) (told : said ≡ admission s) (e : said ≡ accepted) where
  fine : admission s ≡ accepted
  fine = sym told ∙ e

  through : Passed s
  through = passed s fine

  long : length (file s) ≡ 26 * vertices s + 14 * facets s + 2
  long = length_file s through.points_whole through.corners_whole

pub returns-in_err-admit : goal.returns-in_err-admit
returns-in_err-admit c =
    rw (handed_on c.from_residual.result _ c.from_residual.ensures.1)
    (sym (write_first (solid c.args.points.now c.args.corners.now) c.args.bytes.now _ (sym c.admit.ensures ∙ c.in_err-admit.was)))

pub overflow_add-end_at : goal.overflow_add-end_at
overflow_add-end_at c = let p = through _ _ c.admit.ensures c.in_ok-admit.was in omega (arith, p.few_vertices, p.few_facets)

pub overflow_add-end_at-2 : goal.overflow_add-end_at-2
overflow_add-end_at-2 c = let p = through _ _ c.admit.ensures c.in_ok-admit.was in omega (arith, p.few_vertices, p.few_facets)

pub returns-then-bytes-end_at : goal.returns-then-bytes-end_at
returns-then-bytes-end_at c =
    let s : Solid = solid c.args.points.now c.args.corners.now in
    rw c.on_nobody.ensures
    (sym (write_then_8 s c.args.bytes.now (fine s _ c.admit.ensures c.in_ok-admit.was)
    (omega (arith, long s _ c.admit.ensures c.in_ok-admit.was, c.if-bytes-end_at.true))))

pub put_vertices-requires : goal.put_vertices-requires
put_vertices-requires c = (search rules, false_any is_nan c.args.points.now (through _ _ c.admit.ensures c.in_ok-admit.was).present)

pub returns : goal.returns
unfolding vertex_part facet_part
returns c =
    let old = c.args.bytes.now in
    let s : Solid = solid c.args.points.now c.args.corners.now in
    let n = long s _ c.admit.ensures c.in_ok-admit.was in
    let room : length (file s) ≤ length old = omega (arith, n, c.if-bytes-end_at.false) in
    let put : c.put_end.new.bytes ≡ onto (file s) old = rw (c.put_end.ensures, c.put_facets.ensures, c.put_vertices.ensures) (file_put s old room) in
    sym (write_else s old (fine s _ c.admit.ensures c.in_ok-admit.was) room ∙ (λ i. record { answer = no_refusal; used = n i; bytes = sym put i }))
