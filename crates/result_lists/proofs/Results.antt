-- What the count of triangles and the lent lists say of the result.
use mathlib.Core.Path.{◌≡◌, sym, ap, ◌∙◌, subst}
use mathlib.Core.Bool.{Bool, true, false, ◌||◌}
use mathlib.Core.List.{List}
use Prim.Native.Nat.{ℕ, ◌*◌, ◌/◌, ◌≤◌}
use native.Mathlib.Omega.{arith}
use borrow.Author.Tests.{ltb-false}
use lib.Dec.{ltb}
use lib.Ieee.{Float}
use lib.IntN.{ℤ}
use lib.ListN.{length}
use Rattle.list_words.specs.Lists.{onto}
use Rattle.list_words.proofs.Tests.{or-false}
use Rattle.solids.specs.Refusals.{answer_of, no_refusal, accepted}
use Rattle.solids.specs.Solids.{Solid}
use Rattle.solids.specs.Admission.{admission}
use Rattle.solids.proofs.Admitted.{passed}
use Rattle.results.specs.declared.Operation.{Operation}
use Rattle.results.specs.Triangles.{Triangle, result}
use Rattle.results.specs.Operation.{Lent, lists, too_short, called, refusal, operate}
use Rattle.results.proofs.Refusals.{last_8, else_done}
use Rattle.layouts.specs.declared.Sizes.{Sizes}
use Rattle.fans.specs.Words.{Laid}
use Rattle.vertex_table.specs.Words as T
use Rattle.vertex_table.proofs.Use.{counted, made}
use Rattle.kept_lists.specs.Words as K
use Rattle.result_points.specs.Words.{placed}
use Rattle.result_points.proofs.Results.{placed_is}
use Rattle.result_numbers.specs.Words.{Numbered}
use Rattle.result_sizes.specs.Words.{Lists}
use Rattle.result_sizes.proofs.Vertices.{all_vertices}
use Rattle.result_sizes.proofs.Measures.{as_filled}

module _ (op : Operation) (a b : Solid) (ok_a : admission a ≡ accepted) (ok_b : admission b ≡ accepted) {z : Sizes} {total : ℕ} {hs : List ℕ} {inc : List ℤ} {first crossed : List ℕ} (l : Lists op a b z total hs inc first crossed) where
  module _ {num : List ℕ} {base n : ℕ} (v : Numbered op a b num base n) where
    abbrev ts : List Triangle
    ts = T.triangles (K.dense z inc num (K.rows first crossed base)) hs z

    counted_triangles : (m : ℕ) → m ≡ length ts → (3 * m ≡ length (result op a b).corners) × (m ≡ length (result op a b).origins)
    counted_triangles m e = counted op a b (passed a ok_a) (passed b ok_b) (e ∙ ap length (as_filled op a b ok_a ok_b l v))

    own_points : placed a b inc first crossed ≡ (result op a b).points
    own_points = placed_is op a b l.included l.listing

    module _ (lent : Lent) (m : ℕ) (of_m : m ≡ length ts) where
      of_n : 3 * n ≡ length (result op a b).points
      of_n = all_vertices op a b v.of_B

      abbrev short : Bool
      short = ltb (length lent.points) (3 * n) || ltb (length lent.corners) (3 * m) || ltb (length lent.origins) m

      -- it decides 8
      measured : short ≡ too_short lent (result op a b)
      unfolding too_short
      measured = let c = counted_triangles m of_m in rw (of_n, c.0, ap (ltb (length lent.origins)) c.1)

      pub done_short : short ≡ true → refusal (answer_of 8) lent ≡ operate op a b lent
      done_short h = sym (last_8 a b lent op ok_a ok_b (sym measured ∙ h))

      module _ (enough : short ≡ false) where
        fits : ((ltb (length lent.points) (3 * n) ≡ false) × (ltb (length lent.corners) (3 * m) ≡ false)) × (ltb (length lent.origins) m ≡ false)
        fits =
            let p = ltb (length lent.points) (3 * n) in
            let c = ltb (length lent.corners) (3 * m) in
            let f = or-false (p || c) (ltb (length lent.origins) m) enough in
            (or-false p c f.0, f.1)

        pub points_fit : length (placed a b inc first crossed) ≤ length lent.points
        points_fit = omega (arith, ap length own_points, of_n, ltb-false (length lent.points) (3 * n) fits.0.0)

        pub done_made : {ps : List Float} {cs os : List ℕ} {k : ℕ} → ps ≡ onto (placed a b inc first crossed) lent.points → Laid ts lent.corners lent.origins 0 cs os k
            → called (record { answer = no_refusal; vertices = n; triangles = m }) (lists ps cs os) ≡ operate op a b lent
        done_made {ps} {cs} {os} {k} p laid =
            let third : length (result op a b).points / 3 ≡ n = omega (arith, of_n) in
            let q : ps ≡ onto (result op a b).points lent.points = p ∙ ap (λ (x : List Float). onto x lent.points) own_points in
            let own : k ≡ m = omega (arith, laid.count, of_m) in
            let r = made op a b (passed a ok_a) (passed b ok_b) (subst (λ ts. Laid ts lent.corners lent.origins 0 cs os k) (as_filled op a b ok_a ok_b l v) laid) (omega (arith, own, ltb-false (length lent.corners) (3 * m) fits.0.1)) (omega (arith, own, ltb-false (length lent.origins) m fits.1)) in
            rw (q, r.0, r.1, else_done a b lent op ok_a ok_b (sym measured ∙ enough), third, (counted_triangles m of_m).1)
