-- Document 01, "Crossing counts": how often a solid contains a point, and the two calls that count it.
use Rattle.std.specs.Prelude.{◌≡◌, [], ◌∷◌, ℤ, pos, neg_ℤ, Ok, Err}
use Rattle.list_words.specs.Lists.{up_to, sum_of}
use Rattle.points.specs.declared.Point.{Point}
use Rattle.points.specs.declared.Axis.TheVariants.{Z}
use Rattle.crossings.specs.Crossings.{S, vf, fv}
use Rattle.solids.specs.declared.Answer.{Answer}
use Rattle.solids.specs.declared.Counted.{Counted}
use Rattle.solids.specs.Refusals.{Verdict, no_refusal, in_order}
use Rattle.solids.specs.Solids.{Solid, facets, facet}
use Rattle.solids.specs.Admission.{admission, point_admission}

-- "X(vA,B) = sum S(vA,f)": how often B contains a vertex of A
unfoldable pub in_B : Point → Solid → ℤ
in_B v b = sum_of (λ f. S Z (vf v (facet b f))) (up_to (facets b))

-- "X(A,vB) = - sum S(f,vB)": how often A contains a vertex of B
unfoldable pub in_A : Solid → Point → ℤ
in_A a v = neg_ℤ (sum_of (λ f. S Z (fv (facet a f) v)) (up_to (facets a)))

-- "Every refusal returns its number with all counts zero"
abbrev pub nothing_counted : Answer → Counted
nothing_counted a = record { answer = a; count = pos 0 }

abbrev pub counted : Verdict → ℤ → Counted
counted (Ok u) n = record { answer = no_refusal; count = n }
counted (Err a) n = nothing_counted a

-- "A point count checks the point by 3 and 4, then the solid by 1 to 6; there is one such call for the solid as A and one for the solid as B."
unfoldable pub count_as_A : Point → Solid → Counted
count_as_A v s = counted (in_order (point_admission v ∷ admission s ∷ [])) (in_A s v)

unfoldable pub count_as_B : Point → Solid → Counted
count_as_B v s = counted (in_order (point_admission v ∷ admission s ∷ [])) (in_B v s)

-- what each call promises of its answer r
abbrev pub CountAsA : Point → Solid → Counted → Type 0
CountAsA v s r = r ≡ count_as_A v s

abbrev pub CountAsB : Point → Solid → Counted → Type 0
CountAsB v s r = r ≡ count_as_B v s
