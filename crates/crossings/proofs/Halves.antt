-- What is worked out for a half-edge's edge, signed by whether the half-edge runs along it, is `half`.
use mathlib.Core.Path.{◌≡◌, refl, ap, ◌∙◌}
use mathlib.Core.Bool.{Bool, true, false, cond}
use Rattle.points.specs.declared.Point.{Point}
use Rattle.crossings.specs.declared.Edge.{Edge}
use Rattle.crossings.specs.declared.Crossing.{Crossing}
use Rattle.crossings.specs.Crossings.{against, half, edge_of}

signed_is : (g : Edge → Crossing) (w : Bool) (p q : Point) → cond w (g (edge_of w p q)) (against (g (edge_of w p q))) ≡ half g w p q
signed_is g true p q = refl
signed_is g false p q = refl

pub half_is : (g : Edge → Crossing) (w : Bool) (p q : Point) {c r : Crossing} {e : Edge} → e ≡ edge_of w p q → c ≡ g e → r ≡ cond w c (against c) → r ≡ half g w p q
half_is g w p q h i j = j ∙ ap (λ x. cond w x (against x)) (i ∙ ap g h) ∙ signed_is g w p q

pub half_against : (g : Edge → Crossing) (w : Bool) (p q : Point) → against (half g w p q) ≡ half (λ h. against (g h)) w p q
half_against g true p q = refl
half_against g false p q = refl

-- with a minus sign
pub half_less : (g : Edge → Crossing) (w : Bool) (p q : Point) {b c r : Crossing} {e : Edge} → e ≡ edge_of w p q → c ≡ g e → r ≡ cond w c (against c)
    → b ≡ against r → b ≡ half (λ h. against (g h)) w p q
half_less g w p q h i j k = k ∙ ap against (half_is g w p q h i j) ∙ half_against g w p q
