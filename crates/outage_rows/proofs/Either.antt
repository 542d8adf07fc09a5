-- The value of a || b as code finds it: where its first part holds, and where it does not.
use mathlib.Core.Path.{◌≡◌, sym, ◌∙◌}
use mathlib.Core.Bool.{Bool, true, false, ◌||◌}

pub then_or : (v x a b : Bool) → v ≡ x → x ≡ true → x ≡ a → v ≡ a || b
then_or v x a b e t k = let z : a ≡ true = sym k ∙ t in e ∙ t ∙ rw z

pub else_or : (v x y a b : Bool) → v ≡ y → x ≡ false → x ≡ a → y ≡ b → v ≡ a || b
else_or v x y a b e t k l = let z : a ≡ false = sym k ∙ t in e ∙ l ∙ rw z
