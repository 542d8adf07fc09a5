-- What a Slim is seen as.
use Rattle.std.specs.Prelude.{ℤ, Float}

-- a crossing's count, and y and z of its points on A and on B
pub record Slim : Type 0 where
  pub n : ℤ
  pub ay : Float
  pub by : Float
  pub az : Float
  pub bz : Float
