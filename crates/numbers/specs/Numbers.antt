-- Document 01, "House file": numbers as bytes. "Numbers are low byte first." And the bits of a number, of which requests of document 02 speak.
use Rattle.std.specs.Prelude.{ℕ, zero, suc, ◌+◌, ◌*◌, ◌/◌, ◌%◌, ◌^◌, ◌<◌, Bool, List, [], ◌∷◌, take, drop, T, eqb, Float}
use Rattle.std.specs.Float.{binary64}
use Rattle.std.specs.Float.Ieee.{fits, of_bits, to_bits}

-- what a byte holds
abbrev pub Byte : ℕ → Type 0
Byte b = b < 256

-- what an f64 holds: both zeros, the subnormals, the infinities and the NaN among it
abbrev pub F64 : Float → Type 0
F64 x = T (fits binary64 x)

unfoldable pub number : List ℕ → ℕ
number [] = 0
number (b ∷ bs) = b + 256 * number bs

-- the number that stands in n bytes from place i on
unfoldable pub number_at : ℕ → ℕ → List ℕ → ℕ
number_at i n bs = number (take n (drop i bs))

-- "f64 bit patterns". A NaN's payload and sign are not kept: a blank is a blank
unfoldable pub float_at : ℕ → List ℕ → Float
float_at i bs = of_bits binary64 (number_at i 8 bs)

-- a number in n bytes
unfoldable pub bytes : ℕ → ℕ → List ℕ
bytes zero k = []
bytes (suc n) k = k % 256 ∷ bytes n (k / 256)

-- "Signs of zero are kept."
unfoldable pub float_bytes : Float → List ℕ
float_bytes x = bytes 8 (to_bits binary64 x)

-- is bit i set, the lowest being bit 0
unfoldable pub bit : ℕ → ℕ → Bool
bit i n = eqb (n / 2 ^ i % 2) 1
