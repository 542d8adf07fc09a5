-- Document 01, "The result": what an origin shows.
use Rattle.std.specs.Prelude.{ℕ, ◌+◌, ◌*◌, ◌-◌, ◌/◌, ◌≡◌, cond, List, length, take, drop, ltb}

-- a list of corners, or a part of one: where it stands, as a block of memory and the bytes before it there, and its numbers
pub record Part : Type 0 where
  pub block : ℕ
  pub before : ℕ
  pub numbers : List ℕ

abbrev pub standing : ℕ × ℕ → List ℕ → Part
standing at numbers = record { block = at.0; before = at.1; numbers = numbers }

-- of a list, n numbers from number i on, where they stand in it; a corner has 4 bytes
abbrev pub part : Part → ℕ → ℕ → Part
part l i n = record { block = l.block; before = 4 * i + l.before; numbers = take n (drop i l.numbers) }

abbrev pub facet_part : Part → ℕ → Part
facet_part l f = part l (3 * f) 3

abbrev pub empty_front : Part → Part
empty_front l = part l 0 0

-- "From an origin and the two corner lists, what is shown is the part of A's or of B's own corner list that holds that facet; an origin beyond both
-- (facet counts rounded down) shows the empty front of A's."
unfoldable pub shown : Part → Part → ℕ → Part
shown a b origin =
    let n = length a.numbers / 3 in
    cond (ltb origin n) (facet_part a origin) (cond (ltb (origin - n) (length b.numbers / 3)) (facet_part b (origin - n)) (empty_front a))

-- the call: what it hands back, of A's and B's lists
abbrev pub Shown : Part → Part → ℕ → Part → Type 0
Shown a b origin r = r ≡ shown a b origin
