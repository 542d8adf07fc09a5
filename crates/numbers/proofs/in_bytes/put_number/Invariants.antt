use mathlib.Core.Path.{◌≡◌}
use mathlib.Core.List.{◌++◌}
use Prim.Native.Nat.{◌-◌}
use lib.ListN.{length, take}
use Rattle.numbers.specs.Numbers.{bytes as bytes_of}
use Rattle.numbers.proofs.in_bytes.put_number.Given as goal

abbrev pub invariant-loop-byte : goal.invariant-loop-byte
invariant-loop-byte l =
    record {
      long : length l.byte-items ≡ l.n;
      put : take l.byte-index l.byte-items ++ bytes_of (l.n - l.byte-index) l.rest ≡ bytes_of l.n l.number;
    }
