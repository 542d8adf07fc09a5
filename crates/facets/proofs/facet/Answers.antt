-- `facet` meets its contract: its corners' points, and how its corner numbers follow each other.
use Prim.Native.Nat.{◌*◌}
use native.Mathlib.Nat.{add-zero}
use Rattle.facets.proofs.facet.Goals as goal

pub returns : goal.returns
returns c = rw (add-zero (3 * c.args.f), c.corner.ensures, c.corner-2.ensures, c.corner-3.ensures)
