-- A solid whose edges are listed, for who reads it.
use Rattle.solids.specs.Solids.{Solid, lent}
use Rattle.edges.specs.declared.ReadySolid.{ReadySolid}

abbrev pub solid_of : ReadySolid → Solid
solid_of s = lent s.points s.corners
