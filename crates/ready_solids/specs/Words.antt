-- An admitted solid, for contracts; no public statement needs it.
use Rattle.solids.specs.Solids.{Solid, lent}
use Rattle.solids.specs.declared.AdmittedSolid.{AdmittedSolid}

abbrev pub solid_of : AdmittedSolid → Solid
solid_of s = lent s.points s.corners
