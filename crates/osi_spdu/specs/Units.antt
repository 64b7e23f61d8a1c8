-- The value of a unit in memory.
use Rattle.osi_spdu.specs.declared.units.Spdu.{Spdu}
use Rattle.osi_spdu.specs.Known.{Contents}
use Rattle.osi_spdu.specs.Params.{known_of}

abbrev pub said_by : Spdu → Contents
said_by u = record { kind = u.kind; known = known_of u.params; information = u.information.now }
