-- Units that were found, as a reader returns them.
use Rattle.osi_spdu.specs.declared.reading.Found.{Found}
use Rattle.osi_spdu.specs.declared.reading.Later.{Later}
use Rattle.osi_spdu.specs.declared.params.Params.{Params}
use Rattle.osi_spdu.specs.Params.{known_of}
use Rattle.osi_spdu.specs.Reading.{Placed, Next}
use Rattle.osi_spdu.specs.Units.{said_by}

abbrev pub placed_of : Params → Found → Placed
placed_of params f = record { kind = f.kind; known = known_of params; end = f.end; rest = f.rest.now }

abbrev pub later_of : Later → Next
later_of l = record { unit = said_by l.unit; end = l.end; rest = l.rest.now }
