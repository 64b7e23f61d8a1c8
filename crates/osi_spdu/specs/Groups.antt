-- The values of the units of a TSDU in memory.
use Rattle.std.specs.Prelude.{◌≡◌, [], ◌∷◌, Option, Some, None}
use Rattle.osi_spdu.specs.declared.behind.Behind.{Behind}
use Rattle.osi_spdu.specs.declared.groups.Group.{Group}
use Rattle.osi_spdu.specs.declared.units.Spdu.{Spdu}
use Rattle.osi_spdu.specs.Known.{Contents, Units}
use Rattle.osi_spdu.specs.Units.{said_by}
use Rattle.osi_spdu.specs.Behind.{left_at}

abbrev pub units_from : Option Spdu → Units → Units
units_from None others = []
units_from (Some unit) others = said_by unit ∷ others

-- the units that the iterator has still to give
abbrev pub units_behind : Behind → Units
units_behind b = units_from b.next (left_at b.room b.at b.rest.now)

-- one call of `next` gives the first remaining unit, or no unit remains
abbrev pub GivesBehind : Behind → Option Spdu → Behind → Type 0
GivesBehind old (Some unit) new = units_behind old ≡ said_by unit ∷ units_behind new
GivesBehind old None new = (units_behind old ≡ []) × (units_behind new ≡ [])

abbrev pub first_of : Group → Contents
first_of g = said_by g.first

abbrev pub behind_of : Group → Units
behind_of g = units_behind g.behind

-- the units of a TSDU, in their order: the first, and those after it
abbrev pub units_of : Group → Units
units_of g = first_of g ∷ behind_of g
