-- The units of a packet that the iterator has still to give.
use Rattle.std.specs.Prelude.{◌≡◌, List, [], ◌∷◌, Option, Some, None}
use Rattle.osi_tpdu.specs.declared.packet.Units.{Units}
use Rattle.osi_tpdu.specs.declared.unit.Tpdu.{Tpdu}
use Rattle.osi_tpdu.specs.Value.{Value}
use Rattle.osi_tpdu.specs.View.{value}
use Rattle.osi_tpdu.specs.Writing.{Fits}
use Rattle.osi_tpdu.specs.Rest.{rest_at}

-- the units that are left
abbrev pub units_left : Units → List Value
units_left u = rest_at u.at u.rest.now

-- one call of `next` gives the first unit that is left, which can be written; or no unit was left
abbrev pub GivesUnit : Units → Option Tpdu → Units → Type 0
GivesUnit old (Some t) new = (units_left old ≡ value t ∷ units_left new) × Fits (value t)
GivesUnit old None new = (units_left old ≡ []) × (units_left new ≡ [])
