-- A unit that is in range and has room is written as a spelling of it, which reads back as the unit.
use Rattle.osi_tpdu.proofs.Vocabulary.{Tpdu, HasFieldsInRange, Spells, written, HasRoom, units_of, value, arith, ◌≡◌, [], ◌∷◌, Ok}
use Rattle.osi_tpdu.proofs.the_written_form_spells_its_value.{written_spells}
use Rattle.osi_tpdu.proofs.the_units_of_a_packet.{units_only}

pub unit_spelled : (u t : Tpdu) → u ≡ t → HasFieldsInRange (value t) → HasRoom (value u) → Spells (value u) (written (value u))
unit_spelled u t is range room = grind (arith, written_spells)

pub unit_read : (u t : Tpdu) → u ≡ t → HasFieldsInRange (value t) → HasRoom (value u) → units_of (written (value u)) ≡ Ok (value u ∷ [])
unit_read u t is range room = units_only (written (value u)) (value u ∷ []) (unit_spelled u t is range room)
