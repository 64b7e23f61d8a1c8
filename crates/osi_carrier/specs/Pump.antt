-- The units that a link gives at once: everything that may be sent now.
use Rattle.std.specs.Prelude.{◌≡◌, ℕ, Bool, true, false, List, drop, map}
use Rattle.osi_tpdu.specs.Value.{Value}
use Rattle.osi_class.specs.Giving.{drained, all_given, given_one_by_one, octets_in}
use Rattle.osi_class.specs.Link.{Standing, unit_of, with_tsdu}

-- the units that are written, with the peer's reference
abbrev pub written_by : ℕ → Standing → List Value
written_by peer link = map (unit_of peer) (all_given link)

-- the units that are written for TSDUs, each handed in after all units for the one before
abbrev pub written_for : ℕ → Standing → List (List ℕ) → List Value
written_for peer link tsdus = map (unit_of peer) (given_one_by_one link tsdus)

-- the link after that
abbrev pub pumped : Standing → Standing
pumped link = (drained link).link

-- what is left of a TSDU that is handed in now, after all units that the link then gives
abbrev pub left_of : Standing → List ℕ → List ℕ
left_of link tsdu = drop (octets_in (all_given (with_tsdu link tsdu))) tsdu

-- The units of a TSDU that may be sent now were sent, and the link keeps nothing of it. If these were not all units of
-- the TSDU, what is left of it is still to be handed in.
abbrev pub LeavesRest : Bool → Standing → List ℕ → Standing → Type 0
LeavesRest true old tsdu new = new ≡ pumped (with_tsdu old tsdu)
LeavesRest false old tsdu new = with_tsdu new (left_of old tsdu) ≡ pumped (with_tsdu old tsdu)
