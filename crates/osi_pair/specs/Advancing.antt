-- The effect of an event on two ends that match a list of steps of the machine.
use Rattle.std.specs.Prelude.{List, [], ◌∷◌, ◌++◌}
use Rattle.osi_unit.specs.Octets.{IsOctets}
use Rattle.osi_machine.specs.Machine.{Step, connects, calls}
use Rattle.osi_session.specs.Allowed.{octets_of}
use Rattle.osi_session.specs.Calls.{HasSerial, called_by}
use Rattle.osi_pair.specs.Asked.{asked_of, CanBeAsked}
use Rattle.osi_pair.specs.Ends.{TwoEnds, end_at}
use Rattle.osi_pair.specs.Sides.{other}
use Rattle.osi_pair.specs.Standing.{side_in, offer_in, StandsAt, StandsAtArrivals, StandsAtBreak, StandsAtTold}
use Rattle.osi_pair.specs.declared.events.Event.{Event}
use Rattle.osi_pair.specs.declared.events.Event.TheVariants.{Connect, Call, Carry, Break, Told}

-- requests in memory consist of octets, and of numbers that a point may have
abbrev pub CanHappen : Event → Type 0
CanHappen (Connect asked) = CanBeAsked asked
CanHappen (Call side reference request) = HasSerial (called_by request) × IsOctets (octets_of (called_by request))
CanHappen event = Unit {0}

-- If the old ends matched these steps, the new ones match these followed by the steps of the event. For octets that are
-- carried, these are the deliveries of what arrives at the other side, and perhaps its end because memory runs out.
abbrev pub StandsAfter : Event → TwoEnds → TwoEnds → List Step → Type 0
StandsAfter (Connect asked) old new steps = StandsAt new (steps ++ connects (offer_in (asked_of asked)) ∷ [])
StandsAfter (Call side reference request) old new steps = StandsAt new (steps ++ calls (side_in side) reference.0 (called_by request) ∷ [])
StandsAfter (Carry side most) old new steps = StandsAtArrivals (other side) new steps
StandsAfter (Break left right) old new steps = StandsAtBreak new steps
StandsAfter (Told side) old new steps = StandsAtTold (end_at side old).end.carrier.ended side new steps
