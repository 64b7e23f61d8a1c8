-- What a link gives can be written.
use Rattle.osi_class.proofs.Vocabulary.{AllByRecursion, Ends, Flow, octets_of, header_octets, Standing, Given, next_by, next, unit_of}
use Rattle.osi_class.proofs.Vocabulary.{IsSound, IsSoundFlow, HasGivenInRange, ◌≡◌, ℕ, ◌+◌, ◌<◌, ◌≤◌, length, Option, Some, arith, IfSome}
use Rattle.osi_class.proofs.Vocabulary.{length-drop, IsOctets, octets_take, octets_drop, written, Fits}
use Rattle.osi_class.proofs.between.parts_stay_in_order.{choose_some, at_some}
use Rattle.osi_class.proofs.giving.the_units_of_one_tsdu.{take_drop}

abbrev Ranges : Given × Standing → Type 0
Ranges (g, new) = HasGivenInRange g × AllByRecursion IsOctets new.ends.unsent

next_ranges : (e : Ends) (flow : Option Flow) → e.limit ≤ 8189 → IfSome flow IsSoundFlow → AllByRecursion IsOctets e.unsent →
    IfSome (next_by e flow) Ranges
next_ranges e flow most sound all = grind (arith, length-drop, take_drop, octets_take, octets_drop, choose_some)

given_ranges : (old new : Standing) (unit : Given) → IsSound old → AllByRecursion IsOctets old.ends.unsent → next old ≡ Some (unit, new) →
    Ranges (unit, new)
given_ranges old new unit sound all e = at_some Ranges (next old) (unit, new) (next_ranges old.ends old.flow sound.most sound.flow all) e

pub in_range : (old new : Standing) (unit : Given) → IsSound old → AllByRecursion IsOctets old.ends.unsent → next old ≡ Some (unit, new) →
    HasGivenInRange unit
in_range old new unit sound all e = (given_ranges old new unit sound all e).0

pub stays_octets : (old new : Standing) (unit : Given) → IsSound old → AllByRecursion IsOctets old.ends.unsent →
    next old ≡ Some (unit, new) →
    AllByRecursion IsOctets new.ends.unsent
stays_octets old new unit sound all e = (given_ranges old new unit sound all e).1

pub unit_fits : (destination : ℕ) (unit : Given) → destination < 65536 → HasGivenInRange unit → Fits (unit_of destination unit)
unit_fits destination unit below range = grind arith

pub unit_length : (destination : ℕ) (unit : Given) → length (written (unit_of destination unit)) ≡ header_octets unit + octets_of unit
unit_length destination unit = grind arith
