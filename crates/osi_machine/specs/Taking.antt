-- A unit that a side takes: whether it is acted on, and what it changes apart from the state of the side.
use Rattle.std.specs.Prelude.{ℕ, Bool, not, ◌&&◌, if◌then◌else◌, List, [], ◌∷◌, ◌++◌, is_none}
use Rattle.osi_machine.specs.Floor.{State, Meaning, AC, DT, GT, MIP, MAP, RS, RA, is_over, is_expected, si, conditions, first_fault, becomes, stands, drops}
use Rattle.osi_machine.specs.Histories.{Item, Octets, Point, minor_kind, major_point, cutat}
use Rattle.osi_machine.specs.Owners.{Owners, Own, passed_to, pooled}

-- a unit that is neither discarded nor a fault
abbrev pub is_acted_on : State → Meaning → Bool
is_acted_on s u = not (is_over s.phase)
    && (not (drops s u) && (is_expected s.phase u && is_none (first_fault (si u) (conditions s u))))

-- What the taker of a unit that is acted on has seen after it. Data and points are added, and a restart that takes
-- effect cuts off what comes after its point.
abbrev pub seen : State → Meaning → List Item → List Item
seen s (DT octets) v = if s.units.duplex then v else v ++ Octets octets ∷ []
seen s (MIP confirm n octets) v = v ++ Point n (minor_kind confirm) octets ∷ []
seen s (MAP n octets) v = v ++ Point n major_point octets ∷ []
seen s (RS kind n wishes octets) v = if stands s n then cutat s.base v n else v
seen s u v = v

-- with duplex, the data that is received
abbrev pub got_in : State → Meaning → List (List ℕ)
got_in s (DT octets) = if s.units.duplex then octets ∷ [] else []
got_in s u = []

-- the history after the unit
abbrev pub cut_by : State → Meaning → List Item → List Item
cut_by s (RS kind n wishes octets) h = if stands s n then cutat s.base h n else h
cut_by s u h = h

-- the owners after the unit
abbrev pub owners_after : State → Meaning → Owners → Owners
owners_after s (GT tokens) owner = passed_to Own tokens owner
owners_after s (AC version_2 requirements serial sides sizes octets) owner =
    passed_to Own (becomes s (AC version_2 requirements serial sides sizes octets)).held owner
owners_after s (RA n sides octets) owner = passed_to Own (becomes s (RA n sides octets)).held owner
owners_after s (RS kind n wishes octets) owner = if stands s n then pooled owner else owner
owners_after s u owner = owner
