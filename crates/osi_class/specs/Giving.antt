-- All that a link gives, one unit after the other, until it gives none.
use Rattle.std.specs.Prelude.{◌≡◌, ℕ, zero, suc, ◌+◌, ◌-◌, ◌*◌, ◌/◌, ◌<◌, ◌≤◌, nat_le, min, List, [], ◌∷◌, ◌++◌, length, take, drop, Option, Some, None}
use Rattle.std.specs.List.{sum_by}
use Rattle.osi_class.specs.Ends.{Ends}
use Rattle.osi_class.specs.Flow.{Flow}
use Rattle.osi_class.specs.declared.units.Slot.{Slot}
use Rattle.osi_class.specs.declared.units.Slot.TheVariants.{Data0, Data2}
use Rattle.osi_class.specs.Link.{Standing, Given, part0, part2, ack, part_under, next, with_tsdu}

-- how much is left to give: each octet and each TSDU that is to be sent, and each Ack that is due
abbrev pub left_of_tsdus : List (List ℕ) → ℕ
left_of_tsdus [] = 0
left_of_tsdus (tsdu ∷ more) = length tsdu + 1 + left_of_tsdus more

abbrev pub left_of_acks : Option Flow → ℕ
left_of_acks None = 0
left_of_acks (Some f) = f.receiver.waiting

abbrev pub left_to_give : Standing → ℕ
left_to_give s = left_of_tsdus s.ends.unsent + left_of_acks s.flow

-- `units`: what was given, in order; `link`: the link after it
pub record Drained : Type 0 where
  pub units : List Given
  pub link : Standing

-- the next unit, and then what the link after it gives; nothing if there is none
abbrev pub drained_by : Option (Given × Standing) → Standing → (Standing → Drained) → Drained
drained_by None s more = record { units = []; link = s }
drained_by (Some (unit, t)) s more = record { units = unit ∷ (more t).units; link = (more t).link }

-- at most this many units
abbrev pub drained_within : ℕ → Standing → Drained
drained_within zero s = record { units = []; link = s }
drained_within (suc n) s = drained_by (next s) s (drained_within n)

-- Each unit leaves less to give, so that there are no more than what is left to give.
unfoldable pub drained : Standing → Drained
drained s = drained_within (left_to_give s) s

abbrev pub all_given : Standing → List Given
all_given s = (drained s).units

abbrev pub octets_of : Given → ℕ
octets_of (part0 end octets) = length octets
octets_of (part2 number end octets) = length octets
octets_of (ack number credit) = 0

-- the octets of a unit before its data (X.224 section 13.7 and 13.9)
abbrev pub header_octets : Given → ℕ
header_octets (part0 end octets) = 3
header_octets (part2 number end octets) = 5
header_octets (ack number credit) = 5

-- the octets of TSDUs in units
abbrev pub octets_in : List Given → ℕ
octets_in [] = 0
octets_in (unit ∷ units) = octets_of unit + octets_in units

-- the number of parts into which a TSDU of this many octets is cut: an empty one is one part too
abbrev pub parts_needed : ℕ → ℕ → ℕ
parts_needed limit octets = (octets - 1) / limit + 1

-- the octets of TSDUs in parts, with this many octets of headers for each part
abbrev pub octets_in_parts : ℕ → ℕ → List (List ℕ) → ℕ
octets_in_parts headers limit tsdus = sum_by (λ tsdu. length tsdu + parts_needed limit (length tsdu) * headers) tsdus

-- the most octets of the units that a link gives, with this many octets of headers for each: in class 2 only the Acks
-- that are due and the parts for which there is credit
abbrev pub most_by : ℕ → Ends → Option Flow → ℕ
most_by headers e None = octets_in_parts headers e.limit e.unsent
most_by headers e (Some f) =
    f.receiver.waiting * headers + min (octets_in_parts headers e.limit e.unsent) (f.sender.credit * (e.limit + headers))

abbrev pub most_given : ℕ → Standing → ℕ
most_given headers s = most_by headers s.ends s.flow

-- what is given for TSDUs that are queued one after the other, each after everything was given for the one before
abbrev pub given_one_by_one : Standing → List (List ℕ) → List Given
given_one_by_one s [] = []
given_one_by_one s (tsdu ∷ tsdus) = all_given (with_tsdu s tsdu) ++ given_one_by_one (drained (with_tsdu s tsdu)).link tsdus

-- and the link after that
abbrev pub one_by_one : Standing → List (List ℕ) → Standing
one_by_one s [] = s
one_by_one s (tsdu ∷ tsdus) = one_by_one (drained (with_tsdu s tsdu)).link tsdus

-- in how many units TSDUs go
abbrev pub units_needed : ℕ → List (List ℕ) → ℕ
units_needed limit tsdus = sum_by (λ tsdu. parts_needed limit (length tsdu)) tsdus

-- In class 0 any number of units may be sent at any time; in class 2 if no Ack is due and there is credit for all of them.
abbrev pub MayGoAll : ℕ → Option Flow → Type 0
MayGoAll units None = Unit {0}
MayGoAll units (Some f) = (f.receiver.waiting ≡ 0) × (units ≤ f.sender.credit)

-- all units of TSDUs that are handed in now may be given at once: nothing is to be sent before them
pub record AllGoAtOnce (s : Standing) (tsdus : List (List ℕ)) : Type 0 where
  pub alone : s.ends.unsent ≡ []
  pub may : MayGoAll (units_needed s.ends.limit tsdus) s.flow

-- a TSDU is given whole, and then all units of others may be given
pub record GoesWhole (s : Standing) (tsdu : List ℕ) (more : List (List ℕ)) : Type 0 where
  pub octets : octets_in (all_given (with_tsdu s tsdu)) ≡ length tsdu
  pub others : AllGoAtOnce (drained (with_tsdu s tsdu)).link more

-- In class 0 data may be sent at any time; in class 2 if no Ack is due and there is credit.
abbrev pub MayGo : Option Flow → Type 0
MayGo None = Unit {0}
MayGo (Some f) = (f.receiver.waiting ≡ 0) × (0 < f.sender.credit)

-- a part of a TSDU that is handed in now may be given at once: nothing is to be sent before it
pub record GoesAtOnce (s : Standing) : Type 0 where
  pub alone : s.ends.unsent ≡ []
  pub may : MayGo s.flow

-- what is left of a TSDU is queued after what is to be sent, if anything is left
abbrev pub with_rest : Standing → List ℕ → Standing
with_rest s [] = s
with_rest s (octet ∷ rest) = with_tsdu s (octet ∷ rest)

-- A TSDU that was queued after the others would be given next, and this unit has its first part: as much as a unit
-- carries, or all of it. The link does not keep what is left.
pub record GivesPart (unit : Given) (tsdu : List ℕ) (old new : Standing) : Type 0 where
  pub gives : next (with_tsdu old tsdu) ≡ Some (unit, with_rest new (drop (octets_of unit) tsdu))
  pub last : next new ≡ None
  pub octets : octets_of unit ≡ min old.ends.limit (length tsdu)

-- the number of a data unit, in class 2 alone
abbrev pub number_in : Slot → Option ℕ
number_in Data0 = None
number_in (Data2 number) = Some number

abbrev pub IsNumbered : Slot → Type 0
IsNumbered Data0 = Unit {0}
IsNumbered (Data2 number) = number < 128

-- the unit with the first part of a TSDU: as much as a unit carries, or all of it, and then it ends the TSDU
abbrev pub first_in : Slot → (limit : ℕ) → List ℕ → Given
first_in slot limit tsdu = part_under (number_in slot) (nat_le (length tsdu) limit) (take (min limit (length tsdu)) tsdu)

-- the first part of any TSDU is sent in this way
abbrev pub GivesSlot : Slot → Standing → Standing → Type 0
GivesSlot slot old new = (tsdu : List ℕ) → GivesPart (first_in slot old.ends.limit tsdu) tsdu old new
