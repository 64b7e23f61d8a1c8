-- The state of a link, and the results and effects of its calls.
use Rattle.std.specs.Prelude.{◌≡◌, ℕ, ◌-◌, ◌<◌, ◌≤◌, Bool, true, false, ◌||◌, List, [], ◌∷◌, ◌++◌, length, nat_lt, Option, Some, None, Result, Ok, Err, if◌then◌else◌}
use Rattle.osi_tpdu.specs.Value.{Value, data0, data2, acknowledge}
use Rattle.osi_class.specs.declared.faults.LinkFault.{LinkFault}
use Rattle.osi_class.specs.declared.faults.LinkFault.TheVariants.{WrongForm, OutOfSequence}
use Rattle.osi_class.specs.declared.units.Out.{Out}
use Rattle.osi_class.specs.declared.units.Out.TheVariants.{Data0, Data2, Ack}
use Rattle.osi_class.specs.Ends.{Ends, fresh_ends}
use Rattle.osi_class.specs.Flow.{Flow, Sender, fresh_sender, fresh_receiver, after_sent, acknowledged, is_awaited, after_taken, ack_number, after_acked}
use Rattle.osi_class.specs.Joining.{Joining, joined, before_handing}
use Rattle.osi_class.specs.Tsdus.{give, octets_of_tsdus}

-- class 0 has no flow control
pub record Standing : Type 0 where
  pub ends : Ends
  pub flow : Option Flow

abbrev pub zero_standing : Ends → Standing
zero_standing ends = record { ends = ends; flow = None }

abbrev pub two_standing : Ends → Flow → Standing
two_standing ends flow = record { ends = ends; flow = Some flow }

-- the state of a link of class 2
pub record Two : Type 0 where
  pub ends : Ends
  pub flow : Flow

abbrev pub fresh_two : ℕ → ℕ → ℕ → Two
fresh_two unit_size window credit = record {
  ends = fresh_ends (unit_size - 5);
  flow = record { sender = fresh_sender credit; receiver = fresh_receiver window };
}

-- the octets of TSDUs that were handed in and are not yet in units
abbrev pub unsent_octets : Standing → ℕ
unsent_octets s = octets_of_tsdus s.ends.unsent

-- a TSDU is added to those to be sent
abbrev pub with_tsdu : Standing → List ℕ → Standing
with_tsdu s tsdu = record s { ends = record s.ends { unsent = s.ends.unsent ++ tsdu ∷ [] } }

-- TSDUs are added together, in order
abbrev pub with_tsdus : Standing → List (List ℕ) → Standing
with_tsdus s tsdus = record s { ends = record s.ends { unsent = s.ends.unsent ++ tsdus } }

-- a DT of class 0: EOT, octets; a DT of class 2: number, EOT, octets; an AK: number, credit
pub data Given : Type 0 where
  part0 : Bool → List ℕ → Given
  part2 : ℕ → Bool → List ℕ → Given
  ack : ℕ → ℕ → Given

abbrev pub given : Out → Given
given (Data0 end octets) = part0 end octets.now
given (Data2 number end octets) = part2 number end octets.now
given (Ack number credit) = ack number credit

-- the octets fit a unit of 8,192, and the numbers are in the range of their fields
abbrev pub FitsAUnit : Out → Type 0
FitsAUnit (Data0 end octets) = length octets.now ≤ 8189
FitsAUnit (Data2 number end octets) = (number < 128) × (length octets.now ≤ 8189)
FitsAUnit (Ack number credit) = (number < 128) × (credit < 16)

-- only units of class 2 have numbers
abbrev pub is_of_two : Given → Bool
is_of_two (part0 end octets) = false
is_of_two (part2 number end octets) = true
is_of_two (ack number credit) = true

-- the unit of its class for the connection with the receiver's reference; a DT of class 0 names none
abbrev pub unit_of : ℕ → Given → Value
unit_of destination (part0 end octets) = data0 end octets
unit_of destination (part2 number end octets) = data2 destination number end octets
unit_of destination (ack number credit) = acknowledge credit destination number

-- what a unit means to the link of its connection
abbrev pub given_in : Value → List Given
given_in (data0 end octets) = part0 end octets ∷ []
given_in (data2 destination number end octets) = part2 number end octets ∷ []
given_in (acknowledge credit destination number) = ack number credit ∷ []
given_in unit = []

-- a part as a unit: without a number in class 0, with this one in class 2
abbrev pub part_under : Option ℕ → Bool → List ℕ → Given
part_under None end octets = part0 end octets
part_under (Some number) end octets = part2 number end octets

-- the next part under this number, and the link after it, with this flow
abbrev pub given_part : Ends → Option Flow → Option ℕ → Option ((Bool × List ℕ) × List (List ℕ)) → Option (Given × Standing)
given_part e flow number None = None
given_part e flow number (Some ((end, octets), unsent)) =
    Some (part_under number end octets, record { ends = record e { unsent = unsent }; flow = flow })

abbrev pub sent_flow : Flow → Flow
sent_flow f = record f { sender = after_sent f.sender }

-- The next unit to be given, and the link after it. In class 2 Acks come first, each with the whole window as its
-- credit, and data only if there is credit.
abbrev pub next_by : Ends → Option Flow → Option (Given × Standing)
next_by e None = given_part e None None (give e.limit e.unsent)
next_by e (Some f) =
    if nat_lt 0 f.receiver.waiting
    then Some (ack (ack_number f.receiver) f.receiver.window, two_standing e (record f { receiver = after_acked f.receiver }))
    else (if nat_lt 0 f.sender.credit then given_part e (Some (sent_flow f)) (Some f.sender.next) (give e.limit e.unsent)
    else None)

abbrev pub next : Standing → Option (Given × Standing)
next s = next_by s.ends s.flow

-- none exactly if the definitions give none
abbrev pub Gives : Option Out → Option (Given × Standing) → Standing → Standing → Type 0
Gives None next old new = (next ≡ None) × (new ≡ old)
Gives (Some out) next old new = next ≡ Some (given out, new)

-- the link after a part was joined to its TSDU, with this flow
abbrev pub with_joined : Ends → Option Flow → Result Joining LinkFault → Result Standing LinkFault
with_joined e flow (Err fault) = Err fault
with_joined e flow (Ok joining) = Ok (record { ends = record e { joining = joining }; flow = flow })

abbrev pub with_sender : Ends → Flow → Result Sender LinkFault → Result Standing LinkFault
with_sender e f (Err fault) = Err fault
with_sender e f (Ok sender) = Ok (two_standing e (record f { sender = sender }))

abbrev pub taken_flow : Flow → Flow
taken_flow f = record f { receiver = after_taken f.receiver }

-- The effect of a unit on a link. In class 0 a DT is joined to its TSDU. In class 2 so is an expected DT, and an AK
-- moves the sender's window. Any other unit has the wrong form.
abbrev pub taken_by : Ends → Option Flow → Value → Result Standing LinkFault
taken_by e None (data0 end octets) = with_joined e None (joined e.joining end octets)
taken_by e (Some f) (data2 destination number end octets) =
    if is_awaited f.receiver number then with_joined e (Some (taken_flow f)) (joined e.joining end octets)
    else Err OutOfSequence
taken_by e (Some f) (acknowledge credit destination number) = with_sender e f (acknowledged f.sender number credit)
taken_by e flow unit = Err WrongForm

abbrev pub taken : Standing → Value → Result Standing LinkFault
taken s unit = taken_by s.ends s.flow unit

-- memory is needed for the octets of a part, and for the queue place of a TSDU that it ends
abbrev pub part_needs_memory : Bool → List ℕ → Bool
part_needs_memory end octets = end || nat_lt 0 (length octets)

abbrev pub needs_memory : Value → Bool
needs_memory (data0 end octets) = part_needs_memory end octets
needs_memory (data2 destination number end octets) = part_needs_memory end octets
needs_memory unit = false

-- the first complete TSDU is handed out; none exactly if there is none
abbrev pub Hands : Option (List ℕ) → Standing → Standing → Type 0
Hands None old new = (old.ends.joining.whole ≡ []) × (new ≡ old)
Hands (Some tsdu) old new =
    old ≡ record new { ends = record new.ends { joining = record new.ends.joining { whole = tsdu ∷ new.ends.joining.whole } } }

-- the link before its first complete TSDU, if there is one, was handed out
abbrev pub with_handed : Option (List ℕ) → Standing → Standing
with_handed tsdu s = record s { ends = record s.ends { joining = before_handing tsdu s.ends.joining } }
