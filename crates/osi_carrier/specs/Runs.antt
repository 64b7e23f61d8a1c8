-- Runs of calls of one carrier, and what they did with the octets that it was fed.
use Rattle.std.specs.Prelude.{◌≡◌, ℕ, ◌+◌, ◌-◌, ◌<◌, ◌^◌, List, [], ◌∷◌, ◌++◌, length, take, Option, option_to_list}
use Rattle.std.specs.List.{flat_map}
use Rattle.osi_tpkt.specs.Packet.{IsPartial}
use Rattle.osi_tpkt.specs.Stream.{ArePackets, offset_of}
use Rattle.osi_tpkt.specs.declared.cutting.Fed.{Fed}
use Rattle.osi_tpdu.specs.Value.{Value}
use Rattle.osi_carrier.specs.Calls.{asks, sent, sent_all, closed_with, ended_by, open_link, put_asking, put_closing, put_sent, put_together, Tells}
use Rattle.osi_carrier.specs.Happenings.{Happening}
use Rattle.osi_carrier.specs.Packets.{Carrying, Feeds, after_packet}
use Rattle.osi_carrier.specs.State.{State}
use Rattle.osi_carrier.specs.declared.ends.EndReason.{EndReason}

-- ---- what has an effect on a carrier

-- what its user does: it requests a connection with these selectors, sends one or several TSDUs on one, closes one for
-- a reason, or ends the carrier
pub data UserCall : Type 0 where
  connects : Option (List ℕ) → Option (List ℕ) → UserCall
  sends : ℕ → List ℕ → UserCall
  sends_all : ℕ → List (List ℕ) → UserCall
  closes : ℕ → ℕ → UserCall
  breaks : EndReason → UserCall

-- a packet with this transport unit arrived, or the user made a call
pub data Act : Type 0 where
  packet : List ℕ → Act
  user : UserCall → Act

abbrev pub user_does : UserCall → State → State
user_does (connects calling called) s = asks calling called s
user_does (sends r octets) s = sent r octets s
user_does (sends_all r tsdus) s = sent_all r tsdus s
user_does (closes r reason) s = closed_with r reason s
user_does (breaks reason) s = ended_by reason s

-- the units that are put by that
abbrev pub put_by : UserCall → State → List Value
put_by (connects calling called) s = put_asking calling called s
put_by (sends r octets) s = put_sent octets (open_link r s)
put_by (sends_all r tsdus) s = put_together r tsdus s
put_by (closes r reason) s = put_closing r reason (open_link r s) s.class
put_by (breaks reason) s = []

abbrev pub does : Act → State → State
does (packet unit) s = after_packet s unit
does (user call) s = user_does call s

abbrev pub all_done : List Act → State → State
all_done [] s = s
all_done (act ∷ acts) s = all_done acts (does act s)

abbrev pub packet_in : Act → List (List ℕ)
packet_in (packet unit) = unit ∷ []
packet_in (user call) = []

abbrev pub call_in : Act → List UserCall
call_in (packet unit) = []
call_in (user call) = call ∷ []

-- ---- calls

-- a call, with its argument and its result
pub data Call : Type 0 where
  feeding : List ℕ → Fed → Call
  telling : Option Happening → Call
  -- these octets were sent to the peer
  carrying : List ℕ → Call
  -- the user's call was accepted
  calling : UserCall → Call

abbrev pub Calls : Carrying → Call → Carrying → Type 0
Calls old (feeding piece fed) new = Feeds old piece fed new
Calls old (telling event) new = Tells event old.state new.state × (new.held ≡ old.held)
Calls old (carrying octets) new = old ≡ record new { state = record new.state { outgoing = octets ++ new.state.outgoing } }
Calls old (calling call) new = new ≡ record old { state = user_does call old.state }

-- calls one after the other
abbrev pub CallsAlong : Carrying → List Call → Carrying → Type 0
CallsAlong old [] new = new ≡ old
CallsAlong old (call ∷ calls) new = (mid : Carrying) × Calls old call mid × CallsAlong mid calls new

-- the octets of a piece that were used
abbrev pub used_in : Call → List ℕ
used_in (feeding piece fed) = take fed.used piece
used_in (telling event) = []
used_in (carrying octets) = []
used_in (calling call) = []

abbrev pub told_in : Call → List Happening
told_in (feeding piece fed) = []
told_in (telling event) = option_to_list event
told_in (carrying octets) = []
told_in (calling call) = []

abbrev pub carried_in : Call → List ℕ
carried_in (feeding piece fed) = []
carried_in (telling event) = []
carried_in (carrying octets) = octets
carried_in (calling call) = []

abbrev pub called_in : Call → List UserCall
called_in (feeding piece fed) = []
called_in (telling event) = []
called_in (carrying octets) = []
called_in (calling call) = call ∷ []

-- ---- what calls did

-- the events that were reported and the octets that were sent, put back in front
abbrev pub put_back : List Happening → List ℕ → State → State
put_back told carried s = record s { events = told ++ s.events; outgoing = carried ++ s.outgoing }

-- The packets of the octets held and of those used took effect, each whole and in order, with the calls of the user
-- between them, and nothing else; the octets after the last packet are held.
pub record Reads (old : Carrying) (calls : List Call) (new : Carrying) : Type 0 where
  pub acts : List Act
  pub called : flat_map call_in acts ≡ flat_map called_in calls
  pub packets : ArePackets (flat_map packet_in acts) (old.held.octets ++ flat_map used_in calls) new.held.octets
  pub state : put_back (flat_map told_in calls) (flat_map carried_in calls) new.state ≡ all_done acts old.state
  pub partial : IsPartial old.held.octets → IsPartial new.held.octets
  pub offset : old.held.offset < 2 ^ 64 → new.held.offset ≡ offset_of (old.held.offset + (length (old.held.octets ++ flat_map used_in calls) - length new.held.octets))

-- two carriers that did the same, each with what it reported and sent
pub record AreAlike (a : Carrying) (xs : List Call) (b : Carrying) (ys : List Call) : Type 0 where
  pub octets : a.held.octets ≡ b.held.octets
  pub offset : a.held.offset ≡ b.held.offset
  pub state : put_back (flat_map told_in xs) (flat_map carried_in xs) a.state ≡ put_back (flat_map told_in ys) (flat_map carried_in ys) b.state

-- two carriers that ended in the same way, and hold nothing
pub record EndAlike (a : Carrying) (xs : List Call) (b : Carrying) (ys : List Call) : Type 0 where
  pub octets : a.held.octets ≡ []
  pub octets_too : b.held.octets ≡ []
  pub state : put_back (flat_map told_in xs) (flat_map carried_in xs) a.state ≡ put_back (flat_map told_in ys) (flat_map carried_in ys) b.state
