-- What is in flight for a connection from one carrier to the other, read as whole messages.
use Rattle.std.specs.Prelude.{◌≡◌, ℕ, zero, suc, true, false, List, [], ◌∷◌, ◌++◌, map, Option, Some, None}
use Rattle.osi_tpdu.specs.Value.{Value, request, confirm, disconnect, disconnected, data0, data2, acknowledge, error}
use Rattle.osi_carrier.specs.State.{Connection, asked, linked, closing}

-- a CR; a CC; a DR that refuses, with its reason; a TSDU; a DR that closes, with its reason; a DC
pub data Message : Type 0 where
  ask : Message
  agree : Message
  deny : ℕ → Message
  message : List ℕ → Message
  bye : ℕ → Message
  over : Message

-- a DR: one that refuses has no reference of the sending end
abbrev pub parting : ℕ → ℕ → Message
parting zero reason = deny reason
parting (suc source) reason = bye reason

-- the messages that units make, if the first part of a TSDU continues what was begun; a TSDU without its end makes none
abbrev pub messages_after : List ℕ → List Value → List Message
messages_after begun [] = []
messages_after begun (request c ∷ units) = ask ∷ messages_after [] units
messages_after begun (confirm destination c ∷ units) = agree ∷ messages_after [] units
messages_after begun (disconnect destination source reason user ∷ units) = parting source reason ∷ messages_after [] units
messages_after begun (disconnected destination source ∷ units) = over ∷ messages_after [] units
messages_after begun (data0 false octets ∷ units) = messages_after (begun ++ octets) units
messages_after begun (data0 true octets ∷ units) = message (begun ++ octets) ∷ messages_after [] units
messages_after begun (data2 destination number false octets ∷ units) = messages_after (begun ++ octets) units
messages_after begun (data2 destination number true octets ∷ units) = message (begun ++ octets) ∷ messages_after [] units
messages_after begun (acknowledge credit destination number ∷ units) = messages_after begun units
messages_after begun (error destination cause ∷ units) = messages_after begun units

-- TSDUs that are still to be cut into units
abbrev pub uncut_units : List (List ℕ) → List Value
uncut_units unsent = map (λ tsdu. data0 true tsdu) unsent

-- the TSDUs that a connection has still to send
abbrev pub unsent_at : Option Connection → List (List ℕ)
unsent_at None = []
unsent_at (Some asked) = []
unsent_at (Some (linked peer link)) = link.ends.unsent
unsent_at (Some (closing peer)) = []

-- the octets of the TSDU that a connection has received in part
abbrev pub begun_at : Option Connection → List ℕ
begun_at None = []
begun_at (Some asked) = []
begun_at (Some (linked peer link)) = link.ends.joining.begun
begun_at (Some (closing peer)) = []

-- what is in flight, by the connection at the sending end, the units in flight, and the connection at the receiving end
abbrev pub messages_to : Option Connection → List Value → Option Connection → List Message
messages_to sender units taker = messages_after (begun_at taker) (units ++ uncut_units (unsent_at sender))

-- a TSDU with these octets before its own
abbrev pub led_by : List ℕ → Message → Message
led_by octets (message rest) = message (octets ++ rest)
led_by octets m = m

abbrev pub first_led_by : List ℕ → List Message → List Message
first_led_by octets [] = []
first_led_by octets (m ∷ ms) = led_by octets m ∷ ms

-- The same messages, whole and in order, except that the first of `others`, if it is a TSDU, may lack octets at its
-- beginning.
pub record MayLackABeginning (some others : List Message) : Type 0 where
  pub lacking : List ℕ
  pub is : some ≡ first_led_by lacking others

-- The same messages. A receiver that is closing has dropped what it had of a TSDU, and drops what still arrives of it;
-- so the first message in flight may be only the rest of a TSDU.
abbrev pub AreLike : Option Connection → List Message → List Message → Type 0
AreLike None some others = some ≡ others
AreLike (Some asked) some others = some ≡ others
AreLike (Some (linked peer link)) some others = some ≡ others
AreLike (Some (closing peer)) some others = MayLackABeginning some others
