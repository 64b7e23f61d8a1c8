-- What the session of a side sends on a connection, and what it receives, unit by unit.
use Rattle.std.specs.Prelude.{◌≡◌, ℕ, Bool, true, false, not, ◌&&◌, ◌==◌, if◌then◌else◌, List, [], ◌∷◌, ◌++◌, Option, Some, None, is_some}
use Rattle.osi_session.specs.Moves.{called, taken, opened, Standing, react}
use Rattle.osi_message.specs.Sendable.{said_of}
use Rattle.osi_machine.specs.Floor.{Call, Meaning}
use Rattle.osi_machine.specs.Histories.{Begins}
use Rattle.osi_machine.specs.Core.{Side, Left, Right}
use Rattle.osi_machine.specs.Worlds.{Message, unit, agree, Transport, waiting, linked, closing, gone, Terms}
use Rattle.osi_machine.specs.Machine.{Step, calls, delivers, connection_at, is_given}
use Rattle.osi_machine.specs.Tables.{Line, Tables, start, side_of, end_of, step, run}
use Rattle.osi_machine.specs.Views.{is_side}

abbrev pub one_or_none : Option Meaning → List Meaning
one_or_none None = []
one_or_none (Some u) = u ∷ []

-- ---- one message, or one call

-- What a session sends in answer to a message, by its transport connection: once there is one, its CN, and then its
-- answer to a unit. Nothing else makes it send.
abbrev pub said_to : Transport → Standing → Message → List Meaning
said_to waiting s agree = one_or_none (react s opened).reply
said_to linked s (unit u) = one_or_none (react s (taken (said_of u))).reply
said_to transport s m = []

-- a unit is received if there is a transport connection
abbrev pub heard_of : Transport → Message → List Meaning
heard_of linked (unit u) = u ∷ []
heard_of transport m = []

-- the answer to the first message in flight to a side
abbrev pub said_to_first : Line → List Message → List Meaning
said_to_first l [] = []
said_to_first l (m ∷ ms) = said_to l.own.transport l.own.session m

abbrev pub heard_of_first : Line → List Message → List Meaning
heard_of_first l [] = []
heard_of_first l (m ∷ ms) = heard_of l.own.transport m

abbrev pub said_at_delivery : Option Line → List Meaning
said_at_delivery None = []
said_at_delivery (Some l) = said_to_first l l.peer.channel

abbrev pub heard_at_delivery : Option Line → List Meaning
heard_at_delivery None = []
heard_at_delivery (Some l) = heard_of_first l l.peer.channel

-- a call that is accepted sends its unit
abbrev pub said_at_call : Call → Option Line → List Meaning
said_at_call c None = []
said_at_call c (Some l) = if is_given l.own.transport then one_or_none (react l.own.session (called c)).reply else []

-- ---- a step, and a list of steps

abbrev pub is_at : Side → ℕ → Side → ℕ → Bool
is_at side r s q = is_side side s && (q == r)

-- what the session of a side sends on the connection with a reference, and what it receives; a side that has ended
-- takes nothing
abbrev pub said_at : Side → ℕ → Tables → Step → List Meaning
said_at side r t (calls s q c) = if is_at side r s q then said_at_call c (side_of side (connection_at r t.lines)) else []
said_at side r t (delivers s q keep) =
    if is_at side r s q && not (is_some (end_of side t)) then said_at_delivery (side_of side (connection_at r t.lines)) else []
said_at side r t step = []

abbrev pub heard_at : Side → ℕ → Tables → Step → List Meaning
heard_at side r t (delivers s q keep) =
    if is_at side r s q && not (is_some (end_of side t)) then heard_at_delivery (side_of side (connection_at r t.lines)) else []
heard_at side r t step = []

-- all of it, in order
abbrev pub said_in : Side → ℕ → Tables → List Step → List Meaning
said_in side r t [] = []
said_in side r t (s ∷ steps) = said_at side r t s ++ said_in side r (step t s) steps

abbrev pub heard_in : Side → ℕ → Tables → List Step → List Meaning
heard_in side r t [] = []
heard_in side r t (s ∷ steps) = heard_at side r t s ++ heard_in side r (step t s) steps

-- ---- what was sent, and what of it was received

abbrev pub other_side : Side → Side
other_side Left = Right
other_side Right = Left

-- the units among messages
abbrev pub units_in : List Message → List Meaning
units_in [] = []
units_in (unit u ∷ ms) = u ∷ units_in ms
units_in (m ∷ ms) = units_in ms

-- the transport connection is closing, or gone
abbrev pub is_parting : Transport → Bool
is_parting closing = true
is_parting gone = true
is_parting transport = false

-- What a side has received on a connection is a prefix of what the other has sent. While its transport connection is
-- not closing or gone, what it has received followed by what is in flight to it is a prefix too; and it is all of that
-- if the other's transport connection is not closing or gone either, and nothing is broken.
pub record IsHeardAsSaid (side : Side) (r : ℕ) (terms : Terms) (steps : List Step) : Type 0 where
  pub begins : Begins (heard_in side r (start terms) steps) (said_in (other_side side) r (start terms) steps)
  pub under_way : (l : Line) → side_of side (connection_at r (run (start terms) steps).lines) ≡ Some l → is_parting l.own.transport ≡ false →
      Begins (heard_in side r (start terms) steps ++ units_in l.peer.channel) (said_in (other_side side) r (start terms) steps)
  pub whole : (l : Line) → side_of side (connection_at r (run (start terms) steps).lines) ≡ Some l → is_parting l.own.transport ≡ false →
      is_parting l.peer.transport ≡ false → (run (start terms) steps).broken ≡ false →
      heard_in side r (start terms) steps ++ units_in l.peer.channel ≡ said_in (other_side side) r (start terms) steps
