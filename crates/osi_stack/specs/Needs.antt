-- What memory is needed for: what is indicated, sent and kept.
use Rattle.std.specs.Prelude.{ℕ, Bool, false, ◌||◌, Option, Some, None, is_none}
use Rattle.osi_carrier.specs.Growth.{grows}
use Rattle.osi_carrier.specs.Happenings.{Happening}
use Rattle.osi_carrier.specs.Happenings as told
use Rattle.osi_carrier.specs.Rows.{value_at}
use Rattle.osi_carrier.specs.State.{State as Carrier}
use Rattle.osi_session.specs.Listening.{Input, opened, refused, broken, came, Listener, react}
use Rattle.osi_session.specs.Sessions.{takes_memory}
use Rattle.osi_stack.specs.Moving.{carrier_by}
use Rattle.osi_stack.specs.State.{End, session_in}

-- The session of this connection indicates or sends something, or joins more octets, or the DR is written with which it
-- closes its connection.
abbrev pub session_needs : ℕ → Option Listener → Input → Carrier → Bool
session_needs r None input c = false
session_needs r (Some session) input c = takes_memory session (react session input) || grows c (carrier_by r (Some session) input c)

-- the same of the session of a reference
abbrev pub input_needs : ℕ → Input → End → Bool
input_needs r input e = session_needs r (session_in (value_at r e.lines)) input e.carrier

-- a connection that was not requested here needs a session
abbrev pub opening_needs : ℕ → End → Bool
opening_needs r e = is_none (value_at r e.lines) || input_needs r opened e

-- Whether memory is needed for an event.
abbrev pub needs_memory : Happening → End → Bool
needs_memory (told.opened r) e = opening_needs r e
needs_memory (told.refused r reason) e = input_needs r (refused reason) e
needs_memory (told.tsdu r octets) e = input_needs r (came octets) e
needs_memory (told.closed r reason) e = input_needs r broken e
needs_memory (told.faulted r fault) e = input_needs r broken e
