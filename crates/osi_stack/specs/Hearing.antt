-- The effects of the carrier's events, and of its end, on the sessions.
use Rattle.std.specs.Prelude.{◌≡◌, ℕ, zero, suc, true, List, [], ◌∷◌, ◌++◌, length, map, Option, Some, None, is_some, ◌⊎◌, if◌then◌else◌}
use Rattle.osi_carrier.specs.Calls.{ended_by}
use Rattle.osi_carrier.specs.Happenings.{Happening}
use Rattle.osi_carrier.specs.Happenings as told
use Rattle.osi_carrier.specs.Packets as packets
use Rattle.osi_carrier.specs.Rows.{Rows, value_at}
use Rattle.osi_carrier.specs.State.{State as Carrier}
use Rattle.osi_carrier.specs.State as carriers
use Rattle.osi_carrier.specs.declared.ends.EndReason.{EndReason}
use Rattle.osi_carrier.specs.declared.ends.EndReason.TheVariants.{NoMemory}
use Rattle.osi_session.specs.Listening.{Listener, opened, refused, broken, came, react}
use Rattle.osi_session.specs.Sessions.{awaits}
use Rattle.osi_session.specs.Shown.{Shown}
use Rattle.osi_stack.specs.Moving.{to_session}
use Rattle.osi_stack.specs.Needs.{needs_memory}
use Rattle.osi_stack.specs.State.{Line, End, joins}

-- ---- one event

-- a connection that was not requested here gets a new session, which awaits a CN
abbrev pub opens : ℕ → Option Line → End → End
opens r None e = joins r awaits e
opens r (Some line) e = to_session r opened e

-- the effect of an event: a TSDU is taken; a connection that is closed, or has a fault, is lost to its session
abbrev pub hears : Happening → End → End
hears (told.opened r) e = opens r (value_at r e.lines) e
hears (told.refused r reason) e = to_session r (refused reason) e
hears (told.tsdu r octets) e = to_session r (came octets) e
hears (told.closed r reason) e = to_session r broken e
hears (told.faulted r fault) e = to_session r broken e

-- ---- queued events

abbrev pub with_events : List Happening → End → End
with_events events e = record e { carrier = record e.carrier { events = events } }

abbrev pub hears_first : List Happening → End → End
hears_first [] e = e
hears_first (event ∷ events) e = hears event (with_events events e)

-- the oldest queued event
abbrev pub hears_next : End → End
hears_next e = hears_first e.carrier.events e

-- this many of them, one after the other
abbrev pub hears_times : ℕ → End → End
hears_times zero e = e
hears_times (suc n) e = hears_times n (hears_next e)

-- all of them
abbrev pub hears_all : End → End
hears_all e = hears_times (length e.carrier.events) e

-- ---- the end

-- the indications of a session when its connection is lost
abbrev pub shown_at_loss : Option Listener → List Shown
shown_at_loss None = []
shown_at_loss (Some session) = (react session broken).shown

abbrev pub loses : Line → Line
loses line = record line { session = None; waiting = line.waiting ++ shown_at_loss line.session }

-- each session is lost, that of the lowest reference first
abbrev pub all_lost : Rows Line → Rows Line
all_lost lines = map (λ row. (row.0, loses row.1)) lines

-- if the carrier has ended, all sessions are lost
abbrev pub concludes : End → End
concludes e = if is_some e.carrier.ended then record e { lines = all_lost e.lines } else e

-- the carrier ends, and all sessions are lost
abbrev pub ends : EndReason → End → End
ends reason e = record { carrier = carriers.ends reason e.carrier; lines = all_lost e.lines }

-- the same because memory ran out, if the carrier has not ended
abbrev pub starves : End → End
starves e = record { carrier = ended_by NoMemory e.carrier; lines = all_lost e.lines }

-- ---- one packet

abbrev pub with_carrier : Carrier → End → End
with_carrier c e = record e { carrier = c }

-- the carrier has acted, and its events are handled
abbrev pub attends : End → End
attends e = concludes (hears_all e)

-- the effect of a packet with this transport unit
unfoldable pub after_packet : End → List ℕ → End
after_packet e packet = attends (with_carrier (packets.after_packet e.carrier packet) e)

-- ---- an allocation failure

-- Memory ran out for an event: it had no effect, and those before it were handled. With memory something would have
-- been indicated, sent or kept.
pub record RunsOut (old new : End) : Type 0 where
  pub heard : ℕ
  pub event : Happening
  pub more : List Happening
  pub waits : (hears_times heard old).carrier.events ≡ event ∷ more
  pub needed : needs_memory event (with_events more (hears_times heard old)) ≡ true
  pub starved : new ≡ starves (with_events more (hears_times heard old))

-- Memory ran out for one of the units of a packet, or for one of the events that it caused.
abbrev pub Starves : End → List ℕ → End → Type 0
Starves old packet new =
    ((c : Carrier) × packets.Starves old.carrier packet c × (new ≡ attends (with_carrier c old)))
    ⊎ ((c : Carrier) × packets.Acts old.carrier packet c × RunsOut (with_carrier c old) new)
