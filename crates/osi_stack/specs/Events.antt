-- The events that sessions receive, in memory.
use Rattle.osi_session.specs.Listening.{Input, opened, refused, broken, came}
use Rattle.osi_stack.specs.declared.events.SessionEvent.{SessionEvent}
use Rattle.osi_stack.specs.declared.events.SessionEvent.TheVariants.{Opened, Refused, Tsdu, Lent, Lost}

abbrev pub event_input : SessionEvent → Input
event_input Opened = opened
event_input (Refused reason) = refused reason
event_input (Tsdu octets) = came octets.items
event_input (Lent octets) = came octets.now
event_input Lost = broken
