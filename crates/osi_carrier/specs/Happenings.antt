-- The events that a carrier reports, independent of how the octets of a TSDU are stored.
use Rattle.std.specs.Prelude.{ℕ, List}
use Rattle.osi_class.specs.declared.faults.LinkFault.{LinkFault}
use Rattle.osi_carrier.specs.declared.events.Event.{Event}
use Rattle.osi_carrier.specs.declared.events.Event.TheVariants.{Opened, Refused, Tsdu, Closed, Faulted}

-- each with the reference that this end gave the connection
pub data Happening : Type 0 where
  opened : ℕ → Happening
  -- with the reason of the refusal
  refused : ℕ → ℕ → Happening
  -- with the octets of the TSDU
  tsdu : ℕ → List ℕ → Happening
  -- with the reason that the peer gave
  closed : ℕ → ℕ → Happening
  faulted : ℕ → LinkFault → Happening

abbrev pub happening : Event → Happening
happening (Opened r) = opened r.0
happening (Refused r reason) = refused r.0 reason
happening (Tsdu r octets) = tsdu r.0 octets.items
happening (Closed r reason) = closed r.0 reason
happening (Faulted r fault) = faulted r.0 fault
