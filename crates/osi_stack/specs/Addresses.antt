-- The addresses of a connection.
use Rattle.std.specs.Prelude.{ℕ, List, Option, Some, None, option_map, is_some, if◌then◌else◌}
use Rattle.osi_tpdu.specs.Limits.{tsap_octets}
use Rattle.osi_carrier.specs.Calls.{tsaps_at}
use Rattle.osi_carrier.specs.Rows.{value_at}
use Rattle.osi_carrier.specs.State.{TsapIds}
use Rattle.osi_stack.specs.Calls.{calling_octets, called_octets}
use Rattle.osi_stack.specs.Selectors.{Selectors, session_selector}
use Rattle.osi_stack.specs.State.{Line, End}
use Rattle.osi_stack.specs.declared.addresses.Addresses.{Addresses as Held}
use Rattle.osi_stack.specs.declared.connecting.Connect.{Connect}

-- the transport selectors of its CR, and the session selectors of its CN; each may be absent
pub record Addresses : Type 0 where
  pub calling_tsap : Option (List ℕ)
  pub called_tsap : Option (List ℕ)
  pub calling_selector : Option (List ℕ)
  pub called_selector : Option (List ℕ)

abbrev pub addressed : Option TsapIds → Option Selectors → Option Addresses
addressed None selectors = None
addressed (Some ids) None = None
addressed (Some ids) (Some selectors) = Some (record {
  calling_tsap = ids.calling;
  called_tsap = ids.called;
  calling_selector = selectors.calling;
  called_selector = selectors.called;
})

abbrev pub selectors_in : Option Line → Option Selectors
selectors_in None = None
selectors_in (Some line) = line.selectors

-- Those of a live connection: if it was requested here, the requested ones; otherwise those received, once its CN was
-- indicated. None for a connection that is gone.
abbrev pub addresses_at : ℕ → End → Option Addresses
addresses_at r e =
    if is_some (value_at r e.carrier.live) then addressed (tsaps_at r e.carrier) (selectors_in (value_at r e.lines)) else None

-- the requested addresses
abbrev pub asked_addresses : Connect → Addresses
asked_addresses c = record {
  calling_tsap = option_map tsap_octets c.calling_tsap;
  called_tsap = option_map tsap_octets c.called_tsap;
  calling_selector = calling_octets c;
  called_selector = called_octets c;
}

-- in memory
abbrev pub addresses : Held → Addresses
addresses a = record {
  calling_tsap = option_map tsap_octets a.calling_tsap;
  called_tsap = option_map tsap_octets a.called_tsap;
  calling_selector = option_map session_selector a.calling_selector;
  called_selector = option_map session_selector a.called_selector;
}
