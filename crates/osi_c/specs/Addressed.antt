-- The addresses of a connection as C receives them, with every field.
use Rattle.std.specs.Prelude.{ℕ, ◌-◌, List, [], ◌++◌, length, replicate, Option, Some, None, unwrap_or}
use Rattle.osi_stack.specs.Addresses.{Addresses, addresses_at}
use Rattle.osi_c.specs.Codes.{Fetching, NoEnd, Nothing, Fetched}
use Rattle.osi_c.specs.declared.addresses.OsiTsap.{OsiTsap}
use Rattle.osi_c.specs.declared.addresses.OsiSelector.{OsiSelector}
use Rattle.osi_c.specs.declared.addresses.OsiAddressing.{OsiAddressing}
use Rattle.osi_c.specs.declared.handles.Contents.{Contents}

-- an address followed by zeros; of length 0 if there is none
abbrev pub tsap_told : List ℕ → OsiTsap
tsap_told octets = record { octets = octets ++ replicate (32 - length octets) 0; length = length octets }

abbrev pub selector_told : List ℕ → OsiSelector
selector_told octets = record { octets = octets ++ replicate (16 - length octets) 0; length = length octets }

abbrev pub telling : (from_tsap to_tsap from_selector to_selector : List ℕ) → OsiAddressing
telling from_tsap to_tsap from_selector to_selector = record {
  calling_tsap = tsap_told from_tsap;
  called_tsap = tsap_told to_tsap;
  calling_selector = selector_told from_selector;
  called_selector = selector_told to_selector;
}

-- the addresses as C receives them
abbrev pub told : Option Addresses → OsiAddressing
told None = telling [] [] [] []
told (Some known) =
    telling (unwrap_or known.calling_tsap []) (unwrap_or known.called_tsap []) (unwrap_or known.calling_selector []) (unwrap_or known.called_selector [])

-- the addresses of a connection; an empty slot has no connections
abbrev pub addresses : ℕ → Option Contents → Option Addresses
addresses r None = None
addresses r (Some c) = addresses_at r c.stack.end

-- whether there are any
abbrev pub known : Option Addresses → Fetching
known None = Nothing
known (Some a) = Fetched

abbrev pub asks : ℕ → Option Contents → Fetching
asks r None = NoEnd
asks r (Some c) = known (addresses_at r c.stack.end)
