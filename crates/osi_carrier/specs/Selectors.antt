-- The transport selectors of a connection as the code holds them.
use Rattle.std.specs.Prelude.{option_map}
use Rattle.osi_tpdu.specs.Limits.{tsap_octets}
use Rattle.osi_carrier.specs.State.{TsapIds}
use Rattle.osi_carrier.specs.declared.selectors.Tsaps.{Tsaps}

abbrev pub tsap_ids : Tsaps → TsapIds
tsap_ids t = record { calling = option_map tsap_octets t.calling; called = option_map tsap_octets t.called }
