-- The units of packets that have come.
use Rattle.std.specs.Prelude.{List, [], Result, Ok, Err, ℕ}
use Rattle.std.specs.List.{flat_map}
use Rattle.osi_tpdu.specs.Packet.{units_of}
use Rattle.osi_tpdu.specs.Value.{Value}
use Rattle.osi_tpdu.specs.declared.faults.TpduFault.{TpduFault}

-- the units of a packet; none if it can't be read
abbrev pub units_by : Result (List Value) TpduFault → List Value
units_by (Ok units) = units
units_by (Err fault) = []

-- the units of packets, in order
abbrev pub units_in : List (List ℕ) → List Value
units_in packets = flat_map (λ packet. units_by (units_of packet)) packets
