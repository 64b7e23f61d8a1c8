-- The state of a carrier apart from the unfinished packet, and the vocabulary for changes of it.
use Rattle.std.specs.Prelude.{ℕ, Bool, List, [], ◌∷◌, ◌++◌, Option, Some}
use Rattle.std.specs.List.{flat_map}
use Rattle.osi_tpkt.specs.Packet.{packet_of}
use Rattle.osi_tpdu.specs.Value.{Value}
use Rattle.osi_tpdu.specs.Writing.{written}
use Rattle.osi_class.specs.Link.{Standing}
use Rattle.osi_class.specs.declared.terms.Class.{Class}
use Rattle.osi_class.specs.declared.terms.Local.{Local}
use Rattle.osi_carrier.specs.Happenings.{Happening}
use Rattle.osi_carrier.specs.Rows.{Rows, put, without}
use Rattle.osi_carrier.specs.declared.ends.CarrierFault.{CarrierFault}
use Rattle.osi_carrier.specs.declared.ends.EndReason.{EndReason}
use Rattle.osi_carrier.specs.declared.ends.EndReason.TheVariants.{Fault}

-- A live connection: requested and not answered; linked, with the peer's reference and the link; or closing, with the
-- peer's reference, from the DR that this end sent until a DC or a DR arrives.
pub data Connection : Type 0 where
  asked : Connection
  linked : ℕ → Standing → Connection
  closing : ℕ → Connection

-- the transport selectors that a CR names
pub record TsapIds : Type 0 where
  pub calling : Option (List ℕ)
  pub called : Option (List ℕ)

-- `class`: the class selected on this byte connection; `given`: how many references were given, which are the numbers
-- from 1 up to it; `live`: the live connections, by the references that this end gave; `tsaps`: the transport selectors
-- of each; `outgoing`: octets to send to the peer; `events`: queued events, the oldest first; `ended`: why the carrier
-- ended
pub record State : Type 0 where
  pub is_caller : Bool
  pub local : Local
  pub class : Option Class
  pub given : ℕ
  pub live : Rows Connection
  pub tsaps : Rows TsapIds
  pub outgoing : List ℕ
  pub events : List Happening
  pub ended : Option EndReason

-- units in their written form, each in a packet of its own
abbrev pub packets : List Value → List ℕ
packets units = flat_map (λ unit. packet_of (written unit)) units

abbrev pub writes : List Value → State → State
writes units s = record s { outgoing = s.outgoing ++ packets units }

-- What a carrier does: its state then, and the units that it puts on the byte connection.
pub record Outcome : Type 0 where
  pub state : State
  pub put : List Value

-- units that are put are written
abbrev pub puts : List Value → State → Outcome
puts units s = record { state = writes units s; put = units }

abbrev pub puts_none : State → Outcome
puts_none s = record { state = s; put = [] }

abbrev pub tells : Happening → State → State
tells event s = record s { events = s.events ++ event ∷ [] }

-- a new connection, whose CR names these transport selectors
abbrev pub joins : ℕ → Connection → TsapIds → State → State
joins r connection ids s = record s { live = s.live ++ (r, connection) ∷ []; tsaps = s.tsaps ++ (r, ids) ∷ [] }

abbrev pub moves : ℕ → Connection → State → State
moves r connection s = record s { live = put r connection s.live }

abbrev pub drops : ℕ → State → State
drops r s = record s { live = without r s.live; tsaps = without r s.tsaps }

-- a carrier that has ended has no live connection
abbrev pub ends : EndReason → State → State
ends reason s = record s { live = []; tsaps = []; ended = Some reason }

abbrev pub fails : CarrierFault → State → State
fails fault s = ends (Fault fault) s
