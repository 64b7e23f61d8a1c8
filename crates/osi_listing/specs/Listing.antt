-- The listing of captured octets: what is listed, in order, and its lines.
use Rattle.std.specs.Prelude.{◌≡◌, ℕ, ◌+◌, Bool, true, false, if◌then◌else◌, List, [], ◌∷◌, ◌++◌, length, map, Option, Some, None, option_to_list, Result, Ok, Err}
use Rattle.std.specs.List.{flat_map, list_any}
use Rattle.osi_tpkt.specs.Stream.{Cuts, Ending}
use Rattle.osi_tpkt.specs.Stream.Ending.{Faulty, Rest}
use Rattle.osi_tpkt.specs.declared.faults.TpktFault.{TpktFault}
use Rattle.osi_tpdu.specs.Value.{Value}
use Rattle.osi_tpdu.specs.Packet.{units_of}
use Rattle.osi_tpdu.specs.declared.faults.TpduFault.{TpduFault}
use Rattle.osi_spdu.specs.Known.{Contents, Units}
use Rattle.osi_spdu.specs.Reading.{tsdu_at}
use Rattle.osi_spdu.specs.declared.faults.SpduFault.{SpduFault}
use Rattle.osi_listing.specs.Streams.{Part, part_of, parts_of, Outcome, brought, join_of}
use Rattle.osi_listing.specs.Streams.Outcome.{Nothing, Whole, TooLong}
use Rattle.osi_listing.specs.Lines.{packet_length, packet_line, fault_line, rest_line, unit_line, unit_fault_line, tsdu_line, too_long_line}
use Rattle.osi_listing.specs.SessionLines.{session_line, session_fault_line}

-- what a line is about
pub data Entry : Type 0 where
  -- a packet, by its offset and its transport unit
  Packet : ℕ → List ℕ → Entry
  TransportUnit : Value → Entry
  UnitFault : TpduFault → Entry
  Tsdu : List ℕ → Entry
  SessionUnit : Contents → Entry
  SessionFault : SpduFault → Entry
  TsduFault : Entry
  PacketFault : TpktFault → Entry
  Left : ℕ → Entry

unfoldable pub line_of : Entry → List ℕ
line_of (Packet at u) = packet_line at u
line_of (TransportUnit v) = unit_line v
line_of (UnitFault f) = unit_fault_line f
line_of (Tsdu octets) = tsdu_line (length octets)
line_of (SessionUnit u) = session_line u
line_of (SessionFault f) = session_fault_line f
line_of TsduFault = too_long_line
line_of (PacketFault f) = fault_line f
line_of (Left n) = rest_line n

-- the entry says that something was refused
unfoldable pub is_refused : Entry → Bool
is_refused (Packet at u) = false
is_refused (TransportUnit v) = false
is_refused (UnitFault f) = true
is_refused (Tsdu octets) = false
is_refused (SessionUnit u) = false
is_refused (SessionFault f) = true
is_refused TsduFault = true
is_refused (PacketFault f) = true
is_refused (Left n) = false

-- the session units of a TSDU; if it is not a group of session units, only the fault
abbrev pub session_entries : Result Units SpduFault → List Entry
session_entries (Ok units) = map SessionUnit units
session_entries (Err f) = SessionFault f ∷ []

abbrev pub outcome_entries : Outcome → List Entry
outcome_entries Nothing = []
outcome_entries (Whole tsdu) = Tsdu tsdu ∷ session_entries (tsdu_at tsdu)
outcome_entries TooLong = TsduFault ∷ []

-- after a data unit, what it adds to its stream
abbrev pub part_entries : List Part → Option Part → List Entry
part_entries earlier None = []
part_entries earlier (Some p) = outcome_entries (brought (join_of p.stream earlier) p.end p.octets)

-- units, after these data units of the capture
abbrev pub unit_entries : List Part → List Value → List Entry
unit_entries earlier [] = []
unit_entries earlier (v ∷ vs) =
    (TransportUnit v ∷ part_entries earlier (part_of v)) ++ unit_entries (earlier ++ option_to_list (part_of v)) vs

-- the units of a packet; of a packet with a bad unit only the fault, and it adds to no stream
abbrev pub read_entries : List Part → Result (List Value) TpduFault → List Entry
read_entries earlier (Ok vs) = unit_entries earlier vs
read_entries earlier (Err f) = UnitFault f ∷ []

abbrev pub read_parts : Result (List Value) TpduFault → List Part
read_parts (Ok vs) = parts_of vs
read_parts (Err f) = []

-- the data units of packets with these transport units
abbrev pub all_parts : List (List ℕ) → List Part
all_parts [] = []
all_parts (u ∷ us) = read_parts (units_of u) ++ all_parts us

-- packets with these transport units, the first of them at this offset, after these data units
abbrev pub packet_entries : ℕ → List Part → List (List ℕ) → List Entry
packet_entries at earlier [] = []
packet_entries at earlier (u ∷ us) =
    (Packet at u ∷ read_entries earlier (units_of u)) ++ packet_entries (at + packet_length u) (earlier ++ read_parts (units_of u)) us

abbrev pub ending_entry : Ending → Entry
ending_entry (Faulty f) = PacketFault f
ending_entry (Rest n) = Left n

-- lines with these entries, and whether something was refused
pub record IsText (entries : List Entry) (lines : List ℕ) (refused : Bool) : Type 0 where
  pub text : lines ≡ flat_map line_of entries
  pub told : refused ≡ list_any is_refused entries

-- the lines of these octets, and the status: 1 if something was refused
pub record IsListing (octets lines : List ℕ) (status : ℕ) : Type 0 where
  pub units : List (List ℕ)
  pub ending : Ending
  pub cut : Cuts octets units ending
  pub refused : Bool
  pub text : IsText (packet_entries 0 [] units ++ ending_entry ending ∷ []) lines refused
  pub answered : status ≡ (if refused then 1 else 0)
