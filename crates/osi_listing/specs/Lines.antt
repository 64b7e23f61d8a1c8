-- The lines of a listing. Numbers are decimal; octets, references and codes lower-case hexadecimal.
use Rattle.std.specs.Prelude.{ℕ, ◌+◌, Bool, true, false, List, [], ◌∷◌, ◌++◌, length, slice_index, codes, Option, Some, None}
use Rattle.std.specs.Fmt.{decimal}
use Rattle.hex.specs.Hex.{encode_lower}
use Rattle.osi_tpkt.specs.declared.faults.TpktFault.{TpktFault}
use Rattle.osi_tpkt.specs.declared.faults.TpktFault.TheVariants.{BadVersion, BadLength, OutOfMemory}
use Rattle.osi_tpdu.specs.Value.{Parameters, Connect, Value, request, confirm, disconnect, disconnected, data0, data2, acknowledge, error}
use Rattle.osi_tpdu.specs.Spelling.{two}
use Rattle.osi_tpdu.specs.declared.faults.TpduFault.{TpduFault}
use Rattle.osi_tpdu.specs.declared.faults.TpduFault.TheVariants.{BadLi, UnknownCode, BadParameterLength, BadParameterValue, DuplicateParameter}

-- the octets of a packet with this transport unit
abbrev pub packet_length : List ℕ → ℕ
packet_length u = length u + 4

-- a packet, by its offset in the capture, its length and the second octet of its transport unit
-- how the line of a packet ends
abbrev pub code_end : ℕ → List ℕ
code_end code = codes " code " ++ encode_lower (code ∷ []) ++ codes "\n"

unfoldable pub packet_line : ℕ → List ℕ → List ℕ
packet_line at u = codes "packet " ++ decimal at ++ codes " length " ++ decimal (packet_length u) ++ code_end (slice_index u 1)

abbrev pub fault_name : TpktFault → List ℕ
fault_name (BadVersion at) = codes "BadVersion"
fault_name (BadLength at) = codes "BadLength"
fault_name OutOfMemory = codes "OutOfMemory"

abbrev pub fault_offset : TpktFault → ℕ
fault_offset (BadVersion at) = at
fault_offset (BadLength at) = at
fault_offset OutOfMemory = 0

-- a fault, by its offset and its name
unfoldable pub fault_line : TpktFault → List ℕ
fault_line f = codes "fault " ++ decimal (fault_offset f) ++ codes " " ++ fault_name f ++ codes "\n"

-- the octets left over at the end
unfoldable pub rest_line : ℕ → List ℕ
rest_line n = codes "rest " ++ decimal n ++ codes "\n"

-- ---- transport units

-- a word followed by a number, a reference, or octets, if they are there
abbrev pub number_field : List ℕ → ℕ → List ℕ
number_field word n = word ++ decimal n

abbrev pub reference_field : List ℕ → ℕ → List ℕ
reference_field word n = word ++ encode_lower (two n)

abbrev pub octet_field : List ℕ → Option ℕ → List ℕ
octet_field word None = []
octet_field word (Some n) = word ++ encode_lower (n ∷ [])

abbrev pub octets_field : List ℕ → Option (List ℕ) → List ℕ
octets_field word None = []
octets_field word (Some octets) = word ++ encode_lower octets

-- the fixed part of a CR or CC: credit, DST-REF, SRC-REF, class, options
abbrev pub fixed_fields : ℕ → ℕ → ℕ → ℕ → ℕ → List ℕ
fixed_fields credit destination source class options =
    number_field (codes " credit ") credit ++ reference_field (codes " dst ") destination
    ++ reference_field (codes " src ") source
    ++ number_field (codes " class ") class
    ++ number_field (codes " options ") options

abbrev pub connect_fields : ℕ → Connect → List ℕ
connect_fields destination c = fixed_fields c.credit destination c.source c.class c.options

unfoldable pub parameter_fields : Parameters → List ℕ
parameter_fields p =
    octet_field (codes " size ") p.size ++ octets_field (codes " calling ") p.calling
    ++ octets_field (codes " called ") p.called ++ octet_field (codes " more ") p.additional
    ++ octets_field (codes " also ") p.alternative

abbrev pub bit : Bool → ℕ
bit true = 1
bit false = 0

-- a unit by its name and its fields; a DT of class 0 has no number of its own, and 0 is printed
unfoldable pub unit_fields : Value → List ℕ
unit_fields (request c) = codes "CR" ++ connect_fields 0 c ++ parameter_fields c.parameters
unit_fields (confirm destination c) = codes "CC" ++ connect_fields destination c ++ parameter_fields c.parameters
unit_fields (disconnect destination source reason user) =
    reference_field (codes "DR dst ") destination ++ reference_field (codes " src ") source ++ number_field (codes " reason ") reason
unit_fields (disconnected destination source) = reference_field (codes "DC dst ") destination ++ reference_field (codes " src ") source
unit_fields (data0 end user) =
    number_field (codes "DT number ") 0 ++ number_field (codes " eot ") (bit end) ++ number_field (codes " octets ") (length user)
unit_fields (data2 destination number end user) =
    reference_field (codes "DT dst ") destination ++ number_field (codes " number ") number
    ++ number_field (codes " eot ") (bit end) ++ number_field (codes " octets ") (length user)
unit_fields (acknowledge credit destination number) =
    number_field (codes "AK credit ") credit ++ reference_field (codes " dst ") destination ++ number_field (codes " number ") number
unit_fields (error destination cause) = reference_field (codes "ER dst ") destination ++ number_field (codes " cause ") cause

unfoldable pub unit_line : Value → List ℕ
unit_line v = codes "  " ++ unit_fields v ++ codes "\n"

abbrev pub unit_fault_name : TpduFault → List ℕ
unit_fault_name (BadLi at) = codes "BadLi"
unit_fault_name (UnknownCode at) = codes "UnknownCode"
unit_fault_name (BadParameterLength at) = codes "BadParameterLength"
unit_fault_name (BadParameterValue at) = codes "BadParameterValue"
unit_fault_name (DuplicateParameter at) = codes "DuplicateParameter"

abbrev pub unit_fault_offset : TpduFault → ℕ
unit_fault_offset (BadLi at) = at
unit_fault_offset (UnknownCode at) = at
unit_fault_offset (BadParameterLength at) = at
unit_fault_offset (BadParameterValue at) = at
unit_fault_offset (DuplicateParameter at) = at

-- the fault of a packet's units, by its offset in the transport unit
unfoldable pub unit_fault_line : TpduFault → List ℕ
unit_fault_line f = codes "  fault " ++ decimal (unit_fault_offset f) ++ codes " " ++ unit_fault_name f ++ codes "\n"

-- ---- TSDUs

-- a complete TSDU, by the number of its octets
unfoldable pub tsdu_line : ℕ → List ℕ
tsdu_line n = codes "    tsdu " ++ decimal n ++ codes "\n"

-- a TSDU that has passed its limit
unfoldable pub too_long_line : List ℕ
too_long_line = codes "  fault 0 TsduTooLong\n"
