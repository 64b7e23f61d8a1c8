-- The lines of session units. Codes and numbers are decimal; values, as they are written, lower-case hexadecimal.
use Rattle.std.specs.Prelude.{ℕ, Bool, true, false, List, [], ◌∷◌, ◌++◌, length, codes, Option, Some, None, if◌then◌else◌}
use Rattle.std.specs.List.{flat_map, join_with_byte}
use Rattle.std.specs.Fmt.{decimal}
use Rattle.hex.specs.Hex.{encode_lower}
use Rattle.osi_spdu.specs.declared.codes.Code.{Code}
use Rattle.osi_spdu.specs.declared.kinds.Kind.{Kind}
use Rattle.osi_spdu.specs.declared.kinds.Kind.TheVariants.{GiveTokens, PleaseTokens, DataTransfer, NotFinished, Finish, Disconnect, Refuse, Connect, Accept, Abort, AbortAccept, ResynchronizeAck, MajorSyncPoint, MajorSyncAck, MinorSyncPoint, MinorSyncAck, Resynchronize}
use Rattle.osi_spdu.specs.declared.faults.SpduFault.{SpduFault}
use Rattle.osi_spdu.specs.declared.faults.SpduFault.TheVariants.{UnknownSi, LengthPastEnd, MissingParameter, DuplicateParameter, BadValue, BadConcatenation, TrailingOctets}
use Rattle.osi_spdu.specs.Codes.{number_of, is_group}
use Rattle.osi_spdu.specs.Kinds.{codes_of, members_of}
use Rattle.osi_spdu.specs.Known.{Known, Contents}
use Rattle.osi_spdu.specs.Reading.{takes_rest}
use Rattle.osi_spdu.specs.Writing.{written_code}

unfoldable pub kind_name : Kind → List ℕ
kind_name GiveTokens = codes "GT"
kind_name PleaseTokens = codes "PT"
kind_name DataTransfer = codes "DT"
kind_name NotFinished = codes "NF"
kind_name Finish = codes "FN"
kind_name Disconnect = codes "DN"
kind_name Refuse = codes "RF"
kind_name Connect = codes "CN"
kind_name Accept = codes "AC"
kind_name Abort = codes "AB"
kind_name AbortAccept = codes "AA"
kind_name ResynchronizeAck = codes "RA"
kind_name MajorSyncPoint = codes "MAP"
kind_name MajorSyncAck = codes "MAA"
kind_name MinorSyncPoint = codes "MIP"
kind_name MinorSyncAck = codes "MIA"
kind_name Resynchronize = codes "RS"

-- a code and its value
abbrev pub value_field : Code → List ℕ → List ℕ
value_field c value = decimal (number_of c) ++ codes "=" ++ encode_lower value

-- a parameter of a group, if it is there
abbrev pub member_fields : Code → Option (List ℕ) → List (List ℕ)
member_fields c None = []
member_fields c (Some value) = value_field c value ∷ []

-- the parameters of a group that are there, with a blank between each two
abbrev pub members_text : Known → List Code → List ℕ
members_text known members = join_with_byte 32 (flat_map (λ m. member_fields m (known m)) members)

-- the separator before a field, and fields of which the first has one
abbrev pub separator_of : Bool → List ℕ
separator_of true = []
separator_of false = codes " "

abbrev pub fields_left : Bool → List (List ℕ) → List ℕ
fields_left is_first [] = []
fields_left is_first (field ∷ fields) = separator_of is_first ++ field ++ fields_left false fields

abbrev pub group_field : Contents → Code → List ℕ
group_field u c = decimal (number_of c) ++ codes "(" ++ members_text u.known (members_of u.kind c) ++ codes ")"

-- a parameter or a group, if it is there; user data under the code in which it is written
abbrev pub parameter_field : Contents → Code → Option (List ℕ) → List ℕ
parameter_field u c None = []
parameter_field u c (Some value) = codes " " ++ (if is_group c then group_field u c else value_field (written_code u.kind c value) value)

-- in rising order of code, as the table of units has them
unfoldable pub session_fields : Contents → List ℕ
session_fields u = flat_map (λ c. parameter_field u c (u.known c)) (codes_of u.kind)

-- the length of the user information of a DT
abbrev pub information_field : Contents → List ℕ
information_field u = if takes_rest u.kind then codes " octets " ++ decimal (length u.information) else []

unfoldable pub session_line : Contents → List ℕ
session_line u = codes "    " ++ kind_name u.kind ++ session_fields u ++ information_field u ++ codes "\n"

-- ---- a TSDU that is not a group of session units

abbrev pub session_fault_name : SpduFault → List ℕ
session_fault_name (UnknownSi at) = codes "UnknownSi"
session_fault_name (LengthPastEnd at) = codes "LengthPastEnd"
session_fault_name (MissingParameter c at) = codes "MissingParameter"
session_fault_name (DuplicateParameter c at) = codes "DuplicateParameter"
session_fault_name (BadValue c at) = codes "BadValue"
session_fault_name (BadConcatenation at) = codes "BadConcatenation"
session_fault_name (TrailingOctets at) = codes "TrailingOctets"

abbrev pub session_fault_offset : SpduFault → ℕ
session_fault_offset (UnknownSi at) = at
session_fault_offset (LengthPastEnd at) = at
session_fault_offset (MissingParameter c at) = at
session_fault_offset (DuplicateParameter c at) = at
session_fault_offset (BadValue c at) = at
session_fault_offset (BadConcatenation at) = at
session_fault_offset (TrailingOctets at) = at

-- the code of the parameter, if the fault is one of a parameter
abbrev pub session_fault_code : SpduFault → List ℕ
session_fault_code (UnknownSi at) = []
session_fault_code (LengthPastEnd at) = []
session_fault_code (MissingParameter c at) = codes " " ++ decimal c
session_fault_code (DuplicateParameter c at) = codes " " ++ decimal c
session_fault_code (BadValue c at) = codes " " ++ decimal c
session_fault_code (BadConcatenation at) = []
session_fault_code (TrailingOctets at) = []

-- the fault of a TSDU's session units, by its offset in the TSDU
unfoldable pub session_fault_line : SpduFault → List ℕ
session_fault_line f =
    codes "    fault " ++ decimal (session_fault_offset f) ++ codes " " ++ session_fault_name f ++ session_fault_code f ++ codes "\n"
