-- The line of an indication: its side and connection, its name, and its fields.
use Rattle.std.specs.Prelude.{ℕ, Bool, true, false, List, [], ◌∷◌, ◌++◌, codes, Option, Some, None}
use Rattle.std.specs.Fmt.{decimal}
use Rattle.hex.specs.Hex.{encode_lower}
use Rattle.osi_spdu.specs.Sizes.{written_sizes}
use Rattle.osi_spdu.specs.declared.fields.TsduMaximumSize.{TsduMaximumSize}
use Rattle.osi_tpdu.specs.Spelling.{two}
use Rattle.osi_session.specs.Shown.{Shown, Connect, Connected, RefusedByTransport, RefusedBySession, Data, Given, Asked, Minor, MinorConfirmed, Major, MajorConfirmed, Restart, Restarted, Release, Released, ReleaseRefused, Aborted, Lost, PeerAbort, BadUnit}
use Rattle.osi_script.specs.declared.sides.Side.{Side}
use Rattle.osi_script.specs.Naming.{unit_fault_name}
use Rattle.osi_script.specs.Names.{side_name}
use Rattle.osi_script.specs.Texts.{data_text, wishes_text, sides_text}

unfoldable pub shown_name : Shown → List ℕ
shown_name (Connect units serial wishes sizes octets) = codes "Connect"
shown_name (Connected units serial sides sizes octets) = codes "Connected"
shown_name (RefusedByTransport reason) = codes "Refused transport"
shown_name (RefusedBySession reason octets) = codes "Refused session"
shown_name (Data octets) = codes "Data"
shown_name (Given tokens) = codes "Given"
shown_name (Asked tokens octets) = codes "Asked"
shown_name (Minor number confirm octets) = codes "Minor"
shown_name (MinorConfirmed number octets) = codes "MinorConfirmed"
shown_name (Major number octets) = codes "Major"
shown_name (MajorConfirmed octets) = codes "MajorConfirmed"
shown_name (Restart number wishes octets) = codes "Restart"
shown_name (Restarted number sides octets) = codes "Restarted"
shown_name (Release octets) = codes "Release"
shown_name (Released octets) = codes "Released"
shown_name (ReleaseRefused octets) = codes "ReleaseRefused"
shown_name (Aborted octets) = codes "Aborted"
shown_name Lost = codes "ProviderAbort Lost"
shown_name (PeerAbort bits) = codes "ProviderAbort Peer"
shown_name (BadUnit fault) = codes "ProviderAbort Unit"

abbrev pub number_field : ℕ → List ℕ
number_field n = codes " " ++ decimal n

abbrev pub octet_field : ℕ → List ℕ
octet_field octet = codes " " ++ encode_lower (octet ∷ [])

abbrev pub confirm_word : Bool → List ℕ
confirm_word true = codes "yes"
confirm_word false = codes "no"

abbrev pub minor_fields : ℕ → Bool → List ℕ
minor_fields number confirm = number_field number ++ codes " confirm " ++ confirm_word confirm

abbrev pub sides_field : List ℕ → List ℕ
sides_field letters = codes " sides " ++ letters

unfoldable pub restart_fields : ℕ → List ℕ → List ℕ
restart_fields number letters = number_field number ++ sides_field letters

abbrev pub units_field : ℕ → List ℕ
units_field units = codes " units " ++ encode_lower (two units)

-- a dash if there is no serial number
unfoldable pub serial_field : Option ℕ → List ℕ
serial_field None = codes " serial -"
serial_field (Some n) = codes " serial " ++ decimal n

unfoldable pub opening_fields : ℕ → Option ℕ → List ℕ → List ℕ
opening_fields units serial letters = units_field units ++ serial_field serial ++ sides_field letters

-- the fields of a connection that is requested or accepted
unfoldable pub opened_fields : Shown → List ℕ
opened_fields (Connect units serial wishes sizes octets) = opening_fields units serial (wishes_text wishes)
opened_fields (Connected units serial sides sizes octets) = opening_fields units serial (sides_text sides)
opened_fields other = []

unfoldable pub shown_fields : Shown → List ℕ
shown_fields (Connect units serial wishes sizes octets) = opening_fields units serial (wishes_text wishes)
shown_fields (Connected units serial sides sizes octets) = opening_fields units serial (sides_text sides)
shown_fields (RefusedByTransport reason) = number_field reason
shown_fields (RefusedBySession reason octets) = number_field reason
shown_fields (Data octets) = []
shown_fields (Given tokens) = octet_field tokens
shown_fields (Asked tokens octets) = octet_field tokens
shown_fields (Minor number confirm octets) = minor_fields number confirm
shown_fields (MinorConfirmed number octets) = number_field number
shown_fields (Major number octets) = number_field number
shown_fields (MajorConfirmed octets) = []
shown_fields (Restart number wishes octets) = restart_fields number (wishes_text wishes)
shown_fields (Restarted number sides octets) = restart_fields number (sides_text sides)
shown_fields (Release octets) = []
shown_fields (Released octets) = []
shown_fields (ReleaseRefused octets) = []
shown_fields (Aborted octets) = []
shown_fields Lost = []
shown_fields (PeerAbort bits) = octet_field bits
shown_fields (BadUnit fault) = codes " " ++ unit_fault_name fault

-- the user data, if there is any
unfoldable pub shown_octets : Shown → Option (List ℕ)
shown_octets (Connect units serial wishes sizes octets) = Some octets
shown_octets (Connected units serial sides sizes octets) = Some octets
shown_octets (RefusedByTransport reason) = None
shown_octets (RefusedBySession reason octets) = Some octets
shown_octets (Data octets) = Some octets
shown_octets (Given tokens) = None
shown_octets (Asked tokens octets) = Some octets
shown_octets (Minor number confirm octets) = Some octets
shown_octets (MinorConfirmed number octets) = Some octets
shown_octets (Major number octets) = Some octets
shown_octets (MajorConfirmed octets) = Some octets
shown_octets (Restart number wishes octets) = Some octets
shown_octets (Restarted number sides octets) = Some octets
shown_octets (Release octets) = Some octets
shown_octets (Released octets) = Some octets
shown_octets (ReleaseRefused octets) = Some octets
shown_octets (Aborted octets) = Some octets
shown_octets Lost = None
shown_octets (PeerAbort bits) = None
shown_octets (BadUnit fault) = None

-- the text before user data: only a blank if there are no other fields
abbrev pub data_word : Shown → List ℕ
data_word (Data octets) = codes " "
data_word other = codes " data "

abbrev pub data_field : List ℕ → Option (List ℕ) → List ℕ
data_field word None = []
data_field word (Some octets) = word ++ data_text octets

-- the largest TSDU of the asker and of the answerer, if one of them has a limit
abbrev pub limits_field : Option TsduMaximumSize → List ℕ
limits_field None = []
limits_field (Some sizes) = codes " tsdu" ++ number_field sizes.from_asker ++ number_field sizes.from_answerer

unfoldable pub sizes_field : TsduMaximumSize → List ℕ
sizes_field sizes = limits_field (written_sizes sizes)

unfoldable pub shown_sizes : Shown → List ℕ
shown_sizes (Connect units serial wishes sizes octets) = sizes_field sizes
shown_sizes (Connected units serial sides sizes octets) = sizes_field sizes
shown_sizes other = []

-- the user data, and the text after it
abbrev pub shown_end : Shown → List ℕ
shown_end shown = data_field (data_word shown) (shown_octets shown) ++ shown_sizes shown

unfoldable pub shown_text : Shown → List ℕ
shown_text shown = shown_name shown ++ shown_fields shown ++ shown_end shown

unfoldable pub shown_line : Side → ℕ → Shown → List ℕ
shown_line side reference shown = side_name side ++ codes " " ++ decimal reference ++ codes " " ++ shown_text shown ++ codes "\n"
