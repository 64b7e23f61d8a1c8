-- The meaning of the parameters of a session unit, absent ones included.
use Rattle.std.specs.Prelude.{ℕ, ◌+◌, ◌*◌, ◌/◌, ◌%◌, ◌==◌, Bool, List, [], ◌∷◌, drop, Option, Some, None, unwrap_or, Result, Ok, Err, if◌then◌else◌, map}
use Rattle.osi_spdu.specs.declared.kinds.Kind.{Kind}
use Rattle.osi_spdu.specs.declared.kinds.Kind.TheVariants.{GiveTokens, PleaseTokens, DataTransfer, NotFinished, Finish, Disconnect, Refuse, Connect, Accept, Abort, AbortAccept, ResynchronizeAck, MajorSyncPoint, MajorSyncAck, MinorSyncPoint, MinorSyncAck, Resynchronize}
use Rattle.osi_spdu.specs.declared.codes.Code.TheVariants.{SyncType, TokenItem, TransportDisconnect, UserRequirements, Version, InitialNumber, Number, Reason, CallingSelector, CalledSelector, UserData}
use Rattle.osi_spdu.specs.declared.codes.Code.TheVariants as code
use Rattle.osi_spdu.specs.declared.settings.Wish.{Wish}
use Rattle.osi_spdu.specs.declared.settings.Wish.TheVariants.{Asker, Answerer, Choice}
use Rattle.osi_spdu.specs.declared.settings.TokenSetting.{TokenSetting}
use Rattle.osi_spdu.specs.declared.fields.ResyncType.{ResyncType}
use Rattle.osi_spdu.specs.declared.fields.ResyncType.TheVariants.{Restart, Abandon, Set}
use Rattle.osi_spdu.specs.declared.fields.TsduMaximumSize.{TsduMaximumSize}
use Rattle.osi_spdu.specs.declared.faults.SpduFault.{SpduFault}
use Rattle.osi_spdu.specs.Values.{numeral}
use Rattle.osi_spdu.specs.Sizes.{no_sizes}
use Rattle.osi_spdu.specs.Known.{Known, Contents, Units}
use Rattle.osi_spdu.specs.Reading.{tsdu_at}
use Rattle.osi_message.specs.declared.places.Place.{Place}
use Rattle.osi_message.specs.declared.places.Place.TheVariants.{First, Middle, Last}
use Rattle.osi_message.specs.declared.tokens.Tokens.{Tokens}
use Rattle.osi_message.specs.Tokens.{named}
use Rattle.std.specs.Int.RustNames.{bit_and}
use Rattle.osi_message.specs.Meanings.{Meaning, CN, AC, RF, DT, GT, PT, MIP, MIA, MAP, MAA, RS, RA, FN, DN, NF, AB, AA}
use Rattle.osi_message.specs.Words.{Word, says, part, Words}

-- a bit is set
abbrev pub names : ℕ → ℕ → Bool
names bits bit = bit_and bits bit == bit

abbrev pub octets_in : Option (List ℕ) → List ℕ
octets_in value = unwrap_or value []

abbrev pub first_in : List ℕ → ℕ
first_in [] = 0
first_in (b ∷ octets) = b

-- the single octet of a parameter, 0 if it is absent
abbrev pub octet_in : Option (List ℕ) → ℕ
octet_in value = first_in (octets_in value)

abbrev pub two_in : List ℕ → ℕ
two_in [] = 0
two_in (high ∷ []) = 0
two_in (high ∷ low ∷ octets) = 256 * high + low

-- absent requirements are half-duplex, minor, activity, capability and exceptions (0349)
abbrev pub requirements_in : Option (List ℕ) → ℕ
requirements_in None = 841
requirements_in (Some value) = two_in value

abbrev pub wish_named : ℕ → Wish
wish_named pair = if pair == 0 then Asker else if pair == 1 then Answerer else Choice

-- absent sizes are 0, no limit
abbrev pub sizes_in : Option (List ℕ) → TsduMaximumSize
sizes_in None = no_sizes
sizes_in (Some value) = record { from_asker = two_in value; from_answerer = two_in (drop 2 value) }

-- an absent setting is 00
abbrev pub setting_named : ℕ → TokenSetting
setting_named octet = record {
  data_token = wish_named (octet % 4);
  minor = wish_named (octet / 4 % 4);
  major = wish_named (octet / 16 % 4);
  release = wish_named (octet / 64);
}

abbrev pub resync_named : ℕ → ResyncType
resync_named octet = if octet == 0 then Restart else if octet == 1 then Abandon else Set

abbrev pub serial_in : Option (List ℕ) → Option ℕ
serial_in None = None
serial_in (Some digits) = numeral digits

abbrev pub number_in : Option (List ℕ) → ℕ
number_in value = unwrap_or (serial_in value) 0

-- bit 2 of the version is version 2
abbrev pub has_version_2 : Known → Bool
has_version_2 known = names (octet_in (known Version)) 2

-- a minor point asks for its confirmation if its sync type is absent or has bit 1 clear
abbrev pub asks : Known → Bool
asks known = octet_in (known SyncType) == 0

abbrev pub tokens_in : Known → Tokens
tokens_in known = named (octet_in (known TokenItem))

abbrev pub setting_in : Known → TokenSetting
setting_in known = setting_named (octet_in (known code.TokenSetting))

abbrev pub data_in : Known → List ℕ
data_in known = octets_in (known UserData)

abbrev pub meaning_by : Kind → Known → List ℕ → Meaning
meaning_by Connect known information =
    CN (has_version_2 known) (requirements_in (known UserRequirements)) (serial_in (known InitialNumber)) (setting_in known)
    (known CallingSelector) (known CalledSelector) (sizes_in (known code.TsduMaximumSize)) (data_in known)
meaning_by Accept known information =
    AC (has_version_2 known) (requirements_in (known UserRequirements)) (serial_in (known InitialNumber)) (setting_in known)
    (sizes_in (known code.TsduMaximumSize)) (data_in known)
meaning_by Refuse known information = RF (octet_in (known Reason)) (drop 1 (octets_in (known Reason)))
meaning_by DataTransfer known information = DT information
meaning_by GiveTokens known information = GT (tokens_in known)
meaning_by PleaseTokens known information = PT (tokens_in known) (data_in known)
meaning_by MinorSyncPoint known information = MIP (asks known) (number_in (known Number)) (data_in known)
meaning_by MinorSyncAck known information = MIA (number_in (known Number)) (data_in known)
meaning_by MajorSyncPoint known information = MAP (number_in (known Number)) (data_in known)
meaning_by MajorSyncAck known information = MAA (number_in (known Number)) (data_in known)
meaning_by Resynchronize known information =
    RS (resync_named (octet_in (known code.ResyncType))) (number_in (known Number)) (setting_in known) (data_in known)
meaning_by ResynchronizeAck known information = RA (number_in (known Number)) (setting_in known) (data_in known)
meaning_by Finish known information = FN (data_in known)
meaning_by Disconnect known information = DN (data_in known)
meaning_by NotFinished known information = NF (data_in known)
meaning_by Abort known information = AB (octet_in (known TransportDisconnect)) (data_in known)
meaning_by AbortAccept known information = AA

unfoldable pub meaning : Contents → Meaning
meaning unit = meaning_by unit.kind unit.known unit.information

-- the meanings of units, in order
abbrev pub Said : Type 0
Said = List Meaning

-- a unit alone, and one after a token item
abbrev pub alone : Meaning → Said
alone u = u ∷ []

abbrev pub behind : Meaning → Meaning → Said
behind item u = item ∷ u ∷ []

-- ---- a part of one Data

abbrev pub place_named : ℕ → Option Place
place_named octet = if octet == 0 then Some Middle else if octet == 1 then Some First else if octet == 2 then Some Last else None

-- an absent enclosure is whole
abbrev pub place_in : Option (List ℕ) → Option Place
place_in None = None
place_in (Some value) = place_named (first_in value)

-- which part of a Data a unit has; only a DT has one
abbrev pub place_by : Kind → Known → Option Place
place_by DataTransfer known = place_in (known code.Enclosure)
place_by _ known = None

abbrev pub place_of : Contents → Option Place
place_of unit = place_by unit.kind unit.known

abbrev pub word_at : Option Place → Contents → Word
word_at None unit = says (meaning unit)
word_at (Some place) unit = part place unit.information

unfoldable pub word : Contents → Word
word unit = word_at (place_of unit) unit

abbrev pub said_by_units : Units → Words
said_by_units units = map word units

abbrev pub said_if_read : Result Units SpduFault → Result Words SpduFault
said_if_read (Ok units) = Ok (said_by_units units)
said_if_read (Err fault) = Err fault

-- the meaning of the octets of a TSDU, or their first fault
unfoldable pub said_at : List ℕ → Result Words SpduFault
said_at octets = said_if_read (tsdu_at octets)
