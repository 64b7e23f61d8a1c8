-- The units in which a meaning is sent.
use Rattle.std.specs.Prelude.{ℕ, Bool, true, false, List, [], ◌∷◌, Option, option_map, if◌then◌else◌}
use Rattle.osi_spdu.specs.declared.kinds.Kind.{Kind}
use Rattle.osi_spdu.specs.declared.kinds.Kind.TheVariants.{GiveTokens, PleaseTokens, DataTransfer, NotFinished, Finish, Disconnect, Refuse, Connect, Accept, Abort, AbortAccept, ResynchronizeAck, MajorSyncPoint, MajorSyncAck, MinorSyncPoint, MinorSyncAck, Resynchronize}
use Rattle.osi_spdu.specs.declared.codes.Code.{Code}
use Rattle.osi_spdu.specs.declared.codes.Code.TheVariants.{ConnectAcceptItem, SyncType, TokenItem, TransportDisconnect, ProtocolOptions, UserRequirements, Version, InitialNumber, Number, Reason, CallingSelector, CalledSelector, UserData}
use Rattle.osi_spdu.specs.declared.codes.Code.TheVariants as code
use Rattle.osi_spdu.specs.declared.fields.TsduMaximumSize.{TsduMaximumSize}
use Rattle.osi_spdu.specs.declared.settings.TokenSetting.{TokenSetting}
use Rattle.osi_spdu.specs.Codes.{is_same}
use Rattle.osi_spdu.specs.Values.{digits_of}
use Rattle.osi_spdu.specs.Fields.{two_octets, size_octets, setting_octets, resync_octet}
use Rattle.osi_spdu.specs.Sizes.{written_sizes}
use Rattle.osi_spdu.specs.Known.{Known, nothing, put, settled, Contents, Units}
use Rattle.osi_spdu.specs.Writing.{tsdu_octets}
use Rattle.osi_message.specs.Tokens.{token_octet}
use Rattle.osi_message.specs.Meanings.{Meaning, CN, AC, RF, DT, GT, PT, MIP, MIA, MAP, MAA, RS, RA, FN, DN, NF, AB, AA}

-- a parameter that may be absent
abbrev pub put_some : Code → Option (List ℕ) → Known → Known
put_some slot value known = λ c. if is_same c slot then value else known c

-- user data, if there is an octet of it
abbrev pub with_data : List ℕ → Known → Known
with_data octets known = settled (put UserData octets known)

-- a unit with these parameters
abbrev pub unit_with : Kind → Known → Contents
unit_with kind known = record { kind = kind; known = known; information = [] }

-- protocol options 01 and version 02; the sizes, if one of them is not 0; the number and the wishes or sides; the
-- requirements
abbrev pub terms : Option ℕ → TokenSetting → ℕ → TsduMaximumSize → Known
terms serial setting requirements sizes =
    put ConnectAcceptItem [] (put ProtocolOptions (1 ∷ []) (put_some code.TsduMaximumSize (option_map size_octets (written_sizes sizes)) (put Version (2 ∷ [])
    (put_some InitialNumber (option_map digits_of serial) (put code.TokenSetting (setting_octets setting)
    (put UserRequirements (two_octets requirements) nothing))))))

abbrev pub numbered : ℕ → Known
numbered n = put Number (digits_of n) nothing

-- a CN with its selectors
abbrev pub connect_unit : ℕ → Option ℕ → TokenSetting → Option (List ℕ) → Option (List ℕ) → TsduMaximumSize → List ℕ → Contents
connect_unit requirements serial wishes calling called sizes octets =
    unit_with Connect (with_data octets (put_some CallingSelector calling (put_some CalledSelector called (terms serial wishes requirements sizes))))

-- a sync type that is absent asks for the confirmation
abbrev pub sync_type : Bool → Known → Known
sync_type confirm known = if confirm then known else put SyncType (1 ∷ []) known

-- the unit of a meaning
unfoldable pub unit_of : Meaning → Contents
unit_of (CN version_2 requirements serial wishes calling called sizes octets) = connect_unit requirements serial wishes calling called sizes octets
unit_of (AC version_2 requirements serial sides sizes octets) = unit_with Accept (with_data octets (terms serial sides requirements sizes))
unit_of (RF reason octets) = unit_with Refuse (put TransportDisconnect (1 ∷ []) (put Reason (reason ∷ octets) nothing))
unit_of (DT octets) = record { kind = DataTransfer; known = nothing; information = octets }
unit_of (GT tokens) = unit_with GiveTokens (put TokenItem (token_octet tokens ∷ []) nothing)
unit_of (PT tokens octets) = unit_with PleaseTokens (with_data octets (put TokenItem (token_octet tokens ∷ []) nothing))
unit_of (MIP confirm n octets) = unit_with MinorSyncPoint (with_data octets (sync_type confirm (numbered n)))
unit_of (MIA n octets) = unit_with MinorSyncAck (with_data octets (numbered n))
unit_of (MAP n octets) = unit_with MajorSyncPoint (with_data octets (put SyncType (1 ∷ []) (numbered n)))
unit_of (MAA n octets) = unit_with MajorSyncAck (with_data octets (numbered n))
unit_of (RS kind n wishes octets) = unit_with Resynchronize
    (with_data octets (put code.TokenSetting (setting_octets wishes) (put code.ResyncType (resync_octet kind ∷ []) (numbered n))))
unit_of (RA n sides octets) = unit_with ResynchronizeAck (with_data octets (put code.TokenSetting (setting_octets sides) (numbered n)))
unit_of (FN octets) = unit_with Finish (with_data octets nothing)
unit_of (DN octets) = unit_with Disconnect (with_data octets nothing)
unit_of (NF octets) = unit_with NotFinished (with_data octets nothing)
unit_of (AB bits octets) = unit_with Abort (with_data octets (put TransportDisconnect (bits ∷ []) nothing))
unit_of AA = unit_with AbortAccept nothing

-- data, and everything about points, comes after a GT
unfoldable pub is_second : Meaning → Bool
is_second (CN version_2 requirements serial wishes calling called sizes octets) = false
is_second (AC version_2 requirements serial sides sizes octets) = false
is_second (RF reason octets) = false
is_second (DT octets) = true
is_second (GT tokens) = false
is_second (PT tokens octets) = false
is_second (MIP confirm n octets) = true
is_second (MIA n octets) = true
is_second (MAP n octets) = true
is_second (MAA n octets) = true
is_second (RS kind n wishes octets) = true
is_second (RA n sides octets) = true
is_second (FN octets) = false
is_second (DN octets) = false
is_second (NF octets) = false
is_second (AB bits octets) = false
is_second AA = false

-- a unit alone
abbrev pub alone_units : Contents → Units
alone_units unit = unit ∷ []

-- a GT with no token, and the unit after it
abbrev pub behind_tokens : Contents → Units
behind_tokens unit = unit_with GiveTokens nothing ∷ unit ∷ []

unfoldable pub spelled : Meaning → Units
spelled m = if is_second m then behind_tokens (unit_of m) else alone_units (unit_of m)

-- the octets in which a meaning is sent
abbrev pub written : Meaning → List ℕ
written m = tsdu_octets (spelled m)

-- the octets of a user that go into a parameter, whose length is bounded
unfoldable pub user_data_of : Meaning → List ℕ
user_data_of (CN version_2 requirements serial wishes calling called sizes octets) = octets
user_data_of (AC version_2 requirements serial sides sizes octets) = octets
user_data_of (RF reason octets) = octets
user_data_of (DT octets) = []
user_data_of (GT tokens) = []
user_data_of (PT tokens octets) = octets
user_data_of (MIP confirm n octets) = octets
user_data_of (MIA n octets) = octets
user_data_of (MAP n octets) = octets
user_data_of (MAA n octets) = octets
user_data_of (RS kind n wishes octets) = octets
user_data_of (RA n sides octets) = octets
user_data_of (FN octets) = octets
user_data_of (DN octets) = octets
user_data_of (NF octets) = octets
user_data_of (AB bits octets) = octets
user_data_of AA = []
