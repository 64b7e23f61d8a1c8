-- The codes of parameters and parameter groups, X.225 section 8.
use Rattle.std.specs.Prelude.{ℕ, ◌==◌, Bool, true, false, List, [], ◌∷◌}
use Rattle.osi_spdu.specs.declared.codes.Code.{Code}
use Rattle.osi_spdu.specs.declared.codes.Code.TheVariants.{ConnectionIdentifier, ConnectAcceptItem, CalledReference, CallingReference, CommonReference, AdditionalReference, SyncType, TokenItem, TransportDisconnect, ProtocolOptions, UserRequirements, TsduMaximumSize, Version, InitialNumber, Enclosure, TokenSetting, ResyncType, Number, Reflect, Reason, CallingSelector, CalledSelector, UserData, ExtendedUserData}

unfoldable pub number_of : Code → ℕ
number_of ConnectionIdentifier = 1
number_of ConnectAcceptItem = 5
number_of CalledReference = 9
number_of CallingReference = 10
number_of CommonReference = 11
number_of AdditionalReference = 12
number_of SyncType = 15
number_of TokenItem = 16
number_of TransportDisconnect = 17
number_of ProtocolOptions = 19
number_of UserRequirements = 20
number_of TsduMaximumSize = 21
number_of Version = 22
number_of InitialNumber = 23
number_of Enclosure = 25
number_of TokenSetting = 26
number_of ResyncType = 27
number_of Number = 42
number_of Reflect = 49
number_of Reason = 50
number_of CallingSelector = 51
number_of CalledSelector = 52
number_of UserData = 193
number_of ExtendedUserData = 194

-- whether two codes are the same
abbrev pub is_same : Code → Code → Bool
is_same c d = number_of c == number_of d

-- the codes whose value is parameters
unfoldable pub is_group : Code → Bool
is_group ConnectionIdentifier = true
is_group ConnectAcceptItem = true
is_group _ = false

-- user data has one slot, under either of its two codes
unfoldable pub slot_of : Code → Code
slot_of ExtendedUserData = UserData
slot_of c = c

-- every code, in rising order
abbrev pub every_code : List Code
every_code = ConnectionIdentifier ∷ ConnectAcceptItem ∷ CalledReference ∷ CallingReference ∷ CommonReference ∷ AdditionalReference ∷ SyncType ∷ TokenItem ∷ TransportDisconnect ∷ ProtocolOptions ∷ UserRequirements ∷ TsduMaximumSize ∷ Version ∷ InitialNumber ∷ Enclosure ∷ TokenSetting ∷ ResyncType ∷ Number ∷ Reflect ∷ Reason ∷ CallingSelector ∷ CalledSelector ∷ UserData ∷ ExtendedUserData ∷ []
