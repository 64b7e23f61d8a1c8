-- The table of session units, X.225 section 8: SI, category, and the codes known in each.
use Rattle.std.specs.Prelude.{ℕ, ◌==◌, Bool, true, false, List, [], ◌∷◌, Option, cond}
use Rattle.std.specs.List.{find}
use Rattle.osi_spdu.specs.declared.codes.Code.{Code}
use Rattle.osi_spdu.specs.declared.codes.Code.TheVariants.{ConnectionIdentifier, ConnectAcceptItem, CalledReference, CallingReference, CommonReference, AdditionalReference, SyncType, TokenItem, TransportDisconnect, ProtocolOptions, UserRequirements, TsduMaximumSize, Version, InitialNumber, Enclosure, TokenSetting, ResyncType, Number, Reflect, Reason, CallingSelector, CalledSelector, UserData, ExtendedUserData}
use Rattle.osi_spdu.specs.declared.kinds.Kind.{Kind}
use Rattle.osi_spdu.specs.declared.kinds.Kind.TheVariants.{GiveTokens, PleaseTokens, DataTransfer, NotFinished, Finish, Disconnect, Refuse, Connect, Accept, Abort, AbortAccept, ResynchronizeAck, MajorSyncPoint, MajorSyncAck, MinorSyncPoint, MinorSyncAck, Resynchronize}
use Rattle.osi_spdu.specs.declared.kinds.Category.{Category}
use Rattle.osi_spdu.specs.declared.kinds.Category.TheVariants.{Zero, One, Two}

unfoldable pub si_of : Kind → ℕ
si_of GiveTokens = 1
si_of PleaseTokens = 2
si_of DataTransfer = 1
si_of NotFinished = 8
si_of Finish = 9
si_of Disconnect = 10
si_of Refuse = 12
si_of Connect = 13
si_of Accept = 14
si_of Abort = 25
si_of AbortAccept = 26
si_of ResynchronizeAck = 34
si_of MajorSyncPoint = 41
si_of MajorSyncAck = 42
si_of MinorSyncPoint = 49
si_of MinorSyncAck = 50
si_of Resynchronize = 53

unfoldable pub category_of : Kind → Category
category_of GiveTokens = Zero
category_of PleaseTokens = Zero
category_of DataTransfer = Two
category_of NotFinished = One
category_of Finish = One
category_of Disconnect = One
category_of Refuse = One
category_of Connect = One
category_of Accept = One
category_of Abort = One
category_of AbortAccept = One
category_of ResynchronizeAck = Two
category_of MajorSyncPoint = Two
category_of MajorSyncAck = Two
category_of MinorSyncPoint = Two
category_of MinorSyncAck = Two
category_of Resynchronize = Two

-- the codes known in a unit, outside its groups
unfoldable pub codes_of : Kind → List Code
codes_of GiveTokens = TokenItem ∷ []
codes_of PleaseTokens = TokenItem ∷ UserData ∷ []
codes_of DataTransfer = Enclosure ∷ []
codes_of NotFinished = Enclosure ∷ UserData ∷ []
codes_of Finish = TransportDisconnect ∷ Enclosure ∷ UserData ∷ []
codes_of Disconnect = Enclosure ∷ UserData ∷ []
codes_of Refuse = ConnectionIdentifier ∷ TransportDisconnect ∷ UserRequirements ∷ Version ∷ Enclosure ∷ Reason ∷ []
codes_of Connect = ConnectionIdentifier ∷ ConnectAcceptItem ∷ UserRequirements ∷ CallingSelector ∷ CalledSelector ∷ UserData ∷ ExtendedUserData ∷ []
codes_of Accept = ConnectionIdentifier ∷ ConnectAcceptItem ∷ TokenItem ∷ UserRequirements ∷ Enclosure ∷ CallingSelector ∷ CalledSelector ∷ UserData ∷ []
codes_of Abort = TransportDisconnect ∷ Enclosure ∷ Reflect ∷ UserData ∷ []
codes_of AbortAccept = []
codes_of ResynchronizeAck = Enclosure ∷ TokenSetting ∷ Number ∷ UserData ∷ []
codes_of MajorSyncPoint = SyncType ∷ Enclosure ∷ Number ∷ UserData ∷ []
codes_of MajorSyncAck = Enclosure ∷ Number ∷ UserData ∷ []
codes_of MinorSyncPoint = SyncType ∷ Enclosure ∷ Number ∷ UserData ∷ []
codes_of MinorSyncAck = Enclosure ∷ Number ∷ UserData ∷ []
codes_of Resynchronize = Enclosure ∷ TokenSetting ∷ ResyncType ∷ Number ∷ UserData ∷ []

-- the codes known in a group of a unit
abbrev pub references_of : Kind → List Code
references_of Connect = CallingReference ∷ CommonReference ∷ AdditionalReference ∷ []
references_of _ = CalledReference ∷ CommonReference ∷ AdditionalReference ∷ []

unfoldable pub members_of : Kind → Code → List Code
members_of kind ConnectionIdentifier = references_of kind
members_of kind ConnectAcceptItem = ProtocolOptions ∷ TsduMaximumSize ∷ Version ∷ InitialNumber ∷ TokenSetting ∷ []
members_of kind _ = []

-- the mandatory parameters of a unit, outside its groups
unfoldable pub required_of : Kind → List Code
required_of ResynchronizeAck = Number ∷ []
required_of MajorSyncPoint = Number ∷ []
required_of MajorSyncAck = Number ∷ []
required_of MinorSyncPoint = Number ∷ []
required_of MinorSyncAck = Number ∷ []
required_of Resynchronize = ResyncType ∷ Number ∷ []
required_of _ = []

-- the kinds that an SI can name, in the first place of a TSDU and after another unit
abbrev pub later_kinds : List Kind
later_kinds = PleaseTokens ∷ NotFinished ∷ Finish ∷ Disconnect ∷ Refuse ∷ Connect ∷ Accept ∷ Abort ∷ AbortAccept ∷ ResynchronizeAck ∷ MajorSyncPoint ∷ MajorSyncAck ∷ MinorSyncPoint ∷ MinorSyncAck ∷ Resynchronize ∷ []

abbrev pub one_kind : Bool → Kind
one_kind true = DataTransfer
one_kind false = GiveTokens

unfoldable pub kind_named : Bool → ℕ → Option Kind
kind_named second si = find (λ k. si_of k == si) (one_kind second ∷ later_kinds)

-- whether a unit may be the first of a TSDU, or follow another unit
unfoldable pub may_stand : Bool → Category → Bool
may_stand second Zero = cond second false true
may_stand second One = cond second false true
may_stand second Two = second
