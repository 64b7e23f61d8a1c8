-- The fields of an indication in C. All of them are listed, so a field that the tag does not have is 0.
use Rattle.std.specs.Prelude.{◌≡◌, ℕ, Bool, true, false, List, [], Option, Some, None}
use denote.Ref.{Bor}
use Rattle.osi_spdu.specs.declared.faults.SpduFault.{SpduFault}
use Rattle.osi_spdu.specs.declared.faults.SpduFault.TheVariants.{UnknownSi, LengthPastEnd, MissingParameter, DuplicateParameter, BadValue, BadConcatenation, TrailingOctets}
use Rattle.osi_spdu.specs.declared.settings.Side.{Side}
use Rattle.osi_spdu.specs.declared.settings.Side.TheVariants as side
use Rattle.osi_spdu.specs.declared.settings.Wish.{Wish}
use Rattle.osi_spdu.specs.declared.settings.Wish.TheVariants as wish
use Rattle.osi_spdu.specs.declared.fields.TsduMaximumSize.{TsduMaximumSize}
use Rattle.osi_spdu.specs.declared.settings.TokenSetting.{TokenSetting}
use Rattle.osi_session.specs.Shown.{Shown, Connect, Connected, RefusedByTransport, RefusedBySession, Data, Given, Asked, Minor, MinorConfirmed, Major, MajorConfirmed, Restart, Restarted, Release, Released, ReleaseRefused, Aborted, Lost, PeerAbort, BadUnit}
use Rattle.osi_session.specs.declared.faults.UnitFault.{UnitFault}
use Rattle.osi_session.specs.declared.faults.UnitFault.TheVariants.{Spelling, Unexpected, NotSelected, TokenHeld, BadNumber, BadTokens, BadEnclosure, DataTooLong}
use Rattle.osi_session.specs.declared.sides.Sides.{Sides}
use Rattle.osi_c.specs.declared.arguments.OsiSides.{OsiSides}
use Rattle.osi_c.specs.declared.telling.OsiFault.{OsiFault}
use Rattle.osi_c.specs.declared.telling.OsiIndication.{OsiIndication}

-- ---- a fault

-- why octets are not session units: which fault of spelling, of which parameter, and where
abbrev pub spelled : ℕ → ℕ → ℕ → OsiFault
spelled spelling parameter at = record { fault = 1; si = 0; spelling = spelling; parameter = parameter; offset = at }

abbrev pub spelling_told : SpduFault → OsiFault
spelling_told (UnknownSi at) = spelled 1 0 at
spelling_told (LengthPastEnd at) = spelled 2 0 at
spelling_told (MissingParameter code at) = spelled 3 code at
spelling_told (DuplicateParameter code at) = spelled 4 code at
spelling_told (BadValue code at) = spelled 5 code at
spelling_told (BadConcatenation at) = spelled 6 0 at
spelling_told (TrailingOctets at) = spelled 7 0 at

-- why a unit is bad, by its SI
abbrev pub of_unit : ℕ → ℕ → OsiFault
of_unit fault si = record { fault = fault; si = si; spelling = 0; parameter = 0; offset = 0 }

abbrev pub fault_told : UnitFault → OsiFault
fault_told (Spelling fault) = spelling_told fault
fault_told (Unexpected si) = of_unit 2 si
fault_told (NotSelected si) = of_unit 3 si
fault_told (TokenHeld si) = of_unit 4 si
fault_told (BadNumber si) = of_unit 5 si
fault_told (BadTokens si) = of_unit 6 si
fault_told (BadEnclosure si) = of_unit 7 si
fault_told (DataTooLong si) = of_unit 8 si

-- ---- the side for each token

abbrev pub side_told : Side → ℕ
side_told side.Asker = 0
side_told side.Answerer = 1

abbrev pub wish_told : Wish → ℕ
wish_told wish.Asker = 0
wish_told wish.Answerer = 1
wish_told wish.Choice = 2

abbrev pub sides_told : Sides → OsiSides
sides_told s = record { data_token = side_told s.data_token; minor = side_told s.minor; major = side_told s.major; release = side_told s.release }

abbrev pub wishes_told : TokenSetting → OsiSides
wishes_told s = record { data_token = wish_told s.data_token; minor = wish_told s.minor; major = wish_told s.major; release = wish_told s.release }

-- ---- an indication

-- whether a serial number is named, and which
abbrev pub is_named : Option ℕ → ℕ
is_named None = 0
is_named (Some number) = 1

abbrev pub number_named : Option ℕ → ℕ
number_named None = 0
number_named (Some number) = number

-- 1 for yes, and 0 for no
abbrev pub flag : Bool → ℕ
flag true = 1
flag false = 0

-- an indication with only its connection, its tag and the user data that is lent
abbrev pub plain : ℕ → ℕ → Bor (List ℕ) → OsiIndication
plain r tag lent = record {
  tag = tag;
  number = 0;
  reference = r;
  requirements = 0;
  has_number = 0;
  confirm = 0;
  tokens = 0;
  reason = 0;
  sides = record { data_token = 0; minor = 0; major = 0; release = 0 };
  fault = of_unit 0 0;
  user_data = lent;
  size_from_asker = 0;
  size_from_answerer = 0;
}

-- the other fields of an opening
abbrev pub opened : ℕ → Option ℕ → OsiSides → TsduMaximumSize → OsiIndication → OsiIndication
opened units serial sides sizes i = record i {
  requirements = units;
  has_number = is_named serial;
  number = number_named serial;
  sides = sides;
  size_from_asker = sizes.from_asker;
  size_from_answerer = sizes.from_answerer;
}

-- an indication as C receives it, with the user data that is lent
abbrev pub telling : ℕ → Shown → Bor (List ℕ) → OsiIndication
telling r (Connect units serial wishes sizes octets) lent = opened units serial (wishes_told wishes) sizes (plain r 1 lent)
telling r (Connected units serial sides sizes octets) lent = opened units serial (sides_told sides) sizes (plain r 2 lent)
telling r (RefusedByTransport reason) lent = record (plain r 3 lent) { reason = reason }
telling r (RefusedBySession reason octets) lent = record (plain r 4 lent) { reason = reason }
telling r (Data octets) lent = plain r 5 lent
telling r (Given tokens) lent = record (plain r 6 lent) { tokens = tokens }
telling r (Asked tokens octets) lent = record (plain r 7 lent) { tokens = tokens }
telling r (Minor number confirm octets) lent = record (plain r 8 lent) { number = number; confirm = flag confirm }
telling r (MinorConfirmed number octets) lent = record (plain r 9 lent) { number = number }
telling r (Major number octets) lent = record (plain r 10 lent) { number = number }
telling r (MajorConfirmed octets) lent = plain r 11 lent
telling r (Restart number wishes octets) lent = record (plain r 12 lent) { number = number; sides = wishes_told wishes }
telling r (Restarted number sides octets) lent = record (plain r 13 lent) { number = number; sides = sides_told sides }
telling r (Release octets) lent = plain r 14 lent
telling r (Released octets) lent = plain r 15 lent
telling r (ReleaseRefused octets) lent = plain r 16 lent
telling r (Aborted octets) lent = plain r 17 lent
telling r Lost lent = plain r 18 lent
telling r (PeerAbort bits) lent = record (plain r 19 lent) { reason = bits }
telling r (BadUnit fault) lent = record (plain r 20 lent) { fault = fault_told fault }

-- the user data; none if the tag has none
abbrev pub data_shown : Shown → List ℕ
data_shown (Connect _ _ _ _ octets) = octets
data_shown (Connected _ _ _ _ octets) = octets
data_shown (RefusedBySession _ octets) = octets
data_shown (Data octets) = octets
data_shown (Asked _ octets) = octets
data_shown (Minor _ _ octets) = octets
data_shown (MinorConfirmed _ octets) = octets
data_shown (Major _ octets) = octets
data_shown (MajorConfirmed octets) = octets
data_shown (Restart _ _ octets) = octets
data_shown (Restarted _ _ octets) = octets
data_shown (Release octets) = octets
data_shown (Released octets) = octets
data_shown (ReleaseRefused octets) = octets
data_shown (Aborted octets) = octets
data_shown _ = []

-- the tag, the connection and the fields of an indication
abbrev pub Says : OsiIndication → ℕ → Shown → Type 0
Says i r shown = (i ≡ telling r shown i.user_data) × (i.user_data.now ≡ data_shown shown)

-- no indication, or one for the user of a connection
abbrev pub Tells : OsiIndication → Option (ℕ × Shown) → Type 0
Tells i None = (i ≡ plain 0 0 i.user_data) × (i.user_data.now ≡ [])
Tells i (Some (r, shown)) = Says i r shown

-- ---- which indications each function describes

-- which indications tell of the opening of a connection
abbrev pub is_opening : Shown → Bool
is_opening (Connect _ _ _ _ _) = true
is_opening (Connected _ _ _ _ _) = true
is_opening (RefusedByTransport _) = true
is_opening (RefusedBySession _ _) = true
is_opening _ = false

-- which tell of data, of a minor point or of its confirmation
abbrev pub is_common : Shown → Bool
is_common (Data _) = true
is_common (Minor _ _ _) = true
is_common (MinorConfirmed _ _) = true
is_common _ = false

-- which tell of a restart
abbrev pub is_restart : Shown → Bool
is_restart (Restart _ _ _) = true
is_restart (Restarted _ _ _) = true
is_restart _ = false
