-- The faults of a transport unit, each by itself, and the first of them in the order of the octets (X.224 sections 13.2
-- and 13.3).
use Rattle.std.specs.Prelude.{◌≡◌, ℕ, ◌+◌, ◌<◌, ◌≤◌, List, ◌++◌, ◌∷◌, length, slice_index, ◌⊎◌}
use Rattle.std.specs.List.{flat_map}
use Rattle.osi_tpdu.specs.declared.faults.TpduFault.{TpduFault}
use Rattle.osi_tpdu.specs.declared.faults.TpduFault.TheVariants.{BadLi, UnknownCode, BadParameterLength, BadParameterValue, DuplicateParameter}
use Rattle.osi_tpdu.specs.Spelling.{Item, item_octets, values_of}

-- ---- the table of units

-- the units by their codes; a DT is of either class
pub data Kind : Type 0 where
  Request : Kind
  Confirm : Kind
  Disconnect : Kind
  Disconnected : Kind
  Transfer : Kind
  Acknowledge : Kind
  Report : Kind

-- a code and a credit
abbrev pub WithCredit : ℕ → ℕ → Type 0
WithCredit base code = (credit : ℕ) × (credit < 16) × (code ≡ base + credit)

-- the first octet of the header is the code of such a unit
abbrev pub HasCode : Kind → ℕ → Type 0
HasCode Request code = WithCredit 0xE0 code
HasCode Confirm code = WithCredit 0xD0 code
HasCode Disconnect code = code ≡ 0x80
HasCode Disconnected code = code ≡ 0xC0
HasCode Transfer code = code ≡ 0xF0
HasCode Acknowledge code = WithCredit 0x60 code
HasCode Report code = code ≡ 0x70

-- such a unit may have a header of this many octets
abbrev pub MayCount : Kind → ℕ → Type 0
MayCount Request n = 6 ≤ n
MayCount Confirm n = 6 ≤ n
MayCount Disconnect n = 6 ≤ n
MayCount Disconnected n = n ≡ 5
MayCount Transfer n = (n ≡ 2) ⊎ (n ≡ 4)
MayCount Acknowledge n = n ≡ 4
MayCount Report n = 4 ≤ n

-- its parameters begin after this many octets of the header
abbrev pub HasParametersBehind : Kind → ℕ → Type 0
HasParametersBehind Request n = n ≡ 6
HasParametersBehind Confirm n = n ≡ 6
HasParametersBehind Disconnect n = n ≡ 6
HasParametersBehind Disconnected n = ⊥
HasParametersBehind Transfer n = ⊥
HasParametersBehind Acknowledge n = ⊥
HasParametersBehind Report n = n ≡ 4

-- the parameters of a CR and a CC are looked at, and those of a DR and an ER are skipped
abbrev pub LooksAtParameters : Kind → Type 0
LooksAtParameters Request = Unit {0}
LooksAtParameters Confirm = Unit {0}
LooksAtParameters Disconnect = ⊥
LooksAtParameters Disconnected = ⊥
LooksAtParameters Transfer = ⊥
LooksAtParameters Acknowledge = ⊥
LooksAtParameters Report = ⊥

-- ---- the table of parameters

-- the parameters that are known
pub data Parameter : Type 0 where
  Size : Parameter
  Calling : Parameter
  Called : Parameter
  Additional : Parameter
  Alternative : Parameter

abbrev pub code_of : Parameter → ℕ
code_of Size = 0xC0
code_of Calling = 0xC1
code_of Called = 0xC2
code_of Additional = 0xC6
code_of Alternative = 0xC7

-- its value may have this many octets
abbrev pub MayBeLong : Parameter → ℕ → Type 0
MayBeLong Size n = n ≡ 1
MayBeLong Calling n = n ≤ 32
MayBeLong Called n = n ≤ 32
MayBeLong Additional n = n ≡ 1
MayBeLong Alternative n = Unit {0}

-- it may have the value
abbrev pub MayHold : Parameter → List ℕ → Type 0
MayHold Size value = (7 ≤ slice_index value 0) × (slice_index value 0 ≤ 13)
MayHold Calling value = Unit {0}
MayHold Called value = Unit {0}
MayHold Additional value = Unit {0}
MayHold Alternative value = Unit {0}

-- ---- the faults of a parameter

-- no complete parameter is at the front of the octets: its length is missing or exceeds them
abbrev pub HasNoItem : List ℕ → Type 0
HasNoItem octets = (item : Item) (rest : List ℕ) → octets ≡ item_octets item ++ rest → ⊥

-- a parameter of a kind that is looked at is at the front of the octets, with this value
pub record BeginsWith (kind : Kind) (parameter : Parameter) (value octets : List ℕ) : Type 0 where
  pub looks : LooksAtParameters kind
  pub rest : List ℕ
  pub whole : octets ≡ item_octets (record { code = code_of parameter; value = value }) ++ rest

-- there is no complete parameter, or one with a length that its code does not allow
abbrev pub HasBadLength : Kind → List ℕ → Type 0
HasBadLength kind octets =
    HasNoItem octets
    ⊎ ((parameter : Parameter) × (value : List ℕ) × BeginsWith kind parameter value octets × (MayBeLong parameter (length value) → ⊥))

-- there is one whose code occurred before it
abbrev pub IsRepeated : Kind → List Item → List ℕ → Type 0
IsRepeated kind before octets =
    (parameter : Parameter) × (value : List ℕ) × BeginsWith kind parameter value octets × (1 ≤ length (values_of (code_of parameter) before))

-- there is one with a value that its code does not allow
abbrev pub HasBadValue : Kind → List ℕ → Type 0
HasBadValue kind octets =
    (parameter : Parameter) × (value : List ℕ) × BeginsWith kind parameter value octets × (MayHold parameter value → ⊥)

-- a fault at the front of the octets, which begin at this offset after these parameters
abbrev pub HasItemFault : Kind → ℕ → List Item → List ℕ → TpduFault → Type 0
HasItemFault kind at before octets fault =
    ((fault ≡ BadParameterLength at) × HasBadLength kind octets)
    ⊎ (((fault ≡ DuplicateParameter at) × IsRepeated kind before octets)
    ⊎ ((fault ≡ BadParameterValue at) × HasBadValue kind octets))

-- a fault of the parameters that begin at this offset; those before it are complete, good or bad
pub record HasParameterFault (kind : Kind) (at : ℕ) (octets : List ℕ) (fault : TpduFault) : Type 0 where
  pub items : List Item
  pub rest : List ℕ
  pub whole : octets ≡ flat_map item_octets items ++ rest
  pub some : 1 ≤ length rest
  pub bad : HasItemFault kind (at + length (flat_map item_octets items)) items rest fault

-- ---- the faults of a unit

-- the octets begin with a length indicator of 1 to 254 and as many octets, the header
pub record HasHeader (octets header behind : List ℕ) : Type 0 where
  pub whole : octets ≡ length header ∷ header ++ behind
  pub at_least : 1 ≤ length header
  pub at_most : length header ≤ 254

-- the length indicator is missing, 0 or 255, or passes the end of the octets
abbrev pub HasNoHeader : List ℕ → Type 0
HasNoHeader octets = (header behind : List ℕ) → HasHeader octets header behind → ⊥

-- a unit with this header, of this kind, is at the front of the octets
pub record BeginsUnit (kind : Kind) (octets header : List ℕ) : Type 0 where
  pub behind : List ℕ
  pub there : HasHeader octets header behind
  pub code : HasCode kind (slice_index header 0)

-- there is no header, or one with a length that its kind does not allow
abbrev pub HasBadIndicator : List ℕ → Type 0
HasBadIndicator octets =
    HasNoHeader octets ⊎ ((kind : Kind) × (header : List ℕ) × BeginsUnit kind octets header × (MayCount kind (length header) → ⊥))

-- there is a header, and its code belongs to no unit
abbrev pub HasUnknownCode : List ℕ → Type 0
HasUnknownCode octets =
    (header : List ℕ) × (behind : List ℕ) × HasHeader octets header behind × ((kind : Kind) → HasCode kind (slice_index header 0) → ⊥)

-- a parameter after the fixed part of the unit at this offset has the fault
abbrev pub HasFaultBehind : ℕ → List ℕ → TpduFault → Type 0
HasFaultBehind at octets fault =
    (kind : Kind) × (fixed : List ℕ) × (parameters : List ℕ) × BeginsUnit kind octets (fixed ++ parameters)
    × HasParametersBehind kind (length fixed) × HasParameterFault kind (at + (1 + length fixed)) parameters fault

-- any fault of the unit at this offset, whatever others it has
abbrev pub HasFault : ℕ → List ℕ → TpduFault → Type 0
HasFault at octets fault =
    ((fault ≡ BadLi at) × HasBadIndicator octets)
    ⊎ (((fault ≡ UnknownCode (at + 1)) × HasUnknownCode octets)
    ⊎ HasFaultBehind at octets fault)

-- ---- the first of them

abbrev pub place_of : TpduFault → ℕ
place_of (BadLi at) = at
place_of (UnknownCode at) = at
place_of (BadParameterLength at) = at
place_of (BadParameterValue at) = at
place_of (DuplicateParameter at) = at

-- the order of faults at the same place
abbrev pub rank_of : TpduFault → ℕ
rank_of (BadLi at) = 0
rank_of (UnknownCode at) = 1
rank_of (BadParameterLength at) = 2
rank_of (DuplicateParameter at) = 3
rank_of (BadParameterValue at) = 4

abbrev pub StandsBefore : TpduFault → TpduFault → Type 0
StandsBefore fault other = (place_of fault < place_of other) ⊎ ((place_of fault ≡ place_of other) × (rank_of fault < rank_of other))

-- one of the faults, and every other comes after it
pub record IsFirst (Has : TpduFault → Type 0) (fault : TpduFault) : Type 0 where
  pub there : Has fault
  pub first : (other : TpduFault) → Has other → (other ≡ fault) ⊎ StandsBefore fault other

-- the first fault of the unit at this offset
abbrev pub IsUnitFault : ℕ → List ℕ → TpduFault → Type 0
IsUnitFault at octets = IsFirst (HasFault at octets)
