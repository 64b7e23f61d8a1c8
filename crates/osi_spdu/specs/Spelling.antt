-- Which octets spell a TSDU, X.225 section 8: parameters in any order.
use Rattle.std.specs.Prelude.{◌≡◌, ◌<◌, ◌≤◌, ℕ, ◌/◌, ◌%◌, ◌++◌, Bool, true, false, List, [], ◌∷◌, length, map, Option, Some, None, IsSome}
use Rattle.std.specs.List.{flat_map, AllByRecursion}
use Rattle.osi_unit.specs.Octets.{IsOctets}
use Rattle.osi_spdu.specs.declared.codes.Code.{Code}
use Rattle.osi_spdu.specs.declared.kinds.Kind.{Kind}
use Rattle.osi_spdu.specs.declared.kinds.Kind.TheVariants.{DataTransfer}
use Rattle.osi_spdu.specs.declared.kinds.Category.{Category}
use Rattle.osi_spdu.specs.declared.kinds.Category.TheVariants.{Zero, One, Two}
use Rattle.osi_spdu.specs.Codes.{is_group, slot_of}
use Rattle.osi_spdu.specs.Kinds.{si_of, category_of, codes_of, members_of, required_of}
use Rattle.osi_spdu.specs.Values.{canonical_in}
use Rattle.osi_spdu.specs.Known.{Known, nothing, put, settled, Contents, Units}
use Rattle.osi_spdu.specs.Reading.{code_among}

-- a length indicator: one octet, or FF and two
abbrev pub length_octets : Bool → ℕ → List ℕ
length_octets false n = n ∷ []
length_octets true n = 255 ∷ n / 256 ∷ n % 256 ∷ []

abbrev pub HasLength : Bool → ℕ → Type 0
HasLength false n = n < 255
HasLength true n = n < 65536

-- code or SI, length, value
abbrev pub item_octets : ℕ → Bool → List ℕ → List ℕ
item_octets code long value = code ∷ [] ++ length_octets long (length value) ++ value

-- a parameter as it is spelled, with the values that it gives
pub record Part : Type 0 where
  pub code : ℕ
  pub long : Bool
  pub value : List ℕ
  pub gives : Known

abbrev pub part_octets : Part → List ℕ
part_octets p = item_octets p.code p.long p.value

-- at most one of the options is there, and it is this one
abbrev pub Sole : List (Option (List ℕ)) → Option (List ℕ) → Type 0
Sole [] o = o ≡ None
Sole (None ∷ options) o = Sole options o
Sole (Some value ∷ options) o = (o ≡ Some value) × Sole options None

abbrev pub IsPart : (ℕ → List ℕ → Known → Type 0) → Part → Type 0
IsPart means p = (p.code < 256) × HasLength p.long (length p.value) × means p.code p.value p.gives

-- The octets are parameters, each with its meaning, and no two of them give the same value.
pub record Spells (means : ℕ → List ℕ → Known → Type 0) (known : Known) (octets : List ℕ) : Type 0 where
  pub parts : List Part
  pub whole : octets ≡ flat_map part_octets parts
  pub each : AllByRecursion (IsPart means) parts
  pub once : (c : Code) → Sole (map (λ p. p.gives c) parts) (known c)

-- one value and no other
abbrev pub only : Code → List ℕ → Known
only slot value = put slot value nothing

-- an unknown code gives nothing, a known one gives the value of its slot
abbrev pub MemberOf : Kind → List ℕ → Known → Option Code → Type 0
MemberOf kind value gives None = gives ≡ nothing
MemberOf kind value gives (Some c) = (form : List ℕ) × (canonical_in kind c value ≡ Some form) × (gives ≡ only (slot_of c) form)

unfoldable pub MeansInGroup : Kind → List Code → ℕ → List ℕ → Known → Type 0
MeansInGroup kind members code value gives = MemberOf kind value gives (code_among members code)

-- a group gives its presence, and what its parameters give
abbrev pub GroupOf : Kind → Code → List ℕ → Known → Type 0
GroupOf kind c value gives =
    (inner : Known) × Spells (MeansInGroup kind (members_of kind c)) inner value
    × ((d : Code) → Sole (only c [] d ∷ inner d ∷ []) (gives d))

abbrev pub ParameterOf : Kind → Code → List ℕ → Known → Bool → Type 0
ParameterOf kind c value gives true = GroupOf kind c value gives
ParameterOf kind c value gives false = MemberOf kind value gives (Some c)

abbrev pub KnownOf : Kind → List ℕ → Known → Option Code → Type 0
KnownOf kind value gives None = gives ≡ nothing
KnownOf kind value gives (Some c) = ParameterOf kind c value gives (is_group c)

unfoldable pub MeansInUnit : Kind → ℕ → List ℕ → Known → Type 0
MeansInUnit kind code value gives = KnownOf kind value gives (code_among (codes_of kind) code)

-- The octets are one unit, without the user information of a DT.
pub record SpellsUnit (unit : Contents) (octets : List ℕ) : Type 0 where
  pub long : Bool
  pub body : List ℕ
  pub raw : Known
  pub whole : octets ≡ item_octets (si_of unit.kind) long body
  pub counted : HasLength long (length body)
  pub params : Spells (MeansInUnit unit.kind) raw body
  pub required : AllByRecursion (λ c. IsSome (raw c)) (required_of unit.kind)
  pub value : unit.known ≡ settled raw

-- only a DT has user information
abbrev pub HasInformation : Kind → List ℕ → Type 0
HasInformation DataTransfer information = Unit {0}
HasInformation _ information = information ≡ []

-- a DT is the last unit of its TSDU
abbrev pub EndsTsdu : Kind → Units → Type 0
EndsTsdu DataTransfer units = units ≡ []
EndsTsdu _ units = Unit {0}

-- units of category 2, only the last of which may be a DT
abbrev pub AreBehind : Units → Type 0
AreBehind [] = Unit {0}
AreBehind (unit ∷ units) = (category_of unit.kind ≡ Two) × EndsTsdu unit.kind units × AreBehind units

-- at most 16 units follow a unit of category 0, and none follows a unit of category 1
abbrev pub MayFollow : Category → Units → Type 0
MayFollow Zero units = length units ≤ 16
MayFollow One units = units ≡ []
MayFollow Two units = ⊥

-- Units that may occur together in a TSDU (section 6.3.7): one of category 0 or 1, and after one of category 0 units of
-- category 2.
unfoldable pub StandTogether : Units → Type 0
StandTogether [] = ⊥
StandTogether (first ∷ behind) = MayFollow (category_of first.kind) behind × AreBehind behind

-- the units one after the other, each followed by its user information
abbrev pub AreUnits : Units → List ℕ → Type 0
AreUnits [] octets = octets ≡ []
AreUnits (unit ∷ units) octets =
    (front : List ℕ) × (rest : List ℕ) × (octets ≡ front ++ (unit.information ++ rest))
    × SpellsUnit unit front × HasInformation unit.kind unit.information × AreUnits units rest

-- The octets are a TSDU of these units.
unfoldable pub SpellsTsdu : Units → List ℕ → Type 0
SpellsTsdu units octets = IsOctets octets × StandTogether units × AreUnits units octets

-- a TSDU is all of its octets
abbrev pub IsAll : Units → List ℕ → Type 0
IsAll units rest = rest ≡ []
