-- The written form of a TSDU: only known parameters, in rising order of code, and each length as short as possible.
use Rattle.std.specs.Prelude.{◌≡◌, ◌<◌, ℕ, ◌++◌, ◌+◌, ◌==◌, ◌&&◌, ◌||◌, Bool, true, false, List, [], ◌∷◌, length, nat_lt, Option, Some, None, is_some, is_none, if◌then◌else◌}
use Rattle.std.specs.List.{flat_map, list_any, list_all, AllByRecursion}
use Rattle.osi_spdu.specs.declared.codes.Code.{Code}
use Rattle.osi_spdu.specs.declared.codes.Code.TheVariants.{CalledReference, CallingReference, CommonReference, AdditionalReference, Enclosure, Reflect, Reason, UserData, ExtendedUserData}
use Rattle.osi_spdu.specs.declared.kinds.Kind.{Kind}
use Rattle.osi_spdu.specs.declared.kinds.Category.{Category}
use Rattle.osi_spdu.specs.declared.kinds.Category.TheVariants.{Zero, One, Two}
use Rattle.osi_spdu.specs.Codes.{number_of, is_same, is_group, every_code}
use Rattle.osi_spdu.specs.Kinds.{si_of, category_of, codes_of, members_of, required_of, may_stand}
use Rattle.osi_spdu.specs.Values.{canonical, may_have_parts, is_three}
use Rattle.osi_spdu.specs.Known.{Known, Contents, Units}
use Rattle.osi_spdu.specs.Reading.{takes_rest}
use Rattle.osi_spdu.specs.Spelling.{item_octets, HasInformation, StandTogether}

-- code or SI, the shortest length indicator, value
abbrev pub written_item : ℕ → List ℕ → List ℕ
written_item code value = item_octets code (nat_lt 254 (length value)) value

abbrev pub among : List Code → Code → Bool
among codes c = list_any (λ d. is_same c d) codes

-- user data above 512 octets has another code in units that know it
unfoldable pub written_code : Kind → Code → List ℕ → Code
written_code kind c value =
    if is_same c UserData && among (codes_of kind) ExtendedUserData && nat_lt 512 (length value) then ExtendedUserData else c

abbrev pub member_octets : Code → Option (List ℕ) → List ℕ
member_octets c None = []
member_octets c (Some value) = written_item (number_of c) value

-- the parameters with these codes that are there
abbrev pub members_octets : Known → List Code → List ℕ
members_octets known codes = flat_map (λ c. member_octets c (known c)) codes

-- the contents of a group
unfoldable pub group_octets : Kind → Known → Code → List ℕ
group_octets kind known c = members_octets known (members_of kind c)

-- the octets of a value; for a group, its contents
abbrev pub value_octets : Kind → Known → Code → List ℕ → List ℕ
value_octets kind known c value = if is_group c then group_octets kind known c else value

abbrev pub parameter_octets : Kind → Known → Code → Option (List ℕ) → List ℕ
parameter_octets kind known c None = []
parameter_octets kind known c (Some value) = written_item (number_of (written_code kind c value)) (value_octets kind known c value)

unfoldable pub body_octets : Kind → Known → List ℕ
body_octets kind known = flat_map (λ c. parameter_octets kind known c (known c)) (codes_of kind)

-- a unit, without the user information of a DT
unfoldable pub unit_octets : Contents → List ℕ
unit_octets unit = written_item (si_of unit.kind) (body_octets unit.kind unit.known)

-- the units one after the other, each followed by its user information
unfoldable pub tsdu_octets : Units → List ℕ
tsdu_octets [] = []
tsdu_octets (unit ∷ units) = unit_octets unit ++ (unit.information ++ tsdu_octets units)

-- ---- what has a written form

-- a code that the unit knows, or one that a group which is there knows
abbrev pub may_be_there : Kind → Known → Code → Bool
may_be_there kind known c =
    among (codes_of kind) c || list_any (λ g. among (members_of kind g) c && is_some (known g)) (codes_of kind)

abbrev pub is_zero : Category → Bool
is_zero Zero = true
is_zero One = false
is_zero Two = false

-- if there is an enclosure, the unit may have it
abbrev pub is_enclosed : Kind → Option (List ℕ) → Bool
is_enclosed kind None = true
is_enclosed kind (Some value) = may_have_parts kind || is_three value

-- the unit knows every parameter that is there, has all mandatory ones, and only a DT has a part of user data
unfoldable pub is_formed : Kind → Known → Bool
is_formed kind known =
    (list_all (λ c. may_be_there kind known c || is_none (known c)) every_code && list_all (λ c. is_some (known c)) (required_of kind))
    && is_enclosed kind (known Enclosure)

-- only a DT has user information
abbrev pub is_informed : Kind → List ℕ → Bool
is_informed kind information = takes_rest kind || (length information == 0)

-- the units that may occur together in a TSDU
unfoldable pub is_joined : Kind → Option Kind → Bool
is_joined first None = may_stand false (category_of first)
is_joined first (Some second) = may_stand false (category_of first) && may_stand true (category_of second) && is_zero (category_of first)

-- each value is in its written form and in its own slot; empty user data counts as none
pub record IsCanonical (known : Known) : Type 0 where
  pub values : (c : Code) (value : List ℕ) → known c ≡ Some value → canonical c value ≡ Some value
  pub slots : known ExtendedUserData ≡ None
  pub data_there : known UserData ≡ Some [] → ⊥

pub record IsFormedUnit (unit : Contents) : Type 0 where
  pub canonical_values : IsCanonical unit.known
  pub formed : is_formed unit.kind unit.known ≡ true
  pub informed : HasInformation unit.kind unit.information

-- the length of a unit fits its length indicator
abbrev pub UnitFits : Contents → Type 0
UnitFits unit = length (body_octets unit.kind unit.known) < 65536

abbrev pub TsduFits : Units → Type 0
TsduFits units = AllByRecursion UnitFits units

-- units that may occur together and are well formed
pub record IsFormedTsdu (units : Units) : Type 0 where
  pub together : StandTogether units
  pub formed : AllByRecursion IsFormedUnit units

-- ---- what fits in any case

abbrev pub value_len : Option (List ℕ) → ℕ
value_len None = 0
value_len (Some value) = length value

-- the number of octets of the values of variable length
unfoldable pub free_len : Known → ℕ
free_len known =
    value_len (known CalledReference) + value_len (known CallingReference) + value_len (known CommonReference) + value_len (known AdditionalReference)
    + value_len (known Reflect) + value_len (known Reason) + value_len (known UserData)
