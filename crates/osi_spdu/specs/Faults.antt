-- The first fault of a TSDU, X.225 section 8: the well-formed octets before it, and then the item that has it.
use Rattle.std.specs.Prelude.{◌≡◌, ◌+◌, ◌≤◌, ℕ, ◌++◌, Bool, true, false, List, [], ◌∷◌, length, map, Option, Some, None, IsSome, ◌⊎◌}
use Rattle.std.specs.List.{flat_map, AllByRecursion}
use Rattle.osi_spdu.specs.declared.faults.SpduFault.{SpduFault}
use Rattle.osi_spdu.specs.declared.faults.SpduFault.TheVariants.{UnknownSi, LengthPastEnd, MissingParameter, DuplicateParameter, BadValue, BadConcatenation, TrailingOctets}
use Rattle.osi_spdu.specs.declared.codes.Code.{Code}
use Rattle.osi_spdu.specs.declared.kinds.Kind.{Kind}
use Rattle.osi_spdu.specs.declared.kinds.Category.{Category}
use Rattle.osi_spdu.specs.declared.kinds.Category.TheVariants.{Zero, One, Two}
use Rattle.osi_spdu.specs.Codes.{number_of, is_group, slot_of}
use Rattle.osi_spdu.specs.Kinds.{category_of, codes_of, members_of, required_of, kind_named, may_stand}
use Rattle.osi_spdu.specs.Values.{canonical_in}
use Rattle.osi_spdu.specs.Known.{Known, nothing, put, Contents, Units}
use Rattle.osi_spdu.specs.Reading.{code_among, takes_rest, crowded}
use Rattle.osi_spdu.specs.Spelling.{length_octets, HasLength, Part, part_octets, Sole, IsPart, Spells, MeansInGroup, MeansInUnit, SpellsUnit, AreBehind, AreUnits}

-- how many octets a length indicator has
abbrev pub indicator_len : Bool → ℕ
indicator_len false = 1
indicator_len true = 3

-- the octets begin with a length indicator and as many octets as it counts
abbrev pub HasValue : List ℕ → Bool → List ℕ → List ℕ → Type 0
HasValue octets long value rest = HasLength long (length value) × (octets ≡ length_octets long (length value) ++ value ++ rest)

-- they do not
abbrev pub HasNoValue : List ℕ → Type 0
HasNoValue octets = (long : Bool) (value rest : List ℕ) → HasValue octets long value rest → ⊥

-- well-formed parameters, added to those known before: no slot is filled twice
pub record Fills (means : ℕ → List ℕ → Known → Type 0) (before : Known) (octets : List ℕ) (after : Known) : Type 0 where
  pub parts : List Part
  pub whole : octets ≡ flat_map part_octets parts
  pub each : AllByRecursion (IsPart means) parts
  pub once : (c : Code) → Sole (before c ∷ map (λ p. p.gives c) parts) (after c)

-- a known parameter occurs for the second time, or its value is not allowed for its code in a unit of this kind
abbrev pub IsValueFault : Kind → ℕ → Code → List ℕ → Known → SpduFault → Type 0
IsValueFault kind at c value known fault =
    (IsSome (known (slot_of c)) × (fault ≡ DuplicateParameter (number_of c) at))
    ⊎ ((known (slot_of c) ≡ None) × (canonical_in kind c value ≡ None) × (fault ≡ BadValue (number_of c) at))

-- what can be wrong with one parameter: the offsets of its code and of its value, its code, its value, what was known
-- before
abbrev pub Failing : Type 1
Failing = ℕ → ℕ → ℕ → List ℕ → Known → SpduFault → Type 0

-- the item at the front has the fault: its length is missing or exceeds the octets, or its value has the fault
abbrev pub IsItemFault : Failing → ℕ → List ℕ → Known → SpduFault → Type 0
IsItemFault failing at [] known fault = ⊥
IsItemFault failing at (code ∷ octets) known fault =
    (HasNoValue octets × (fault ≡ LengthPastEnd at))
    ⊎ ((long : Bool) × (value : List ℕ) × (rest : List ℕ) × HasValue octets long value rest × failing at (at + (1 + indicator_len long)) code value known fault)

-- the first fault of the parameters of one level; those before it are well formed
pub record IsLevelFault (means : ℕ → List ℕ → Known → Type 0) (failing : Failing) (at : ℕ) (before : Known) (octets : List ℕ) (fault : SpduFault) : Type 0 where
  pub front : List ℕ
  pub rest : List ℕ
  pub known : Known
  pub whole : octets ≡ front ++ rest
  pub fills : Fills means before front known
  pub bad : IsItemFault failing (at + length front) rest known fault

unfoldable pub FailsInGroup : Kind → List Code → Failing
FailsInGroup kind members at body code value known fault = (c : Code) × (code_among members code ≡ Some c) × IsValueFault kind at c value known fault

-- a parameter of a unit, or a group: the fault is in the group itself or in its contents
unfoldable pub FailsInUnit : Kind → Failing
FailsInUnit kind at body code value known fault =
    (c : Code) × (code_among (codes_of kind) code ≡ Some c)
    × (IsValueFault kind at c value known fault
    ⊎ ((is_group c ≡ true) × (known (slot_of c) ≡ None) × IsLevelFault (MeansInGroup kind (members_of kind c)) (FailsInGroup kind (members_of kind c)) body (put (slot_of c) [] known) value fault))

-- the first of these codes that is missing
abbrev pub IsFirstMissing : ℕ → List Code → Known → SpduFault → Type 0
IsFirstMissing at [] known fault = ⊥
IsFirstMissing at (c ∷ codes) known fault =
    ((known c ≡ None) × (fault ≡ MissingParameter (number_of c) at)) ⊎ (IsSome (known c) × IsFirstMissing at codes known fault)

-- after the SI of a unit that may occur here
abbrev pub IsBodyFault : Kind → ℕ → List ℕ → SpduFault → Type 0
IsBodyFault kind at octets fault =
    (HasNoValue octets × (fault ≡ LengthPastEnd at))
    ⊎ ((long : Bool) × (value : List ℕ) × (rest : List ℕ) × HasValue octets long value rest
    × (IsLevelFault (MeansInUnit kind) (FailsInUnit kind) (at + (1 + indicator_len long)) nothing value fault
    ⊎ ((raw : Known) × Spells (MeansInUnit kind) raw value × IsFirstMissing at (required_of kind) raw fault)))

-- the fault of an SI, or of the unit that it names
abbrev pub IsNamedFault : Bool → ℕ → Option Kind → List ℕ → SpduFault → Type 0
IsNamedFault second at None octets fault = fault ≡ UnknownSi at
IsNamedFault second at (Some kind) octets fault =
    ((may_stand second (category_of kind) ≡ false) × (fault ≡ BadConcatenation at))
    ⊎ ((may_stand second (category_of kind) ≡ true) × IsBodyFault kind at octets fault)

-- the first fault of a unit, in the first place or after another
abbrev pub IsUnitFault : Bool → ℕ → List ℕ → SpduFault → Type 0
IsUnitFault second at [] fault = fault ≡ LengthPastEnd at
IsUnitFault second at (si ∷ octets) fault = IsNamedFault second at (kind_named second si) octets fault

-- a unit in a place for which there is no room
abbrev pub IsCrowded : ℕ → List ℕ → SpduFault → Type 0
IsCrowded at [] fault = ⊥
IsCrowded at (si ∷ octets) fault = fault ≡ crowded at (kind_named true si)

-- the first fault after the first unit, from this offset on: at most `room` units of category 2, none of them a DT, and
-- then a unit that has the fault
pub record IsFaultBehind (room at : ℕ) (octets : List ℕ) (fault : SpduFault) : Type 0 where
  pub units : Units
  pub front : List ℕ
  pub rest : List ℕ
  pub whole : octets ≡ front ++ rest
  pub are_units : AreUnits units front
  pub behind : AreBehind units
  pub plain : AllByRecursion (λ u. takes_rest u.kind ≡ false) units
  pub few : length units ≤ room
  pub some : 1 ≤ length rest
  pub bad : ((length units ≡ room) × IsCrowded (at + length front) rest fault) ⊎ ((1 + length units ≤ room) × IsUnitFault true (at + length front) rest fault)

-- what follows the first unit has the fault
abbrev pub IsFaultAfter : Category → ℕ → List ℕ → SpduFault → Type 0
IsFaultAfter Zero at octets fault = IsFaultBehind 16 at octets fault
IsFaultAfter One at octets fault = (1 ≤ length octets) × (fault ≡ TrailingOctets at)
IsFaultAfter Two at octets fault = ⊥

-- The first fault of a TSDU.
abbrev pub IsFirstFault : List ℕ → SpduFault → Type 0
IsFirstFault octets fault =
    IsUnitFault false 0 octets fault
    ⊎ ((unit : Contents) × (front : List ℕ) × (rest : List ℕ) × (octets ≡ front ++ rest) × SpellsUnit unit front
    × (unit.information ≡ []) × IsFaultAfter (category_of unit.kind) (length front) rest fault)
