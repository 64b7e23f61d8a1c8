-- The lengths of units, as they are counted before the units are written.
use Rattle.std.specs.Prelude.{◌≡◌, ℕ, true, List, [], ◌∷◌, length, is_some}
use Rattle.osi_spdu.specs.declared.codes.Code.{Code}
use Rattle.osi_spdu.specs.declared.codes.Code.TheVariants.{ConnectionIdentifier}
use Rattle.osi_spdu.specs.declared.writing.GroupLengths.{GroupLengths}
use Rattle.osi_spdu.specs.Codes.{is_group}
use Rattle.osi_spdu.specs.Kinds.{codes_of}
use Rattle.osi_spdu.specs.Known.{Known, Contents, Units}
use Rattle.osi_spdu.specs.Writing.{among, group_octets, body_octets}

-- the length of the parameters and groups of a unit, in octets
abbrev pub body_length : Contents → ℕ
body_length unit = length (body_octets unit.kind unit.known)

-- the length of the contents of a group, as it was counted
unfoldable pub held : GroupLengths → Code → ℕ
held lens ConnectionIdentifier = lens.connection_identifier
held lens _ = lens.connect_accept_item

-- a code of a group that is there was counted
abbrev pub IsHeld : GroupLengths → Known → Code → Type 0
IsHeld lens known c = is_group c ≡ true → is_some (known c) ≡ true → held lens c ≡ length (group_octets lens.kind known c)

-- each group that the unit knows was counted, if it is there
abbrev pub AreHeld : GroupLengths → Known → Type 0
AreHeld lens known = (c : Code) → among (codes_of lens.kind) c ≡ true → IsHeld lens known c

-- the lengths of units in order, followed by any other numbers
abbrev pub AreLengths : List ℕ → Units → Type 0
AreLengths lens [] = Unit {0}
AreLengths [] (unit ∷ units) = ⊥
AreLengths (n ∷ lens) (unit ∷ units) = (n ≡ body_length unit) × AreLengths lens units
