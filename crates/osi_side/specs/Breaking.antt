-- The break of a side at a TSDU: at the first of its units that no session sends.
use Rattle.std.specs.Prelude.{◌≡◌, ℕ, false, List, [], ◌∷◌, ◌++◌, length, Some, Result, Ok, Err}
use Rattle.osi_spdu.specs.declared.faults.SpduFault.{SpduFault}
use Rattle.osi_spdu.specs.Known.{Contents, Units}
use Rattle.osi_spdu.specs.Reading.{tsdu_at}
use Rattle.osi_message.specs.Reading.{word}
use Rattle.osi_side.specs.declared.members.Member.{Member}
use Rattle.osi_side.specs.declared.rules.Behind.{Behind}
use Rattle.osi_side.specs.declared.rules.Behind.TheVariants as behind
use Rattle.osi_side.specs.declared.rules.Break.{Break}
use Rattle.osi_side.specs.declared.rules.Rule.TheVariants.{Breach}
use Rattle.osi_session.specs.declared.breaches.Breach.TheVariants.{Outside}
use Rattle.osi_spdu.specs.declared.kinds.Kind.TheVariants.{Accept}
use Rattle.osi_side.specs.Foremost.{foremost}
use Rattle.osi_side.specs.Kept.{after_word}
use Rattle.osi_side.specs.Members.{is_empty}
use Rattle.osi_side.specs.Nearest.{a_unit, unread, break_of}

-- these are the sessions that are kept after a unit of a TSDU of so many octets
abbrev pub Leads : (heard : List (List ℕ)) → (octets before : ℕ) → List Member → Contents → List Member → Type 0
Leads heard octets before members unit next = next ≡ after_word heard octets before members (word unit)

-- what is left after a unit
abbrev pub LeavesBehind : (heard : List (List ℕ)) → (octets before : ℕ) → List Member → Contents → Behind → Type 0
LeavesBehind heard octets before members unit (behind.Members next) =
    Leads heard octets before members unit next.items × (is_empty next.items ≡ false)
LeavesBehind heard octets before members unit (behind.Break by) =
    Leads heard octets before members unit [] × (by ≡ break_of (a_unit unit octets) heard before members)

-- The break within these units of a TSDU of so many octets, before which `before` TSDUs had passed: from the sessions that are
-- kept of those that explain what was sent before these units, to those that explain what was sent before the unit that no
-- session sends.
pub data BreaksIn (heard : List (List ℕ)) (octets before : ℕ) : List Member → Units → List Member → Break → Type 0 where
  -- no session sends this one
  here : (members : List Member) (unit : Contents) (units : Units) (by : Break) → Leads heard octets before members unit []
      → by ≡ break_of (a_unit unit octets) heard before members → BreaksIn heard octets before members (unit ∷ units) members by
  -- it is the only one that is left
  last : (members : List Member) (unit : Contents) (by : Break) → by ≡ break_of (a_unit unit octets) heard before members
      → BreaksIn heard octets before members (unit ∷ []) members by
  -- some send this one
  later : (members next : List Member) (unit : Contents) (units : Units) (at : List Member) (by : Break)
      → Leads heard octets before members unit next
      → is_empty next ≡ false → BreaksIn heard octets before next units at by → BreaksIn heard octets before members (unit ∷ units) at by

-- the units of a TSDU in the order in which they take effect: the first one last
abbrev pub in_effect : Units → Units
in_effect [] = []
in_effect (unit ∷ units) = units ++ unit ∷ []

abbrev pub BreaksAs : (heard : List (List ℕ)) → (octets before : ℕ) → List Member → Result Units SpduFault → (at : List Member) → Break
    → Type 0
BreaksAs heard octets before members (Ok units) at by = BreaksIn heard octets before members (in_effect units) at by
BreaksAs heard octets before members (Err fault) at by = (at ≡ members) × (by ≡ break_of (unread fault) heard before members)

-- the break at a TSDU, of a side that these sessions explain up to there
abbrev pub BreaksWith : (heard : List (List ℕ)) → (tsdu : List ℕ) → (before : ℕ) → List Member → (at : List Member) → Break → Type 0
BreaksWith heard tsdu before members at by = BreaksAs heard (length tsdu) before members (tsdu_at tsdu) at by

abbrev pub BreaksAt : (heard : List (List ℕ)) → (tsdu : List ℕ) → (before : ℕ) → List Member → Break → Type 0
BreaksAt heard tsdu before members by = (at : List Member) × BreaksWith heard tsdu before members at by

-- an AC that selects what the profile leaves out: by the foremost of these members
abbrev pub selection_of : (before : ℕ) → List Member → Break
selection_of before members = record {
  said = Some Accept;
  rule = Breach Outside;
  before = before;
  taken = (foremost members).taken;
  standing = (foremost members).standing;
}
