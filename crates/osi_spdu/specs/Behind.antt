-- The units of category 2 of a TSDU that follow after some of them.
use Rattle.std.specs.Prelude.{◌≡◌, ◌==◌, ◌&&◌, ◌||◌, ℕ, not, Bool, true, List, [], length, Option, Some, None, is_ok}
use Rattle.std.specs.List.{AllByRecursion}
use Rattle.std.specs.Result.{result_unwrap_or}
use Rattle.std.proofs.Props.{props}
use Rattle.osi_spdu.specs.declared.kinds.Kind.{Kind}
use Rattle.osi_spdu.specs.declared.kinds.Kind.TheVariants.{DataTransfer}
use Rattle.osi_spdu.specs.Kinds.{category_of, may_stand}
use Rattle.osi_spdu.specs.Known.{Contents, Units}
use Rattle.osi_spdu.specs.Reading.{behind_at, takes_rest}
use Rattle.osi_spdu.specs.Spelling.{HasInformation}
use Rattle.osi_spdu.specs.Writing.{IsFormedUnit}

-- the units that these octets are, at most `room` of them
unfoldable pub left_at : ℕ → ℕ → List ℕ → Units
left_at room at octets = result_unwrap_or (behind_at room at octets) []

-- the octets are units, or there are none
pub record AreLeft (room at : ℕ) (octets : List ℕ) : Type 0 where
  pub readable : is_ok (behind_at room at octets) ≡ true
  pub formed : AllByRecursion IsFormedUnit (left_at room at octets)

-- A ghost field of `Behind` cites that this is a proposition, and a ghost field may cite specs/ alone.
informed_prop : (kind : Kind) (information : List ℕ) → IsProp (HasInformation kind information)
informed_prop DataTransfer information = hlevel props
informed_prop _ information = hlevel props

formed_prop : (unit : Contents) → IsProp (IsFormedUnit unit)
formed_prop unit = hlevel (props, informed_prop)

pub left_prop : (room at : ℕ) (octets : List ℕ) → IsProp (AreLeft room at octets)
left_prop room at octets = hlevel (props, formed_prop)

-- a unit that may follow another, and the octets after it; there are none after a DT
unfoldable pub is_behind : Option Kind → List ℕ → Bool
is_behind None octets = length octets == 0
is_behind (Some kind) octets = may_stand true (category_of kind) && (not (takes_rest kind) || (length octets == 0))
