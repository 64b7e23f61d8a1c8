-- What is kept of a connection that is over and whose place another has.
use Rattle.std.specs.Prelude.{◌≡◌, ℕ, List, [], ◌∷◌, Option, Some, None, slice_get}
use Rattle.osi_side.specs.declared.directions.Direction.{Direction}
use Rattle.osi_side.specs.declared.directions.Direction.TheVariants as side
use Rattle.osi_judge.specs.declared.outcomes.Outcome.{Outcome}
use Rattle.osi_judge.specs.declared.outcomes.Outcome.TheVariants as outcome
use Rattle.osi_judge.specs.declared.pasts.Ended.{Ended}
use Rattle.osi_judge.specs.declared.pasts.Ended.TheVariants.{Kept, Broke, Left, TooMany}
use Rattle.osi_judge.specs.declared.pasts.Past.{Past}
use Rattle.osi_judge.specs.Connections.{Joined}
use Rattle.osi_judge.specs.Outcomes.{IsOutcomeOf}
use Rattle.osi_judge.specs.Rooms.{is_over}

abbrev pub outcome_of : Ended → Outcome
outcome_of (Kept tsdus state owes) = outcome.Kept tsdus state owes
outcome_of (Broke offset by) = outcome.Broke offset by.value
outcome_of (Left offset by) = outcome.Left offset by.value
outcome_of TooMany = outcome.TooMany

abbrev pub outcome_in : Direction → Past → Outcome
outcome_in side.Left p = outcome_of p.left
outcome_in side.Right p = outcome_of p.right

-- it says of the connection what passed of it, and of the session of each side what was found
pub record HoldsPast (p : Past) (j : Joined) : Type 0 where
  pub number : p.number ≡ j.number
  pub calling : p.calling ≡ j.calling
  pub called : p.called ≡ j.called
  pub class : p.class ≡ j.class
  pub closed : p.closed ≡ j.closed
  pub over : p.over ≡ is_over j.room
  pub left : IsOutcomeOf side.Left j (outcome_of p.left)
  pub right : IsOutcomeOf side.Right j (outcome_of p.right)

-- of the connection at a place
abbrev pub HoldsPastOf : Past → Option Joined → Type 0
HoldsPastOf p None = Unit {0}
HoldsPastOf p (Some j) = HoldsPast p j

-- of connections, one after the other
abbrev pub AllPast : List Past → List Joined → Type 0
AllPast [] [] = Unit {0}
AllPast (p ∷ ps) (j ∷ js) = HoldsPast p j × AllPast ps js
AllPast [] (j ∷ js) = ⊥
AllPast (p ∷ ps) [] = ⊥

-- each of these keeps its place among those
abbrev pub StayOver : (before now : List Joined) → Type 0
StayOver before now = (i : ℕ) (j : Joined) → slice_get before i ≡ Some j → slice_get now i ≡ Some j
