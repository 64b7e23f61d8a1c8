-- The connections of a byte connection have the same places for the rules of transport and for what is joined of them.
use Rattle.std.specs.Prelude.{◌≡◌, ◌||◌, ℕ, Bool, false, true, List, [], ◌∷◌, Option, Some, None, set, slice_get}
use Rattle.osi_tpdu.specs.Value.{Value, destination_of}
use Rattle.osi_side.specs.Captures.{other}
use Rattle.osi_side.specs.declared.directions.Direction.{Direction}
use Rattle.osi_rules.specs.declared.connections.Connection.{Connection}
use Rattle.osi_rules.specs.declared.halves.Half.{Half}
use Rattle.osi_rules.specs.declared.halves.Phase.{Phase}
use Rattle.osi_rules.specs.declared.halves.Phase.TheVariants.{Silent, Open, Refused, Closing, Closed}
use Rattle.osi_rules.specs.Sides.{is_open, is_refused, is_silent, own}
use Rattle.osi_judge.specs.Connections.{Joined, adds, reference_of, user_of}
use Rattle.osi_judge.specs.Courses.{Course, unit_passes, way_of}

-- the reference of right's CC, if one has passed: a refused CR got none
abbrev pub named_by : Phase → ℕ → Option ℕ
named_by Silent reference = None
named_by Refused reference = None
named_by Open reference = Some reference
named_by Closing reference = Some reference
named_by Closed reference = Some reference

-- a CR asks for the connection, and its sender can only close it
abbrev pub HasAsked : Half → Type 0
HasAsked half = (is_silent half.phase || is_refused half.phase) ≡ false

-- the same connection: its CR and its CC gave it these references, and a side that knows of them knows these
pub record IsOneOf (c : Connection) (j : Joined) : Type 0 where
  pub calling : j.calling ≡ c.left.reference
  pub called : j.called ≡ named_by c.right.phase c.right.reference
  pub left_knows : (n : ℕ) → named_by c.seen_by_left.phase c.seen_by_left.reference ≡ Some n → j.called ≡ Some n
  pub right_knows : is_silent c.seen_by_right.phase ≡ false → j.calling ≡ c.seen_by_right.reference
  pub asks : HasAsked c.left

-- by their places
abbrev pub HaveSamePlaces : List Connection → List Joined → Type 0
HaveSamePlaces [] [] = Unit {0}
HaveSamePlaces [] (j ∷ js) = ⊥
HaveSamePlaces (c ∷ cs) [] = ⊥
HaveSamePlaces (c ∷ cs) (j ∷ js) = IsOneOf c j × HaveSamePlaces cs js

-- A DT of a side is joined at the place of its connection, which is judged. If it has a reference, that is the one which the other side
-- gave this connection, and its sender has not closed it.
pub record IsJoinedAt (d : Direction) (at : ℕ) (v : Value) (end : Bool) (c : Course) : Type 0 where
  pub place : ℕ
  pub connection : Connection
  pub joined : Joined
  pub there : slice_get c.traffic.connections place ≡ Some connection
  pub here : slice_get c.sessions.live place ≡ Some joined
  pub judged : connection.is_judged ≡ true
  pub named : (n : ℕ) → destination_of v ≡ Some n →
      (reference_of (other d) joined ≡ Some n) × (is_open (own (way_of d) connection).phase ≡ true)
  pub sessions : (unit_passes d at v c).sessions
      ≡ record c.sessions { live = set c.sessions.live place (adds d at end (user_of v) joined) }
