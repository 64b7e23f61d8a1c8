-- Two links and the units between them, over lists of calls at both.
use Rattle.std.specs.Prelude.{◌≡◌, ℕ, Bool, List, [], ◌∷◌, ◌++◌, ◌≤◌, length, None, Ok}
use Rattle.std.specs.List.{flat_map, AllByRecursion}
use Rattle.osi_tpdu.specs.Value.{Value}
use Rattle.osi_class.specs.Limits.{longest_tsdu}
use Rattle.osi_class.specs.Link.{Standing, Given, next, taken, given_in, is_of_two}
use Rattle.osi_class.specs.Runs.{Move, hand_in, give_out, take_in, hand_out, Moves, given_parts, tsdu_in, tsdu_out}
use Rattle.osi_class.specs.Tsdus.{Part, tsdus_after, uncut}

-- `rightward`: the units that the left link gave and the right one has not taken, the oldest first;
-- `leftward`: those the other way
pub record LinkPair : Type 0 where
  pub left : Standing
  pub rightward : List Given
  pub right : Standing
  pub leftward : List Given

abbrev pub swapped : LinkPair → LinkPair
swapped p = record { left = p.right; rightward = p.leftward; right = p.left; leftward = p.rightward }

-- a unit means what was given, whatever its reference
abbrev pub Says : Value → Given → Type 0
Says unit given = given_in unit ≡ given ∷ []

-- a unit that is taken is the oldest in flight
abbrev pub Comes : Move → List Given → List Given → Type 0
Comes (take_in unit) old new = (given : Given) × Says unit given × (old ≡ given ∷ new)
Comes move old new = old ≡ new

abbrev pub given_by : Move → List Given
given_by (give_out unit) = unit ∷ []
given_by move = []

-- a call at the left link
pub record LeftMoves (move : Move) (old new : LinkPair) : Type 0 where
  pub moves : Moves move old.left new.left
  pub given : new.rightward ≡ old.rightward ++ given_by move
  pub comes : Comes move old.leftward new.leftward
  pub right : new.right ≡ old.right

pub data Turn : Type 0 where
  at_left : Move → Turn
  at_right : Move → Turn

abbrev pub Turns : Turn → LinkPair → LinkPair → Type 0
Turns (at_left move) old new = LeftMoves move old new
Turns (at_right move) old new = LeftMoves move (swapped old) (swapped new)

abbrev pub TurnsAlong : LinkPair → List Turn → LinkPair → Type 0
TurnsAlong old [] new = new ≡ old
TurnsAlong old (turn ∷ turns) new = (mid : LinkPair) × Turns turn old mid × TurnsAlong mid turns new

abbrev pub opposite : Turn → Turn
opposite (at_left move) = at_right move
opposite (at_right move) = at_left move

-- the TSDU that is handed in at the left
abbrev pub left_in : Turn → List (List ℕ)
left_in (at_left move) = tsdu_in move
left_in (at_right move) = []

-- the TSDU that is handed out at the right
abbrev pub right_out : Turn → List (List ℕ)
right_out (at_left move) = []
right_out (at_right move) = tsdu_out move

-- units of class 2, or units of class 0
abbrev pub AreOfClass : Bool → List Given → Type 0
AreOfClass is_two units = AllByRecursion (λ unit. is_of_two unit ≡ is_two) units

abbrev pub parts_under_way : List Given → List Part
parts_under_way units = flat_map given_parts units

-- the TSDUs that were handed in at the left and not yet handed out at the right, if these are handed in later
abbrev pub under_way_before : LinkPair → List (List ℕ) → List (List ℕ)
under_way_before p later = p.right.ends.joining.whole
    ++ tsdus_after p.right.ends.joining.begun (parts_under_way p.rightward ++ uncut (p.left.ends.unsent ++ later))

abbrev pub under_way : LinkPair → List (List ℕ)
under_way p = under_way_before p []

-- no part is in flight without the rest of its TSDU
abbrev pub HasWholeTsdus : LinkPair → Type 0
HasWholeTsdus p = (later : List (List ℕ)) → under_way_before p later ≡ under_way p ++ later

-- nothing is to be sent, and nothing was taken
abbrev pub IsFresh : Standing → Type 0
IsFresh s = (s.ends.unsent ≡ []) × (s.ends.joining.begun ≡ []) × (s.ends.joining.whole ≡ [])

-- two links with these units in flight to the left one, and none to the right
abbrev pub awaiting_pair : Standing → Standing → List Given → LinkPair
awaiting_pair left right units = record { left = left; rightward = []; right = right; leftward = units }

-- two links with nothing in flight between them
abbrev pub opened_pair : Standing → Standing → LinkPair
opened_pair left right = awaiting_pair left right []

-- a call that takes nothing and hands nothing out
abbrev pub OnlySends : Move → Type 0
OnlySends (hand_in tsdu) = Unit {0}
OnlySends (give_out unit) = Unit {0}
OnlySends (take_in unit) = ⊥
OnlySends (hand_out tsdu) = ⊥

-- nothing is in flight, neither link gives anything, and nothing waits to be handed out at the right
pub record IsQuiet (p : LinkPair) : Type 0 where
  pub rightward : p.rightward ≡ []
  pub leftward : p.leftward ≡ []
  pub left : next p.left ≡ None
  pub right : next p.right ≡ None
  pub handed_out : p.right.ends.joining.whole ≡ []

-- the right link takes this unit, after which these are in flight to it
pub record TakesOldest (p : LinkPair) (unit : Value) (rest : List Given) : Type 0 where
  pub new : Standing
  pub taken : taken p.right unit ≡ Ok new
  pub turn : Turns (at_right (take_in unit)) p (record { left = p.left; rightward = rest; right = new; leftward = p.leftward })

-- not too long to be taken
abbrev pub IsShortTsdu : List ℕ → Type 0
IsShortTsdu tsdu = length tsdu ≤ longest_tsdu
