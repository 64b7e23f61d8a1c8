-- A connection of a capture: its sides, its class, and where it is told no further.
use Rattle.std.specs.Prelude.{◌≡◌, ◌==◌, ℕ, Bool, false, is_some, if◌then◌else◌, List, Option, Some, None}
use Rattle.std.specs.List.{fold, find}
use Rattle.osi_script.specs.declared.sides.Side.{Side}
use Rattle.osi_script.specs.declared.sides.Side.TheVariants.{Left, Right}
use Rattle.osi_witness.specs.declared.conversations.Conversation.{Conversation}
use Rattle.osi_witness.specs.declared.conversations.Opening.{Opening}
use Rattle.osi_witness.specs.declared.places.Stop.{Stop}
use Rattle.osi_witness.specs.declared.streams.Stream.{Stream}
use Rattle.osi_witness.specs.Places.{earlier_stop}
use Rattle.osi_witness.specs.Streams.{IsEmpty}
use Rattle.osi_session.specs.Standing.{seen_called, seen_calling}
use Rattle.osi_side.specs.Sides.{observed}

-- what a side sent
abbrev pub stream_of : Conversation → Side → Stream
stream_of c Left = c.left
stream_of c Right = c.right

-- the first answer counts
abbrev pub answered_by : Option Opening → Opening → Option Opening
answered_by None answer = Some answer
answered_by (Some first) answer = Some first

-- a connection that this CR requests: neither side has sent anything, and the sessions have just begun
pub record Begins (request : Opening) (c : Conversation) : Type 0 where
  pub asked : c.request ≡ request
  pub answer : c.answer ≡ None
  pub left : IsEmpty c.left
  pub right : IsEmpty c.right
  pub calling : (observed c.left.side).begin ≡ seen_calling
  pub called : (observed c.right.side).begin ≡ seen_called

-- the class that a CC selects; none if there is no answer, or a DR
abbrev pub class_by : Option Opening → Option ℕ
class_by None = None
class_by (Some answer) = if answer.is_refusal then None else Some answer.class

abbrev pub is_two : Option ℕ → Bool
is_two None = false
is_two (Some class) = class == 2

abbrev pub is_refused_by : Option Opening → Bool
is_refused_by None = false
is_refused_by (Some answer) = answer.is_refusal

-- the first TSDU with which a side has no run
abbrev pub limit_of : Conversation → Option Stop
limit_of c = earlier_stop c.left.limit c.right.limit

-- the earliest of a stop and of those of connections
abbrev pub first_limit : Option Stop → List Conversation → Option Stop
first_limit first connections = fold (λ (s : Option Stop) (c : Conversation). earlier_stop s (limit_of c)) first connections

abbrev pub is_accepted : Conversation → Bool
is_accepted c = is_some (class_by c.answer)

abbrev pub first_accepted : List Conversation → Option Conversation
first_accepted connections = find is_accepted connections

-- whether the connections of a capture are of class 2: the first that was accepted is
abbrev pub is_of_class_2 : Option Conversation → Bool
is_of_class_2 None = false
is_of_class_2 (Some c) = is_two (class_by c.answer)
