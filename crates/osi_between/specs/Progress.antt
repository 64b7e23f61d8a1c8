-- How far a connection is at an end, and how messages that arrive there or are put there change that.
use Rattle.std.specs.Prelude.{◌≡◌, ℕ, ◌+◌, Bool, true, false, List, [], ◌∷◌, ◌++◌, Option, Some, None}
use Rattle.std.specs.List.{AllByRecursion}
use Rattle.osi_tpdu.specs.Value.{Value}
use Rattle.osi_class.specs.declared.terms.Class.{Class}
use Rattle.osi_carrier.specs.State.{Connection, asked, linked, closing}
use Rattle.osi_between.specs.Messages.{Message, ask, agree, deny, message, bye, over, begun_at, messages_after, AreLike}

-- its reference was not given; it awaits its CC; it is open; it awaits a DC; it is gone
pub data Progress : Type 0 where
  not_yet : Progress
  awaiting : Progress
  in_use : Progress
  shutting : Progress
  gone : Progress

abbrev pub progress_in : Option Connection → Progress
progress_in None = gone
progress_in (Some asked) = awaiting
progress_in (Some (linked peer link)) = in_use
progress_in (Some (closing peer)) = shutting

-- what may arrive
abbrev pub may_arrive : Progress → Message → Bool
may_arrive not_yet ask = true
may_arrive awaiting agree = true
may_arrive awaiting (deny reason) = true
may_arrive in_use (message octets) = true
may_arrive in_use (bye reason) = true
may_arrive shutting (message octets) = true
may_arrive shutting (bye reason) = true
may_arrive shutting over = true
may_arrive progress m = false

-- after a message arrives, if CRs are accepted, or refused
abbrev pub behind_arrival : Bool → Progress → Message → Progress
behind_arrival true not_yet ask = in_use
behind_arrival accepts awaiting agree = in_use
behind_arrival accepts awaiting (deny reason) = gone
behind_arrival accepts in_use (bye reason) = gone
behind_arrival accepts shutting (bye reason) = gone
behind_arrival accepts shutting over = gone
behind_arrival accepts progress m = progress

abbrev pub behind_arrivals : Bool → Progress → List Message → Progress
behind_arrivals accepts progress [] = progress
behind_arrivals accepts progress (m ∷ ms) = behind_arrivals accepts (behind_arrival accepts progress m) ms

-- after a message is put
abbrev pub behind_put : Progress → Message → Progress
behind_put not_yet ask = awaiting
behind_put in_use (bye reason) = shutting
behind_put progress m = progress

abbrev pub behind_puts : Progress → List Message → Progress
behind_puts progress [] = progress
behind_puts progress (m ∷ ms) = behind_puts (behind_put progress m) ms

-- ---- references and the class

abbrev pub asks_in : List Message → ℕ
asks_in [] = 0
asks_in (ask ∷ ms) = 1 + asks_in ms
asks_in (agree ∷ ms) = asks_in ms
asks_in (deny reason ∷ ms) = asks_in ms
asks_in (message octets ∷ ms) = asks_in ms
asks_in (bye reason ∷ ms) = asks_in ms
asks_in (over ∷ ms) = asks_in ms

-- how many references an end gives for messages that arrive and are put: one for each CR that it accepts, and one for
-- each that it writes
abbrev pub accepted_in : Bool → List Message → ℕ
accepted_in true arrived = asks_in arrived
accepted_in false arrived = 0

abbrev pub references_for : Bool → List Message → List Message → ℕ
references_for accepts arrived put = accepted_in accepts arrived + asks_in put

-- The class that an end has agreed after a message arrives, if CRs lead to this class or are refused: a CR that is
-- accepted settles it, and so does a CC.
abbrev pub class_behind : Option Class → Option Class → Message → Option Class
class_behind None held m = held
class_behind (Some class) held ask = Some class
class_behind (Some class) held agree = Some class
class_behind (Some class) held (deny reason) = held
class_behind (Some class) held (message octets) = held
class_behind (Some class) held (bye reason) = held
class_behind (Some class) held over = held

abbrev pub class_behind_all : Option Class → Option Class → List Message → Option Class
class_behind_all settled held [] = held
class_behind_all settled held (m ∷ ms) = class_behind_all settled (class_behind settled held m) ms

-- an open connection is closed or gone
abbrev pub leaves_use : Progress → Progress → Bool
leaves_use in_use shutting = true
leaves_use in_use gone = true
leaves_use from to = false

-- What the units mean that an end took for a connection, before (`from`, `old`) and after (`to`, `new`): these
-- messages, with what was begun before; and the units after them continue from what is begun then.
pub record Brings (accepts : Bool) (from to : Progress) (old new : Option Connection) (taken : List Value) (arrived put : List Message) : Type 0 where
  pub is : arrived ≡ messages_after (begun_at old) taken
  pub more : (units : List Value) → AreLike new (messages_after (begun_at old) (taken ++ units)) (arrived ++ messages_after (begun_at new) units)
  pub may : AllByRecursion (λ m. may_arrive from m ≡ true) arrived
  pub becomes : to ≡ behind_puts (behind_arrivals accepts from arrived) put
