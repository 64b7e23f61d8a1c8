-- Minor points and their confirmations: calls and units that change only the numbers.
use Rattle.std.specs.Prelude.{◌≡◌, ◌==◌, ◌&&◌, ℕ, Bool, true, List, [], ◌∷◌, None}
use Rattle.osi_message.specs.Parting.{tsdus_sent}
use Rattle.osi_session.specs.declared.numbers.Numbers.{Numbers}
use Rattle.osi_session.specs.declared.plans.PlannedPoint.{PlannedPoint}
use Rattle.osi_session.specs.declared.plans.SentPoint.{SentPoint}
use Rattle.osi_session.specs.declared.plans.SentPoint.TheVariants as point
use Rattle.osi_session.specs.declared.state.State.{State}
use Rattle.osi_session.specs.Allowed.{Test, after, may_call, needs}
use Rattle.osi_session.specs.Calls.{Call, Minor, MinorConfirm}
use Rattle.osi_session.specs.Listening.{Listener, Move, called, in_state, react, rests}
use Rattle.osi_session.specs.Sessions.{CanBeSent}
use Rattle.osi_session.specs.Shown.{Shown}
use Rattle.osi_session.specs.Sizes.{limit_of}

-- a session with these numbers
abbrev pub in_numbers : Listener → Numbers → Listener
in_numbers l n = record l { state = record l.state { numbers = n } }

-- one indication, and nothing is sent; this is the state afterwards
abbrev pub only_shows : Listener → Shown → Move
only_shows next shown = record (rests next) { shown = shown ∷ [] }

-- ---- a point that is planned, and then sent

-- the call for it with this user data, with or without asking for the point's confirmation
abbrev pub call_for : SentPoint → Bool → List ℕ → Call
call_for (point.Minor number) confirm octets = Minor confirm octets
call_for (point.Confirmation number) confirm octets = MinorConfirm number.number octets

-- a point has the number of the next
abbrev pub has_next : State → SentPoint → Bool
has_next s (point.Minor number) = number.number == s.numbers.next
has_next s (point.Confirmation number) = true

abbrev pub all_hold : List Test → Bool
all_hold [] = true
all_hold (t ∷ ts) = t.0 && all_hold ts

-- the phase allows the call for it, its number is right, and the call has what it needs, whatever its user data
abbrev pub may_advance : State → SentPoint → Bool
may_advance s p = may_call s.phase (call_for p true []) && (has_next s p && all_hold (needs s (call_for p true [])))

-- the session after it
abbrev pub advanced : Listener → SentPoint → Listener
advanced l p = in_state l (after l.state (call_for p true []))

-- what an accepted call for a point sends, and the point
pub record PlansPoint (l : Listener) (call : Call) (plan : PlannedPoint) : Type 0 where
  pub state : (react l (called call)).next ≡ advanced l plan.point
  pub may : may_advance l.state plan.point ≡ true
  pub sent : plan.sent ≡ tsdus_sent (limit_of l.state) (react l (called call)).reply
  pub accepted : (react l (called call)).error ≡ None
  pub sendable : CanBeSent (react l (called call)).reply
