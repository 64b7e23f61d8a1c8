-- A caller's and a called end's carrier that agree on class 0, and the units between them. There is one connection,
-- with reference 1 at both.
use Rattle.std.specs.Prelude.{◌≡◌, ℕ, Bool, true, false, List, [], ◌∷◌, Option, Some, None}
use Rattle.osi_tpdu.specs.Value.{Value, Connect, request, confirm}
use Rattle.osi_class.specs.Between.{LinkPair}
use Rattle.osi_class.specs.Negotiation.{selected_size}
use Rattle.osi_class.specs.declared.terms.Class.{Class}
use Rattle.osi_class.specs.declared.terms.Class.TheVariants.{Zero}
use Rattle.osi_class.specs.declared.terms.Local.{Local}
use Rattle.osi_carrier.specs.Place.{Place, never, was_given}
use Rattle.osi_carrier.specs.Negotiation.{acceptance, agreed_size, opened_link}
use Rattle.osi_carrier.specs.Rows.{Rows}
use Rattle.osi_carrier.specs.State.{Connection, asked, linked, closing, State}
use Rattle.osi_between.specs.Meeting.{addressed}
use Rattle.osi_between.specs.OpenLinks.{AreOpen}
use Rattle.osi_between.specs.Terms.{terms_of, by_zero, IsProposed}

-- The state of the connection: not requested; its CR is in flight; open at the called end, with links as if it were
-- open at both; open at both. A close ends the carrier.
pub data ZeroCourse : Type 0 where
  unasked : ZeroCourse
  asking : Connect → ZeroCourse
  accepting : Connect → LinkPair → ZeroCourse
  talking : LinkPair → ZeroCourse

-- the CC for this CR
abbrev pub answer_of : Local → Connect → Connect
answer_of called c = acceptance Zero (selected_size c called) c called 1

-- at the caller (`true`) or the called end (`false`)
abbrev pub at_end : Bool → ZeroCourse → Place
at_end end unasked = never
at_end true (asking c) = was_given (Some asked)
at_end false (asking c) = never
at_end true (accepting c p) = was_given (Some asked)
at_end false (accepting c p) = was_given (Some (linked 1 p.right))
at_end true (talking p) = was_given (Some (linked 1 p.left))
at_end false (talking p) = was_given (Some (linked 1 p.right))

-- the units in flight from the caller, and from the called end, which would have this
abbrev pub from_end : Bool → Local → ZeroCourse → List Value
from_end end called unasked = []
from_end true called (asking c) = request c ∷ []
from_end false called (asking c) = []
from_end true called (accepting c p) = []
from_end false called (accepting c p) = confirm 1 (answer_of called c) ∷ addressed 1 p.leftward
from_end true called (talking p) = addressed 1 p.rightward
from_end false called (talking p) = addressed 1 p.leftward

-- open at the called end; the caller's link is the one that the CC opens
pub record IsAccepted (caller called : Local) (c : Connect) (p : LinkPair) : Type 0 where
  pub asked : IsProposed 1 caller c
  pub open_links : AreOpen false p
  pub rightward : p.rightward ≡ []
  pub left : p.left ≡ opened_link Zero (agreed_size (answer_of called c).parameters.size caller) caller (answer_of called c).credit

abbrev pub Holds : Local → Local → ZeroCourse → Type 0
Holds caller called unasked = Unit {0}
Holds caller called (asking c) = IsProposed 1 caller c
Holds caller called (accepting c p) = IsAccepted caller called c p
Holds caller called (talking p) = AreOpen false p

-- ---- the one place

abbrev pub rows_in : Place → Rows Connection
rows_in never = []
rows_in (was_given None) = []
rows_in (was_given (Some connection)) = (1, connection) ∷ []

abbrev pub given_in : Place → ℕ
given_in never = 0
given_in (was_given connection) = 1

-- class 0 is agreed from the CC on
abbrev pub class_in : Place → Option Class
class_in never = None
class_in (was_given None) = None
class_in (was_given (Some asked)) = None
class_in (was_given (Some (linked peer link))) = Some Zero
class_in (was_given (Some (closing peer))) = Some Zero

-- a carrier with this one connection and no other
pub record HasOne (s : State) (place : Place) : Type 0 where
  pub live : s.live ≡ rows_in place
  pub given : s.given ≡ given_in place
  pub class : s.class ≡ class_in place
  pub lasts : s.ended ≡ None

-- with these units in flight to the called end and to the caller
pub record AreJoinedZero (caller called : State) (to_called to_caller : List Value) : Type 0 where
  pub is_caller : caller.is_caller ≡ true
  pub is_called : called.is_caller ≡ false
  pub terms : terms_of caller.local called.local ≡ by_zero
  pub course : ZeroCourse
  pub one : HasOne caller (at_end true course)
  pub one_called : HasOne called (at_end false course)
  pub going : to_called ≡ from_end true called.local course
  pub coming : to_caller ≡ from_end false called.local course
  pub holds : Holds caller.local called.local course
