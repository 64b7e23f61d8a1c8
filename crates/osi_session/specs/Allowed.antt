-- The table of calls: the first error that applies, or the new state and the unit to send.
use Rattle.std.specs.Prelude.{◌≡◌, ℕ, ◌-◌, Bool, true, not, ◌&&◌, ◌||◌, if◌then◌else◌, nat_le, nat_lt, List, [], ◌∷◌, length, Option, Some, None, Result, Ok, Err}
use Rattle.osi_spdu.specs.declared.fields.ResyncType.TheVariants as resync
use Rattle.osi_spdu.specs.declared.fields.TsduMaximumSize.{TsduMaximumSize}
use Rattle.osi_session.specs.declared.phases.Phase.{Phase}
use Rattle.osi_session.specs.declared.phases.Phase.TheVariants.{Ready, MajorAsked, Releasing, Restarting, Aborting, Ended}
use Rattle.osi_session.specs.declared.faults.CallError.{CallError}
use Rattle.osi_session.specs.declared.faults.CallError.TheVariants as error
use Rattle.osi_message.specs.declared.tokens.Tokens.{Tokens}
use Rattle.osi_session.specs.declared.numbers.Numbers.{Numbers}
use Rattle.osi_session.specs.declared.state.State.{State}
use Rattle.osi_session.specs.declared.selected.FunctionalUnits.{FunctionalUnits}
use Rattle.osi_message.specs.Tokens.{Token, has, no_token, is_empty, is_within, is_disjoint, without, each}
use Rattle.osi_message.specs.Tokens as token
use Rattle.osi_session.specs.Units.{functional_units, units_within, is_profile, has_points, available}
use Rattle.osi_session.specs.Sides.{settle, of_answerer, offered, setting_of}
use Rattle.osi_session.specs.Numbers.{from_base, point_sent, minor_confirmed, major_confirmed, restarted_at}
use Rattle.osi_session.specs.Phases.{is_over, is_ready, is_answering, is_major_due, is_restart_due, is_release_due, in_major, may_give, may_ask, may_confirm_minor, may_restart, may_abort}
use Rattle.osi_session.specs.State.{without_tokens}
use Rattle.osi_session.specs.Sizes.{answered_sizes, fits_limit}
use Rattle.osi_message.specs.Meanings.{Meaning, AC, RF, DT, GT, PT, MIP, MIA, MAP, MAA, RS, RA, FN, DN, NF, AB}
use Rattle.osi_session.specs.Calls.{refusal_octets, refusal_reason, Call, Accept, Refuse, Data, Give, Please, Minor, MinorConfirm, Major, MajorConfirm, Restart, RestartConfirm, Release, ReleaseAccept, ReleaseRefuse, Abort}

-- a test of a call, and the error if it fails
abbrev pub Test : Type 0
Test = Bool × CallError

-- the state after a call, and the unit to send
pub record Step : Type 0 where
  pub next : State
  pub sent : Meaning

abbrev pub Answer : Type 0
Answer = Result Step CallError

-- the answer if each test holds, otherwise the error of the first that fails
abbrev pub first_error : List Test → Answer → Answer
first_error [] a = a
first_error (t ∷ ts) a = if t.0 then first_error ts a else Err t.1

-- 4 octets fewer than a TSDU may have
abbrev pub most_data : ℕ
most_data = 1048572

abbrev pub most_user_data : ℕ
most_user_data = 10240

abbrev pub last_number : ℕ
last_number = 999999

-- held, or not available
abbrev pub has_right : State → Token → Bool
has_right s t = not (has (available s.units) t) || has s.held t

-- points were taken last, and the number is that of an unconfirmed one
abbrev pub is_confirmable : Numbers → ℕ → Bool
is_confirmable v n = v.answers && (nat_le v.confirmed n && nat_lt n v.next)

-- from V(R) to V(M); while a major point is outstanding, below V(M)
abbrev pub is_restartable : State → ℕ → Bool
is_restartable s n = nat_le s.numbers.lowest n && (nat_le n last_number
    && (if in_major s.phase then nat_lt n s.numbers.next else nat_le n s.numbers.next))

-- the tests that many calls have in common

abbrev pub selected : Bool → Test
selected b = (b, error.NotSelected)

abbrev pub holding : Bool → Test
holding b = (b, error.TokenNotHeld)

abbrev pub numbers_left : State → Test
numbers_left s = (nat_le s.numbers.next last_number, error.SerialsUsedUp)

-- a point: its unit is selected, its tokens are held, and there is a number for it
abbrev pub point_needs : State → Bool → Bool → List Test
point_needs s unit rights = selected unit ∷ holding rights ∷ numbers_left s ∷ []

-- the phases in which a call is allowed
abbrev pub may_call : Phase → Call → Bool
may_call p (Accept requirements serial sides sizes octets) = is_answering p
may_call p (Refuse refusal) = is_answering p
may_call p (Data octets) = is_ready p
may_call p (Give tokens) = may_give p
may_call p (Please tokens octets) = may_ask p
may_call p (Minor confirm octets) = is_ready p
may_call p (MinorConfirm n octets) = may_confirm_minor p
may_call p (Major octets) = is_ready p
may_call p (MajorConfirm octets) = is_major_due p
may_call p (Restart n wishes octets) = may_restart p
may_call p (RestartConfirm sides octets) = is_restart_due p
may_call p (Release octets) = is_ready p
may_call p (ReleaseAccept octets) = is_release_due p
may_call p (ReleaseRefuse octets) = is_release_due p
may_call p (Abort octets) = may_abort p

-- what a call needs, in the order of its errors
abbrev pub needs : State → Call → List Test
needs s (Accept requirements serial sides sizes octets) =
    selected (units_within (functional_units requirements) s.units && is_profile requirements) ∷ []
needs s (Data octets) = holding (has_right s token.data_token) ∷ (nat_lt 0 (length octets), error.Empty) ∷ []
needs s (Give tokens) =
    selected (is_within tokens (available s.units)) ∷ holding (is_within tokens s.held)
    ∷ (not (is_empty tokens), error.Empty) ∷ []
needs s (Please tokens octets) =
    selected (is_within tokens (available s.units)) ∷ (is_disjoint tokens s.held, error.TokenAlreadyHeld)
    ∷ (not (is_empty tokens), error.Empty) ∷ []
needs s (Minor confirm octets) = point_needs s s.units.minor (has_right s token.data_token && has_right s token.minor)
needs s (MinorConfirm n octets) = selected s.units.minor ∷ (is_confirmable s.numbers n, error.BadNumber) ∷ []
needs s (Major octets) =
    point_needs s s.units.major (has_right s token.data_token && (has_right s token.minor && has_right s token.major))
needs s (Restart n wishes octets) = selected s.units.resynchronize ∷ (is_restartable s n, error.BadNumber) ∷ []
-- with duplex no token decides who may request release, so only the caller may
needs s (Release octets) = holding (each (has_right s) && (not s.units.duplex || s.is_caller)) ∷ []
needs s (ReleaseRefuse octets) = selected s.units.negotiated_release ∷ []
needs s _ = []

-- the user data of a call, and its greatest length
abbrev pub octets_of : Call → List ℕ
octets_of (Accept requirements serial sides sizes octets) = octets
octets_of (Refuse refusal) = refusal_octets refusal
octets_of (Data octets) = octets
octets_of (Give tokens) = []
octets_of (Please tokens octets) = octets
octets_of (Minor confirm octets) = octets
octets_of (MinorConfirm n octets) = octets
octets_of (Major octets) = octets
octets_of (MajorConfirm octets) = octets
octets_of (Restart n wishes octets) = octets
octets_of (RestartConfirm sides octets) = octets
octets_of (Release octets) = octets
octets_of (ReleaseAccept octets) = octets
octets_of (ReleaseRefuse octets) = octets
octets_of (Abort octets) = octets

abbrev pub most_of : Call → ℕ
most_of (Data octets) = most_data
most_of _ = most_user_data

-- the first number, if there are points or restarts
abbrev pub base_for : FunctionalUnits → ℕ → ℕ
base_for units serial = if has_points units then serial else 0

abbrev pub opened_with : FunctionalUnits → Tokens → ℕ → TsduMaximumSize → State → State
opened_with units held base sizes s =
    record s { phase = Ready; units = units; held = held; base = base; numbers = from_base base; sizes = sizes }

-- the state after an accepted call
abbrev pub after : State → Call → State
after s (Accept requirements serial sides sizes octets) =
    opened_with (functional_units requirements)
    (of_answerer (functional_units requirements) (settle (functional_units requirements) s.wishes sides))
    (base_for (functional_units requirements) serial) (answered_sizes s.sizes sizes) s
after s (Refuse refusal) = without_tokens Ended s
after s (Data octets) = s
after s (Give tokens) = record s { held = without s.held tokens }
after s (Please tokens octets) = s
after s (Minor confirm octets) = record s { numbers = point_sent s.numbers }
after s (MinorConfirm n octets) = record s { numbers = minor_confirmed n s.numbers }
after s (Major octets) = record s { phase = MajorAsked; numbers = point_sent s.numbers }
after s (MajorConfirm octets) = record s { phase = Ready; numbers = major_confirmed s.numbers }
after s (Restart n wishes octets) =
    record (without_tokens Restarting s) { wishes = offered s.units wishes; numbers = restarted_at n s.numbers }
after s (RestartConfirm sides octets) = record s { phase = Ready; held = of_answerer s.units (settle s.units s.wishes sides) }
after s (Release octets) = record s { phase = Releasing }
after s (ReleaseAccept octets) = without_tokens Ended s
after s (ReleaseRefuse octets) = record s { phase = Ready }
after s (Abort octets) = without_tokens Aborting s

-- the number of the first point is written if there are points or restarts
abbrev pub serial_for : FunctionalUnits → ℕ → Option ℕ
serial_for units serial = if has_points units then Some serial else None

-- the unit that an accepted call sends
abbrev pub sends : State → Call → Meaning
sends s (Accept requirements serial sides sizes octets) =
    AC true requirements (serial_for (functional_units requirements) serial)
    (setting_of (settle (functional_units requirements) s.wishes sides)) (answered_sizes s.sizes sizes) octets
sends s (Refuse refusal) = RF (refusal_reason refusal) (refusal_octets refusal)
sends s (Data octets) = DT octets
sends s (Give tokens) = GT tokens
sends s (Please tokens octets) = PT tokens octets
sends s (Minor confirm octets) = MIP confirm s.numbers.next octets
sends s (MinorConfirm n octets) = MIA n octets
sends s (Major octets) = MAP s.numbers.next octets
sends s (MajorConfirm octets) = MAA (s.numbers.next - 1) octets
sends s (Restart n wishes octets) = RS resync.Restart n (offered s.units wishes) octets
sends s (RestartConfirm sides octets) = RA s.numbers.next (setting_of (settle s.units s.wishes sides)) octets
sends s (Release octets) = FN octets
sends s (ReleaseAccept octets) = DN octets
sends s (ReleaseRefuse octets) = NF octets
-- transport released, by the user
sends s (Abort octets) = AB 3 octets

-- the result of a call that is allowed in its phase, apart from its length
unfoldable pub met : State → Call → Answer
met s c = first_error (needs s c) (Ok (record { next = after s c; sent = sends s c }))

-- the lengths of the user data and of the TSDU are tested last
abbrev pub sized : Bool → Answer → Answer
sized fits (Ok step) = if fits then Ok step else Err error.TooLong
sized fits (Err e) = Err e

-- the answer to a call, apart from allocation failures
unfoldable pub allowed : State → Call → Answer
allowed s c =
    if is_over s.phase then Err error.Ended
    else if not (may_call s.phase c) then Err error.BadState
    else sized (nat_le (length (octets_of c)) (most_of c) && fits_limit s c (sends s c)) (met s c)

abbrev pub AllHold : List Test → Type 0
AllHold [] = Unit {0}
AllHold (t ∷ ts) = (t.0 ≡ true) × AllHold ts

-- what an accepted call has passed, and its result
pub record Passed (s : State) (c : Call) (x : Step) : Type 0 where
  pub phase : may_call s.phase c ≡ true
  pub needed : AllHold (needs s c)
  pub size : nat_le (length (octets_of c)) (most_of c) ≡ true
  pub limit : fits_limit s c (sends s c) ≡ true
  pub gives : x ≡ record { next = after s c; sent = sends s c }
