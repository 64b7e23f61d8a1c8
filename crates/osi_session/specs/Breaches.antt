-- Why a side may not send a word: the first rule that the word breaks, in the order in which the rules are tested.
use Rattle.std.specs.Prelude.{ℕ, ◌+◌, Bool, true, false, not, ◌&&◌, ◌||◌, ◌==◌, if◌then◌else◌, nat_le, nat_lt, List, [], ◌∷◌, length, Option, Some}
use Rattle.std.specs.Prelude.{None, unwrap_or, is_none, Result, Ok, Err}
use Rattle.osi_spdu.specs.declared.fields.TsduMaximumSize.{TsduMaximumSize}
use Rattle.osi_spdu.specs.declared.settings.TokenSetting.{TokenSetting}
use Rattle.osi_spdu.specs.Sizes.{are_sizes}
use Rattle.osi_message.specs.declared.places.Place.{Place}
use Rattle.osi_message.specs.Meanings.{Meaning, CN, AC, RF, DT, GT, PT, MIP, MIA, MAP, MAA, RS, RA, FN, DN, NF, AB, AA}
use Rattle.osi_message.specs.Reading.{names}
use Rattle.osi_message.specs.Tokens.{each}
use Rattle.osi_message.specs.Tokens as token
use Rattle.osi_message.specs.Words.{Word, says, part}
use Rattle.osi_session.specs.declared.breaches.Breach.{Breach}
use Rattle.osi_session.specs.declared.breaches.Breach.TheVariants as breach
use Rattle.osi_session.specs.declared.faults.CallError.TheVariants as error
use Rattle.osi_session.specs.declared.selected.FunctionalUnits.{FunctionalUnits}
use Rattle.osi_session.specs.declared.state.State.{State}
use Rattle.osi_session.specs.Allowed.{Answer, may_call, met, octets_of, most_of, most_data, has_right}
use Rattle.osi_session.specs.Calls.{refusal_with, Call, Refuse, Data, Give, Please, Minor, MinorConfirm, Major, MajorConfirm, Restart}
use Rattle.osi_session.specs.Calls.{RestartConfirm, ReleaseAccept, ReleaseRefuse, Abort}
use Rattle.osi_session.specs.Joining.{begins_anew}
use Rattle.osi_session.specs.Phases.{is_over, is_wait_transport, is_answering, is_ready}
use Rattle.osi_session.specs.Respond.{has_no_effect, is_restart}
use Rattle.osi_session.specs.Sides.{answers_wishes, stated}
use Rattle.osi_session.specs.Sizes.{limit_of}
use Rattle.osi_session.specs.Standing.{Seen, fits_user_data, is_in_size, stands_in_place}
use Rattle.osi_session.specs.Units.{functional_units, both_units, has_data}

-- a rule: whether it is kept, and what it is to break it
abbrev pub Rule : Type 0
Rule = Bool × Breach

abbrev pub first_broken : List Rule → Option Breach
first_broken [] = None
first_broken (r ∷ rules) = if r.0 then first_broken rules else Some r.1

-- what was broken before, or else the rule that is tested next
abbrev pub then_rule : Option Breach → Rule → Option Breach
then_rule (Some b) r = Some b
then_rule None r = if r.0 then None else Some r.1

-- rules of the calls of a user
abbrev pub ended : State → Rule
ended s = (not (is_over s.phase), breach.Call error.Ended)

abbrev pub in_state : Bool → Rule
in_state b = (b, breach.Call error.BadState)

abbrev pub holding : Bool → Rule
holding b = (b, breach.Call error.TokenNotHeld)

abbrev pub in_length : Bool → Rule
in_length b = (b, breach.Call error.TooLong)

abbrev pub numbered : Bool → Rule
numbered b = (b, breach.Call error.BadNumber)

-- the rule that is told, if one is broken
abbrev pub broken_in : {A : Type 0} → Result A Breach → Option Breach
broken_in (Ok a) = None
broken_in (Err b) = Some b

-- ---- a message

abbrev pub answer_breach : Bool → Answer → Option Breach
answer_breach fits (Ok step) = if fits then None else Some (breach.Call error.TooLong)
answer_breach fits (Err e) = Some (breach.Call e)

-- a message that a call sends: the error of the call
abbrev pub call_breach : State → Call → Option Breach
call_breach s c =
    if is_over s.phase then Some (breach.Call error.Ended)
    else if not (may_call s.phase c) then Some (breach.Call error.BadState)
    else answer_breach (nat_le (length (octets_of c)) (most_of c)) (met s c)

abbrev pub connect_breach : State → TsduMaximumSize → List ℕ → Option Breach
connect_breach s sizes octets =
    first_broken (in_state (is_wait_transport s.phase) ∷ in_length (fits_user_data octets) ∷ (are_sizes sizes, breach.Outside) ∷ [])

-- the functional units are those that both the CN and the AC name
abbrev pub accept_breach : FunctionalUnits → State → Bool → TokenSetting → TsduMaximumSize → List ℕ → Option Breach
accept_breach units s version_2 sides sizes octets =
    first_broken (in_state (is_answering s.phase) ∷ in_length (fits_user_data octets) ∷ (version_2 && are_sizes sizes, breach.Outside)
    ∷ (has_data units, breach.Call error.NotSelected) ∷ (answers_wishes units s.wishes sides, breach.BadTokens) ∷ [])

abbrev pub finish_breach : State → List ℕ → Option Breach
finish_breach s octets =
    first_broken (ended s ∷ in_state (is_ready s.phase) ∷ holding (each (has_right s)) ∷ in_length (fits_user_data octets) ∷ [])

abbrev pub message_breach : State → Meaning → Option Breach
message_breach s (CN version_2 requirements serial wishes from to sizes octets) = connect_breach s sizes octets
message_breach s (AC version_2 requirements serial sides sizes octets) =
    accept_breach (both_units s.units (functional_units requirements)) s version_2 sides sizes octets
message_breach s (RF reason octets) = call_breach s (Refuse (refusal_with octets))
message_breach s (DT octets) = call_breach s (Data octets)
message_breach s (GT tokens) = call_breach s (Give tokens)
message_breach s (PT tokens octets) = call_breach s (Please tokens octets)
message_breach s (MIP confirm n octets) = then_rule (call_breach s (Minor confirm octets)) (numbered (n == s.numbers.next))
message_breach s (MIA n octets) = call_breach s (MinorConfirm n octets)
message_breach s (MAP n octets) = then_rule (call_breach s (Major octets)) (numbered (n == s.numbers.next))
message_breach s (MAA n octets) = then_rule (call_breach s (MajorConfirm octets)) (numbered (n + 1 == s.numbers.next))
message_breach s (RS kind n wishes octets) = then_rule (call_breach s (Restart n wishes octets)) (is_restart kind, breach.Outside)
message_breach s (RA n sides octets) =
    then_rule (then_rule (call_breach s (RestartConfirm (stated s.units sides) octets)) (numbered (n == s.numbers.next)))
    (answers_wishes s.units s.wishes sides, breach.BadTokens)
message_breach s (FN octets) = finish_breach s octets
message_breach s (DN octets) = call_breach s (ReleaseAccept octets)
message_breach s (NF octets) = call_breach s (ReleaseRefuse octets)
-- a protocol error is only sent in answer to a bad unit (X.225 section 8.3.9)
message_breach s (AB bits octets) = then_rule (call_breach s (Abort octets)) (not (names bits 4), breach.NoFault)
message_breach s AA = Some breach.NothingToAnswer

-- the call that sends such a message decides on it alone
abbrev pub is_by_call : Meaning → Bool
is_by_call (RF reason octets) = true
is_by_call (DT octets) = true
is_by_call (GT tokens) = true
is_by_call (PT tokens octets) = true
is_by_call (MIA n octets) = true
is_by_call (DN octets) = true
is_by_call (NF octets) = true
is_by_call m = false

-- its number has to be that of the session
abbrev pub is_at_number : Meaning → Bool
is_at_number (MIP confirm n octets) = true
is_at_number (MAP n octets) = true
is_at_number (MAA n octets) = true
is_at_number (RA n sides octets) = true
is_at_number m = false

-- ---- a word

-- a part of one Data, with which so many octets of it are sent
abbrev pub data_breach : State → (octets : ℕ) → Option Breach
data_breach s n =
    first_broken (ended s ∷ in_state (is_ready s.phase) ∷ holding (has_right s token.data_token) ∷ (nat_lt 0 n, breach.Call error.Empty)
    ∷ in_length (nat_le n most_data) ∷ [])

-- it has its place among the parts, and a size is agreed
abbrev pub part_breach : Seen → Place → (octets : ℕ) → Option Breach
part_breach s place n =
    then_rule (data_breach s.state n) (stands_in_place s.sent place && not (limit_of s.state == 0), breach.BadEnclosure)

-- a token item that names no token breaks nothing
abbrev pub word_breach : Seen → Word → Option Breach
word_breach s (says m) =
    if has_no_effect m then None
    else then_rule (message_breach s.state m) (is_none s.sent || not (begins_anew m), breach.BadEnclosure)
word_breach s (part place octets) = part_breach s place (unwrap_or s.sent 0 + length octets)

-- The first rule that a word of a TSDU of this many octets breaks; none if the side may send it.
unfoldable pub breach_of : Seen → Word → (tsdu_octets : ℕ) → Option Breach
breach_of s w n =
    if s.closed then Some (breach.Call error.Ended) else then_rule (word_breach s w) (in_length (is_in_size s.state n))
