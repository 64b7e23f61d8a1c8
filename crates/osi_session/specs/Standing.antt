-- One side of a session as an observer sees it, without user data: its state, the effect of a TSDU that it takes, and
-- what it may send. The joined and the sent octets of an unfinished SSDU are counted.
use Rattle.std.specs.Prelude.{◌≡◌, ℕ, ◌+◌, Bool, true, false, not, ◌&&◌, ◌||◌, ◌==◌, if◌then◌else◌, nat_le, nat_lt, List, length, Option, Some, None, unwrap_or, is_none, option_map, Result, Ok, Err}
use Rattle.osi_spdu.specs.declared.fields.TsduMaximumSize.{TsduMaximumSize}
use Rattle.osi_spdu.specs.declared.settings.TokenSetting.{TokenSetting}
use Rattle.osi_spdu.specs.Sizes.{are_sizes}
use Rattle.osi_session.specs.declared.phases.Phase.{Phase}
use Rattle.osi_session.specs.declared.phases.Phase.TheVariants.{WaitTransport, Connecting, Releasing}
use Rattle.osi_session.specs.declared.selected.FunctionalUnits.{FunctionalUnits}
use Rattle.osi_session.specs.declared.state.State.{State}
use Rattle.osi_message.specs.declared.places.Place.{Place}
use Rattle.osi_message.specs.declared.places.Place.TheVariants.{First, Middle, Last}
use Rattle.osi_message.specs.Meanings.{Meaning, CN, AC, RF, DT, GT, PT, MIP, MIA, MAP, MAA, RS, RA, FN, DN, NF, AB, AA}
use Rattle.osi_message.specs.Reading.{names, said_at}
use Rattle.osi_message.specs.Tokens.{each}
use Rattle.osi_message.specs.Tokens as token
use Rattle.osi_message.specs.Words.{Word, says, part}
use Rattle.osi_session.specs.Allowed.{Answer, may_call, met, octets_of, most_of, most_data, most_user_data, has_right, opened_with}
use Rattle.osi_session.specs.Calls.{refusal_with, Call, Refuse, Data, Give, Please, Minor, MinorConfirm, Major, MajorConfirm, Restart, RestartConfirm, ReleaseAccept, ReleaseRefuse, Abort}
use Rattle.osi_session.specs.Joining.{Hearing, begins_anew, drops_parts, is_last, respond_came}
use Rattle.osi_session.specs.Phases.{is_wait_transport, is_answering, is_ready}
use Rattle.osi_session.specs.Respond.{agreed_base, has_no_effect, is_restart}
use Rattle.osi_session.specs.Sessions.{awaiting}
use Rattle.osi_session.specs.Sides.{answers_wishes, of_answerer, stated}
use Rattle.osi_session.specs.Sizes.{limit_of, smaller_sizes}
use Rattle.osi_session.specs.Units.{functional_units, both_units, has_data}

-- The state; how many octets of an unfinished SSDU of the peer are joined; how many octets of an unfinished SSDU of its
-- own were sent; and whether it closed the transport connection by itself.
pub record Seen : Type 0 where
  pub state : State
  pub joined : Option ℕ
  pub sent : Option ℕ
  pub closed : Bool

-- ---- how it begins

abbrev pub begins : State → Seen
begins s = record { state = s; joined = None; sent = None; closed = false }

-- the called side awaits a CN; the calling side sends its CN once the transport connection is open
abbrev pub seen_called : Seen
seen_called = begins awaiting

abbrev pub seen_calling : Seen
seen_calling = begins (record awaiting { phase = WaitTransport; is_caller = true })

-- ---- what it takes

-- the state and the answer after a hearing, with the joined octets counted
pub record Count : Type 0 where
  pub state : State
  pub joined : Option ℕ
  pub reply : Option Meaning
  pub closes : Bool

abbrev pub counted : Hearing → Count
counted h = record { state = h.next.state; joined = option_map length h.next.joined; reply = h.reply; closes = h.closes }

-- an unfinished SSDU is kept and dropped as `kept_in` says
abbrev pub kept_count : Phase → Option ℕ → Option ℕ
kept_count p n = if drops_parts p then None else n

abbrev pub after_count : Seen → Count → Seen
after_count s c = record { state = c.state; joined = c.joined; sent = kept_count c.state.phase s.sent; closed = s.closed || c.closes }

-- A TSDU that is taken: the session does the same whichever octets are joined, if there are this many.
abbrev pub Takes : Seen → List ℕ → Count → Type 0
Takes s tsdu c = (joined : Option (List ℕ)) → option_map length joined ≡ s.joined →
    counted (respond_came (record { state = s.state; joined = joined }) (said_at tsdu)) ≡ c

-- it takes nothing before its CN, nor after it closed the connection by itself
abbrev pub listens : Seen → Bool
listens s = not (s.closed || is_wait_transport s.state.phase)

-- ---- what it sends: answers, which are sent as a TSDU is taken

-- An RF may have any reason (X.225 section 8.3.5), and an AB for a protocol error any bits but that of the user (section 8.3.9).
abbrev pub answers : Meaning → Meaning → Bool
answers (RF reason octets) (RF said data_octets) = true
answers (AB bits octets) (AB said data_octets) = not (names said 2)
answers AA AA = true
answers _ _ = false

abbrev pub answers_word : Meaning → Word → Bool
answers_word reply (says m) = answers reply m
answers_word reply (part place octets) = false

-- ---- what it sends: its calls

-- the state that an answer leaves
abbrev pub left_by : Answer → Option State
left_by (Ok step) = Some step.next
left_by (Err e) = None

-- an answer in memory
abbrev pub Leaves : {E : Type 0} → Result State E → Option State → Type 0
Leaves (Ok next) left = left ≡ Some next
Leaves (Err e) left = left ≡ None

-- the state after an allowed call; the size of the TSDU is tested separately, as it was sent
abbrev pub calling : State → Call → Option State
calling s c = if may_call s.phase c && nat_le (length (octets_of c)) (most_of c) then left_by (met s c) else None

abbrev pub fits_user_data : List ℕ → Bool
fits_user_data octets = nat_le (length octets) most_user_data

-- A CN may name any functional units, settings of tokens that are not available, and a first number that it doesn't
-- need (X.225 section 8.3.1): only what is selected counts.
abbrev pub connecting : State → (requirements : ℕ) → Option ℕ → TokenSetting → TsduMaximumSize → List ℕ → Option State
connecting s requirements serial wishes sizes octets =
    if is_wait_transport s.phase && (fits_user_data octets && are_sizes sizes)
    then Some (record s { phase = Connecting; units = functional_units requirements; wishes = wishes; proposed = unwrap_or serial 0; sizes = sizes })
    else None

-- An AC may name functional units that the CN does not, leave out the first number, and name any size (section 8.3.4):
-- the units that both name are selected, the CN's number is used, and the smaller sizes apply.
abbrev pub accepting_in : FunctionalUnits → State → Bool → Option ℕ → TokenSetting → TsduMaximumSize → List ℕ → Option State
accepting_in units s version_2 serial sides sizes octets =
    if is_answering s.phase && (fits_user_data octets && ((version_2 && (has_data units && are_sizes sizes)) && answers_wishes units s.wishes sides))
    then Some (opened_with units (of_answerer units (stated units sides)) (agreed_base units serial s.proposed) (smaller_sizes s.sizes sizes) s)
    else None

-- With duplex, no token decides who may request release, so either side may (section 7.6).
abbrev pub finishing : State → List ℕ → Option State
finishing s octets =
    if is_ready s.phase && (fits_user_data octets && each (has_right s)) then Some (record s { phase = Releasing }) else None

-- if a number is that of the session
abbrev pub where_is : Bool → Option State → Option State
where_is b s = if b then s else None

-- The state after a message that may be sent.
abbrev pub said_message : State → Meaning → Option State
said_message s (CN version_2 requirements serial wishes from to sizes octets) = connecting s requirements serial wishes sizes octets
said_message s (AC version_2 requirements serial sides sizes octets) =
    accepting_in (both_units s.units (functional_units requirements)) s version_2 serial sides sizes octets
-- any reason: 129 to 131 are those of providers (section 8.3.5)
said_message s (RF reason octets) = calling s (Refuse (refusal_with octets))
said_message s (DT octets) = calling s (Data octets)
said_message s (GT tokens) = calling s (Give tokens)
said_message s (PT tokens octets) = calling s (Please tokens octets)
said_message s (MIP confirm n octets) = where_is (n == s.numbers.next) (calling s (Minor confirm octets))
said_message s (MIA n octets) = calling s (MinorConfirm n octets)
said_message s (MAP n octets) = where_is (n == s.numbers.next) (calling s (Major octets))
said_message s (MAA n octets) = where_is (n + 1 == s.numbers.next) (calling s (MajorConfirm octets))
-- settings of tokens that are not available may have any value (section 8.3.24)
said_message s (RS kind n wishes octets) = where_is (is_restart kind) (calling s (Restart n wishes octets))
said_message s (RA n sides octets) =
    where_is ((n == s.numbers.next) && answers_wishes s.units s.wishes sides) (calling s (RestartConfirm (stated s.units sides) octets))
said_message s (FN octets) = finishing s octets
said_message s (DN octets) = calling s (ReleaseAccept octets)
said_message s (NF octets) = calling s (ReleaseRefuse octets)
-- of a user, or of a provider that gives up; a protocol error is only sent in an answer (section 8.3.9)
said_message s (AB bits octets) = where_is (not (names bits 4)) (calling s (Abort octets))
said_message s AA = None

-- ---- what it sends: words, and the parts of a Data

-- a side with this new state
abbrev pub goes : Seen → State → Seen
goes s next = record s { state = next; joined = kept_count next.phase s.joined; sent = kept_count next.phase s.sent }

-- a first part is in place if nothing is unfinished, and a later one if something is
abbrev pub stands_in_place : Option ℕ → Place → Bool
stands_in_place None First = true
stands_in_place (Some n) Middle = true
stands_in_place (Some n) Last = true
stands_in_place _ _ = false

-- so much data may be sent
abbrev pub may_send : State → ℕ → Bool
may_send s n = is_ready s.phase && (has_right s token.data_token && (nat_lt 0 n && nat_le n most_data))

-- If a size is agreed, data may be sent in parts (section 7.11), cut anywhere.
abbrev pub parting : Seen → Place → (octets : ℕ) → Option Seen
parting s place n =
    if not (limit_of s.state == 0) && (stands_in_place s.sent place && may_send s.state n)
    then Some (record s { sent = if is_last place then None else Some n }) else None

-- A token item that names no token has no effect. Within an unfinished SSDU, a message that may not occur within one
-- may not be sent.
abbrev pub said_within : Seen → Word → Option Seen
said_within s (says m) =
    if has_no_effect m then Some s
    else if is_none s.sent || not (begins_anew m) then option_map (goes s) (said_message s.state m) else None
said_within s (part place octets) = parting s place (unwrap_or s.sent 0 + length octets)

-- no size is agreed, or the TSDU is within it
abbrev pub is_in_size : State → (tsdu_octets : ℕ) → Bool
is_in_size s n = (limit_of s == 0) || nat_le n (limit_of s)

-- the side after a word, of a TSDU of this many octets, that it may send
unfoldable pub said : Seen → Word → (tsdu_octets : ℕ) → Option Seen
said s w n = if not s.closed && is_in_size s.state n then said_within s w else None

-- what is reported of it in memory
abbrev pub SaysAs : {E : Type 0} → Result Seen E → Option Seen → Type 0
SaysAs (Ok next) left = left ≡ Some next
SaysAs (Err e) left = left ≡ None

-- The side may send the word, and this is its state after it.
abbrev pub CanSay : Seen → Word → (tsdu_octets : ℕ) → Seen → Type 0
CanSay s w n next = said s w n ≡ Some next
