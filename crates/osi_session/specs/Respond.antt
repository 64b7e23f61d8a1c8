-- The table of units: the indications, the answer, whether the transport connection is closed, and the new state; then
-- the units of a TSDU, one after the other.
use Rattle.std.specs.Prelude.{◌≡◌, ℕ, ◌+◌, Bool, true, false, not, ◌&&◌, ◌||◌, if◌then◌else◌, ◌==◌, nat_le, nat_lt, List, [], ◌∷◌, ◌++◌, Option, Some, None, unwrap_or, is_none}
use Rattle.std.specs.List.{list_any}
use Rattle.osi_spdu.specs.declared.kinds.Kind.{Kind}
use Rattle.osi_spdu.specs.declared.kinds.Kind.TheVariants as kind
use Rattle.osi_spdu.specs.Kinds.{si_of}
use Rattle.osi_spdu.specs.Sizes.{are_sizes}
use Rattle.osi_spdu.specs.declared.fields.ResyncType.{ResyncType}
use Rattle.osi_spdu.specs.declared.fields.ResyncType.TheVariants as resync
use Rattle.osi_spdu.specs.declared.fields.TsduMaximumSize.{TsduMaximumSize}
use Rattle.osi_spdu.specs.declared.faults.SpduFault.{SpduFault}
use Rattle.osi_session.specs.declared.phases.Phase.{Phase}
use Rattle.osi_session.specs.declared.phases.Phase.TheVariants.{Answering, Ready, MajorDue, ReleaseDue, RestartDue, Aborting, Ended}
use Rattle.osi_session.specs.declared.faults.UnitFault.{UnitFault}
use Rattle.osi_session.specs.declared.faults.UnitFault.TheVariants.{Spelling, Unexpected, NotSelected, TokenHeld, BadNumber, BadTokens}
use Rattle.osi_session.specs.declared.state.State.{State}
use Rattle.osi_session.specs.declared.selected.FunctionalUnits.{FunctionalUnits}
use Rattle.osi_message.specs.Tokens.{Token, has, no_token, is_empty, is_within, is_disjoint, united, token_octet}
use Rattle.osi_message.specs.Tokens as token
use Rattle.osi_session.specs.Units.{functional_units, both_units, has_data, available}
use Rattle.osi_session.specs.Sides.{stated, of_asker, answers_wishes}
use Rattle.osi_session.specs.Numbers.{point_taken, minor_confirmed, major_confirmed, restarted_at}
use Rattle.osi_session.specs.Phases.{is_wait_cn, is_connecting, is_ready, is_major_asked, is_releasing, is_restarting, is_aborting, is_ended, is_over, shows_loss, takes_give, takes_data, takes_please, takes_minor_ack, takes_restart}
use Rattle.osi_session.specs.State.{without_tokens}
use Rattle.osi_session.specs.Sizes.{smaller_sizes}
use Rattle.osi_session.specs.Allowed.{base_for, opened_with}
use Rattle.osi_message.specs.Meanings.{Meaning, CN, AC, RF, DT, GT, PT, MIP, MIA, MAP, MAA, RS, RA, FN, DN, NF, AB, AA}
use Rattle.osi_message.specs.Reading.{Said, names}
use Rattle.osi_session.specs.Shown.{Shown, Connect, Connected, RefusedBySession, Data, Given, Asked, Minor, MinorConfirmed, Major, MajorConfirmed, Restart, Restarted, Release, Released, ReleaseRefused, Aborted, Lost, PeerAbort, BadUnit}

abbrev pub is_nil : List Shown → Bool
is_nil [] = true
is_nil (i ∷ shown) = false

pub record Outcome : Type 0 where
  pub next : State
  pub shown : List Shown
  pub reply : Option Meaning
  pub closes : Bool

abbrev pub nothing : State → Outcome
nothing s = record { next = s; shown = []; reply = None; closes = false }

abbrev pub shows : State → Shown → Outcome
shows s i = record (nothing s) { shown = i ∷ [] }

-- which unit it is
abbrev pub kind_of : Meaning → Kind
kind_of (CN v u n w from to z o) = kind.Connect
kind_of (AC v u n w z o) = kind.Accept
kind_of (RF r o) = kind.Refuse
kind_of (DT o) = kind.DataTransfer
kind_of (GT t) = kind.GiveTokens
kind_of (PT t o) = kind.PleaseTokens
kind_of (MIP c n o) = kind.MinorSyncPoint
kind_of (MIA n o) = kind.MinorSyncAck
kind_of (MAP n o) = kind.MajorSyncPoint
kind_of (MAA n o) = kind.MajorSyncAck
kind_of (RS k n w o) = kind.Resynchronize
kind_of (RA n w o) = kind.ResynchronizeAck
kind_of (FN o) = kind.Finish
kind_of (DN o) = kind.Disconnect
kind_of (NF o) = kind.NotFinished
kind_of (AB b o) = kind.Abort
kind_of AA = kind.AbortAccept

-- its first octet
abbrev pub si : Meaning → ℕ
si u = si_of (kind_of u)

-- a token item that names no token has no effect, and is not checked
abbrev pub has_no_effect : Meaning → Bool
has_no_effect (GT tokens) = is_empty tokens
has_no_effect (PT tokens octets) = is_empty tokens
has_no_effect _ = false

-- the phases in which a unit is expected
abbrev pub is_expected : Phase → Meaning → Bool
is_expected p (CN v u n w from to z o) = is_wait_cn p
is_expected p (AC v u n w z o) = is_connecting p
is_expected p (RF r o) = is_connecting p
is_expected p (DT o) = takes_data p
is_expected p (GT t) = takes_give p
is_expected p (PT t o) = takes_please p
is_expected p (MIP c n o) = is_ready p
is_expected p (MIA n o) = takes_minor_ack p
is_expected p (MAP n o) = is_ready p
is_expected p (MAA n o) = is_major_asked p
is_expected p (RS k n w o) = takes_restart p
is_expected p (RA n w o) = is_restarting p
is_expected p (FN o) = is_ready p
is_expected p (DN o) = is_releasing p
is_expected p (NF o) = is_releasing p
is_expected p (AB b o) = true
is_expected p AA = false

-- a condition of a unit, and the fault if it fails
abbrev pub Condition : Type 0
Condition = Bool × (ℕ → UnitFault)

abbrev pub lacks : State → Token → Bool
lacks s t = not (has s.held t)

-- the numbers that a minor confirmation may have; the major point itself is not one
abbrev pub is_acknowledgeable : State → ℕ → Bool
is_acknowledgeable s n = not s.numbers.answers && (nat_le s.numbers.confirmed n
    && (if is_major_asked s.phase then nat_lt (n + 1) s.numbers.next else nat_lt n s.numbers.next))

abbrev pub is_restart : ResyncType → Bool
is_restart resync.Restart = true
is_restart resync.Abandon = false
is_restart resync.Set = false

-- a point: its unit is selected, this side holds none of its tokens, and its number is V(M)
abbrev pub point_conditions : State → Bool → Bool → ℕ → List Condition
point_conditions s unit lacking n = (unit, NotSelected) ∷ (lacking, TokenHeld) ∷ (n == s.numbers.next, BadNumber) ∷ []

-- what a unit has to meet, in the order of its faults
abbrev pub conditions : State → Meaning → List Condition
conditions s (AC version_2 requirements serial sides sizes octets) =
    (version_2 && (has_data (both_units s.units (functional_units requirements)) && are_sizes sizes), NotSelected)
    ∷ (answers_wishes (both_units s.units (functional_units requirements)) s.wishes sides, BadTokens) ∷ []
conditions s (DT octets) = (lacks s token.data_token, TokenHeld) ∷ []
conditions s (GT tokens) = (is_within tokens (available s.units) && is_disjoint tokens s.held, BadTokens) ∷ []
conditions s (PT tokens octets) = (is_within tokens (available s.units), BadTokens) ∷ []
conditions s (MIP confirm n octets) = point_conditions s s.units.minor (lacks s token.data_token && lacks s token.minor) n
conditions s (MIA n octets) = (s.units.minor, NotSelected) ∷ (is_acknowledgeable s n, BadNumber) ∷ []
conditions s (MAP n octets) =
    point_conditions s s.units.major (lacks s token.data_token && (lacks s token.minor && lacks s token.major)) n
conditions s (MAA n octets) = (n + 1 == s.numbers.next, BadNumber) ∷ []
conditions s (RS kind n wishes octets) =
    (s.units.resynchronize && is_restart kind, NotSelected)
    ∷ (nat_le s.base n && (is_restarting s.phase || nat_le n s.numbers.next), BadNumber) ∷ []
conditions s (RA n sides octets) = (n == s.numbers.next, BadNumber) ∷ (answers_wishes s.units s.wishes sides, BadTokens) ∷ []
conditions s (FN octets) = (is_empty s.held, TokenHeld) ∷ []
conditions s (NF octets) = (s.units.negotiated_release, NotSelected) ∷ []
conditions s _ = []

-- the fault of the first condition that does not hold
abbrev pub first_fault : ℕ → List Condition → Option UnitFault
first_fault n [] = None
first_fault n (c ∷ cs) = if c.0 then first_fault n cs else Some (c.1 n)

-- the lower number wins, and of equal numbers the caller's
unfoldable pub stands : State → ℕ → Bool
stands s n = not (is_restarting s.phase)
    || (nat_lt n s.numbers.next || ((n == s.numbers.next) && not s.is_caller))

-- version 2, half-duplex or duplex, and sizes that a user may give
abbrev pub is_acceptable : Bool → ℕ → TsduMaximumSize → Bool
is_acceptable version_2 requirements sizes = version_2 && (has_data (functional_units requirements) && are_sizes sizes)

-- the first number: the AC's, or the CN's if the AC names none
abbrev pub agreed_base : FunctionalUnits → Option ℕ → ℕ → ℕ
agreed_base units serial proposed = base_for units (unwrap_or serial proposed)

-- the state after a good unit
abbrev pub becomes : State → Meaning → State
becomes s (CN version_2 requirements serial wishes from to sizes octets) =
    if is_acceptable version_2 requirements sizes
    then record s { phase = Answering; units = functional_units requirements; wishes = wishes; proposed = unwrap_or serial 0; sizes = sizes }
    else without_tokens Ended s
becomes s (AC version_2 requirements serial sides sizes octets) =
    opened_with (both_units s.units (functional_units requirements))
    (of_asker (both_units s.units (functional_units requirements)) (stated (both_units s.units (functional_units requirements)) sides))
    (agreed_base (both_units s.units (functional_units requirements)) serial s.proposed) (smaller_sizes s.sizes sizes) s
becomes s (RF reason octets) = without_tokens Ended s
becomes s (DT octets) = s
becomes s (GT tokens) = record s { held = united s.held tokens }
becomes s (PT tokens octets) = s
becomes s (MIP confirm n octets) = record s { numbers = point_taken s.numbers }
becomes s (MIA n octets) = record s { numbers = minor_confirmed n s.numbers }
becomes s (MAP n octets) = record s { phase = MajorDue; numbers = point_taken s.numbers }
becomes s (MAA n octets) = record s { phase = Ready; numbers = major_confirmed s.numbers }
becomes s (RS kind n wishes octets) =
    if stands s n then record (without_tokens RestartDue s) { wishes = wishes; numbers = restarted_at n s.numbers } else s
becomes s (RA n sides octets) = record s { phase = Ready; held = of_asker s.units (stated s.units sides) }
becomes s (FN octets) = record s { phase = ReleaseDue }
becomes s (DN octets) = without_tokens Ended s
becomes s (NF octets) = record s { phase = Ready }
becomes s (AB bits octets) = without_tokens Ended s
becomes s AA = s

-- the indications of a good unit; before a CN was taken there is no user to receive any
abbrev pub shown_for : State → Meaning → List Shown
shown_for s (CN version_2 requirements serial wishes from to sizes octets) =
    if is_acceptable version_2 requirements sizes then Connect requirements serial wishes sizes octets ∷ [] else []
shown_for s (AC version_2 requirements serial sides sizes octets) =
    Connected requirements serial (stated (both_units s.units (functional_units requirements)) sides) sizes octets ∷ []
shown_for s (RF reason octets) = RefusedBySession reason octets ∷ []
shown_for s (DT octets) = Data octets ∷ []
shown_for s (GT tokens) = Given (token_octet tokens) ∷ []
shown_for s (PT tokens octets) = Asked (token_octet tokens) octets ∷ []
shown_for s (MIP confirm n octets) = Minor n confirm octets ∷ []
shown_for s (MIA n octets) = MinorConfirmed n octets ∷ []
shown_for s (MAP n octets) = Major n octets ∷ []
shown_for s (MAA n octets) = MajorConfirmed octets ∷ []
shown_for s (RS kind n wishes octets) = if stands s n then Restart n wishes octets ∷ [] else []
shown_for s (RA n sides octets) = Restarted n (stated s.units sides) octets ∷ []
shown_for s (FN octets) = Release octets ∷ []
shown_for s (DN octets) = Released octets ∷ []
shown_for s (NF octets) = ReleaseRefused octets ∷ []
shown_for s (AB bits octets) =
    if is_wait_cn s.phase then [] else (if names bits 2 then Aborted octets else PeerAbort bits) ∷ []
shown_for s AA = []

-- the answer to a good unit: RF to a CN that can't be accepted, AA to AB
abbrev pub reply_for : Meaning → Option Meaning
reply_for (CN version_2 requirements serial wishes from to sizes octets) =
    if not version_2 then Some (RF 132 [])
    else (if not (has_data (functional_units requirements) && are_sizes sizes) then Some (RF 134 []) else None)
reply_for (AB bits octets) = Some AA
reply_for _ = None

abbrev pub closes_for : Meaning → Bool
closes_for (RF reason octets) = true
closes_for (DN octets) = true
closes_for _ = false

abbrev pub good : State → Meaning → Outcome
good s u = record { next = becomes s u; shown = shown_for s u; reply = reply_for u; closes = closes_for u }

-- a bad unit: AB is sent for a protocol error, and the transport connection is released
abbrev pub bad : State → UnitFault → Outcome
bad s fault = record {
  next = without_tokens Aborting s;
  shown = if is_wait_cn s.phase then [] else BadUnit fault ∷ [];
  reply = Some (AB 5 []);
  closes = false;
}

abbrev pub judged : State → Meaning → Option UnitFault → Outcome
judged s u None = good s u
judged s u (Some fault) = bad s fault

-- RS, RA and AB: an end that has requested a restart discards all other units
abbrev pub passes_restarting : Meaning → Bool
passes_restarting (RS kind n wishes octets) = true
passes_restarting (RA n sides octets) = true
passes_restarting (AB bits octets) = true
passes_restarting _ = false

-- what is discarded: a token item that names no token, and while a restart is awaited all units but these three
abbrev pub drops : State → Meaning → Bool
drops s u = has_no_effect u || (is_restarting s.phase && not (passes_restarting u))

abbrev pub in_aborting : State → Meaning → Outcome
in_aborting s (AB bits octets) = record (nothing (without_tokens Ended s)) { closes = true }
in_aborting s AA = record (nothing (without_tokens Ended s)) { closes = true }
in_aborting s _ = nothing s

abbrev pub in_ended : State → Meaning → Outcome
in_ended s (AB bits octets) = record (nothing s) { reply = Some AA }
in_ended s _ = nothing s

-- a unit that the phase expects
unfoldable pub take_expected : State → Meaning → Outcome
take_expected s u = judged s u (first_fault (si u) (conditions s u))

-- a unit that arrives while the connection lives, and is not discarded
abbrev pub in_phase : State → Meaning → Outcome
in_phase s u = if not (is_expected s.phase u) then bad s (Unexpected (si u)) else take_expected s u

-- one unit
unfoldable pub respond_unit : State → Meaning → Outcome
respond_unit s u =
    if is_aborting s.phase then in_aborting s u
    else if is_ended s.phase then in_ended s u
    else if drops s u then nothing s
    else in_phase s u

-- a unit that names functional units
abbrev pub has_terms : Meaning → Bool
has_terms (CN v u n w from to z o) = true
has_terms (AC v u n w z o) = true
has_terms _ = false

abbrev pub is_resynchronize : Meaning → Bool
is_resynchronize (RS kind n wishes octets) = true
is_resynchronize _ = false

-- a unit is bad exactly if it is answered with AB
abbrev pub replies_abort : Option Meaning → Bool
replies_abort (Some (AB bits octets)) = true
replies_abort _ = false

-- GT or PT
abbrev pub is_token_item : Meaning → Bool
is_token_item (GT tokens) = true
is_token_item (PT tokens octets) = true
is_token_item _ = false

abbrev pub first_reply : Option Meaning → Option Meaning → Option Meaning
first_reply None b = b
first_reply (Some a) b = Some a

-- the result of one outcome followed by another
abbrev pub and_then : Outcome → Outcome → Outcome
and_then first second = record {
  next = second.next;
  shown = first.shown ++ second.shown;
  reply = first_reply first.reply second.reply;
  closes = first.closes || second.closes;
}

-- the verdict on a unit: the connection is over; it is discarded; it is bad, by its first fault; it is good
pub data Verdict : Type 0 where
  over : Verdict
  dropped : Verdict
  faulty : (fault : UnitFault) → Verdict
  fine : Verdict

abbrev pub by_fault : Option UnitFault → Verdict
by_fault None = fine
by_fault (Some fault) = faulty fault

abbrev pub verdict : State → Meaning → Verdict
verdict s u =
    if is_over s.phase then over
    else if drops s u then dropped
    else if not (is_expected s.phase u) then faulty (Unexpected (si u))
    else by_fault (first_fault (si u) (conditions s u))

-- what a verdict means
abbrev pub enacted : State → Meaning → Verdict → Outcome
enacted s u over = if is_aborting s.phase then in_aborting s u else in_ended s u
enacted s u dropped = nothing s
enacted s u (faulty fault) = bad s fault
enacted s u fine = good s u

abbrev pub is_faulty : Verdict → Bool
is_faulty over = false
is_faulty dropped = false
is_faulty (faulty fault) = true
is_faulty fine = false

-- the state after a unit that is good, or that is discarded
abbrev pub after_unit : State → Meaning → State
after_unit s u = if drops s u then s else becomes s u

abbrev pub AllMet : List Condition → Type 0
AllMet [] = Unit {0}
AllMet (c ∷ cs) = (c.0 ≡ true) × AllMet cs

-- a unit that the phase expects and that meets each of its conditions
pub record IsGood (s : State) (u : Meaning) : Type 0 where
  pub expected : is_expected s.phase u ≡ true
  pub met : AllMet (conditions s u)

-- units one after the other; the first bad one is the last that takes effect
unfoldable pub respond_all : State → List Meaning → Outcome
respond_all s [] = nothing s
respond_all s (u ∷ us) =
    if is_faulty (verdict s u) then respond_unit s u
    else and_then (respond_unit s u) (respond_all (respond_unit s u).next us)

-- the units of a TSDU in the order in which they take effect: the first, a token item or a unit by itself, takes effect
-- after those that follow it, and has no effect if one of them is an RS
unfoldable pub acting : Said → List Meaning
acting [] = []
acting (first ∷ units) = if list_any is_resynchronize units then units else units ++ first ∷ []

-- the units of a TSDU
abbrev pub respond : State → Said → Outcome
respond s said = respond_all s (acting said)

-- a TSDU that is not session units
unfoldable pub respond_fault : State → SpduFault → Outcome
respond_fault s fault = if is_over s.phase then nothing s else bad s (Spelling fault)

-- the transport connection was closed or broken, or had a fault; before a CN was taken there is no user to be told, and
-- after an abort the user knows already
abbrev pub lost : State → Outcome
lost s = record (nothing (without_tokens Ended s)) { shown = if shows_loss s.phase then Lost ∷ [] else [] }

-- nothing is indicated and nothing sent
abbrev pub is_silent : Outcome → Bool
is_silent o = is_nil o.shown && is_none o.reply
