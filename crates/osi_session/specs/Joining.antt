-- Data in parts: the joined octets of an unfinished SSDU, which units are bad within one, and the effect of a word of a
-- TSDU, which is a message or a part of a Data.
use Rattle.std.specs.Prelude.{ℕ, Bool, true, false, not, ◌||◌, if◌then◌else◌, nat_le, List, [], ◌∷◌, ◌++◌, length, Option, Some, None, unwrap_or, is_none, is_some, Result, Ok, Err}
use Rattle.std.specs.List.{list_any}
use Rattle.osi_spdu.specs.declared.faults.SpduFault.{SpduFault}
use Rattle.osi_session.specs.declared.phases.Phase.{Phase}
use Rattle.osi_session.specs.declared.faults.UnitFault.TheVariants.{Unexpected, BadEnclosure, DataTooLong}
use Rattle.osi_session.specs.declared.state.State.{State}
use Rattle.osi_session.specs.Allowed.{most_data}
use Rattle.osi_session.specs.Phases.{is_over, may_hold}
use Rattle.osi_session.specs.Respond.{Outcome, nothing, Condition, si, conditions, first_fault, is_expected, drops, good, bad, is_resynchronize, first_reply, Verdict, over, dropped, faulty, fine, by_fault, is_faulty, enacted, respond_fault}
use Rattle.osi_session.specs.Shown.{Shown}
use Rattle.osi_message.specs.Meanings.{Meaning, DT, GT, MIP, MAP, FN}
use Rattle.osi_message.specs.declared.places.Place.{Place}
use Rattle.osi_message.specs.declared.places.Place.TheVariants.{First, Middle, Last}
use Rattle.osi_message.specs.Words.{Word, Words, says, part, as_message}

-- a state, and the octets of an unfinished SSDU
pub record Taker : Type 0 where
  pub state : State
  pub joined : Option (List ℕ)

abbrev pub joined_octets : Option (List ℕ) → List ℕ
joined_octets joined = unwrap_or joined []

-- An unfinished SSDU is kept in the phases in which tokens are held: a restart that is requested or taken, an abort and
-- the end drop it, and before a connection is open there is none.
abbrev pub drops_parts : Phase → Bool
drops_parts p = not (may_hold p)

abbrev pub kept_in : Phase → Option (List ℕ) → Option (List ℕ)
kept_in p joined = if drops_parts p then None else joined

-- ---- the conditions of a word, tried after those of its message

-- the messages that may not occur within an SSDU
abbrev pub begins_anew : Meaning → Bool
begins_anew (DT octets) = true
begins_anew (GT tokens) = true
begins_anew (MIP confirm n octets) = true
begins_anew (MAP n octets) = true
begins_anew (FN octets) = true
begins_anew _ = false

-- a first part is in place if nothing is unfinished, and a later one if something is
abbrev pub is_in_place : Option (List ℕ) → Place → Bool
is_in_place joined First = is_none joined
is_in_place joined Middle = is_some joined
is_in_place joined Last = is_some joined

abbrev pub is_last : Place → Bool
is_last Last = true
is_last _ = false

abbrev pub enclosure_conditions : Option (List ℕ) → Word → List Condition
enclosure_conditions joined (says u) = (is_none joined || not (begins_anew u), BadEnclosure) ∷ []
enclosure_conditions joined (part place octets) =
    (is_in_place joined place, BadEnclosure) ∷ (nat_le (length (joined_octets joined ++ octets)) most_data, DataTooLong) ∷ []

abbrev pub word_conditions : Taker → Word → List Condition
word_conditions t w = conditions t.state (as_message w) ++ enclosure_conditions t.joined w

-- the verdict on a word, as on its message
abbrev pub word_verdict : Taker → Word → Verdict
word_verdict t w =
    if is_over t.state.phase then over
    else if drops t.state (as_message w) then dropped
    else if not (is_expected t.state.phase (as_message w)) then faulty (Unexpected (si (as_message w)))
    else by_fault (first_fault (si (as_message w)) (word_conditions t w))

-- ---- the effect of a word

-- what is joined after a good word
abbrev pub joined_by : Option (List ℕ) → Word → Option (List ℕ)
joined_by joined (says u) = joined
joined_by joined (part First octets) = Some octets
joined_by joined (part Middle octets) = Some (joined_octets joined ++ octets)
joined_by joined (part Last octets) = None

-- the effect of a good word: the last part is all the data, and an earlier one changes only what is joined
abbrev pub good_word : Taker → Word → Outcome
good_word t (says u) = good t.state u
good_word t (part First octets) = nothing t.state
good_word t (part Middle octets) = nothing t.state
good_word t (part Last octets) = good t.state (DT (joined_octets t.joined ++ octets))

-- the state afterwards, the indications, the unit to send, and whether the transport connection is closed
pub record Hearing : Type 0 where
  pub next : Taker
  pub shown : List Shown
  pub reply : Option Meaning
  pub closes : Bool

-- an outcome, and what is joined after it
abbrev pub heard : Option (List ℕ) → Outcome → Hearing
heard joined o = record {
  next = record { state = o.next; joined = kept_in o.next.phase joined };
  shown = o.shown;
  reply = o.reply;
  closes = o.closes;
}

abbrev pub enacted_word : Taker → Word → Verdict → Hearing
enacted_word t w over = heard t.joined (enacted t.state (as_message w) over)
enacted_word t w dropped = heard t.joined (nothing t.state)
enacted_word t w (faulty fault) = heard t.joined (bad t.state fault)
enacted_word t w fine = heard (joined_by t.joined w) (good_word t w)

-- one word
unfoldable pub respond_word : Taker → Word → Hearing
respond_word t w = enacted_word t w (word_verdict t w)

-- ---- the words of a TSDU, one after the other

-- the result of one hearing followed by another
abbrev pub heard_then : Hearing → Hearing → Hearing
heard_then first second = record {
  next = second.next;
  shown = first.shown ++ second.shown;
  reply = first_reply first.reply second.reply;
  closes = first.closes || second.closes;
}

abbrev pub idle : Taker → Hearing
idle t = record { next = t; shown = []; reply = None; closes = false }

-- the first bad word is the last that takes effect
unfoldable pub respond_words : Taker → Words → Hearing
respond_words t [] = idle t
respond_words t (w ∷ ws) =
    if is_faulty (word_verdict t w) then respond_word t w
    else heard_then (respond_word t w) (respond_words (respond_word t w).next ws)

abbrev pub is_restart_word : Word → Bool
is_restart_word w = is_resynchronize (as_message w)

-- the words in the order in which they take effect, as units do
unfoldable pub acting_words : Words → Words
acting_words [] = []
acting_words (first ∷ words) = if list_any is_restart_word words then words else words ++ first ∷ []

-- the words of a TSDU
abbrev pub respond_tsdu : Taker → Words → Hearing
respond_tsdu t words = respond_words t (acting_words words)

-- what was read of a TSDU, words or its fault
abbrev pub respond_came : Taker → Result Words SpduFault → Hearing
respond_came t (Ok words) = respond_tsdu t words
respond_came t (Err fault) = heard t.joined (respond_fault t.state fault)
