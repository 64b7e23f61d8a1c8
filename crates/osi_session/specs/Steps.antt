-- The results of calls and units in memory, as the tables have them.
use Rattle.std.specs.Prelude.{◌≡◌, ℕ, Bool, true, false, not, ◌&&◌, ◌||◌, nat_lt, is_none, List, [], ◌∷◌, ◌++◌, length, Option, Some, None, map, option_map, Result, Ok, Err}
use Rattle.osi_session.specs.declared.faults.CallError.{CallError}
use Rattle.osi_session.specs.declared.calling.Step as memory
use Rattle.osi_message.specs.Meanings.{Meaning, meant_by}
use Rattle.osi_session.specs.declared.indications.Indication.{Indication}
use Rattle.osi_session.specs.declared.reactions.Reply.{Reply}
use Rattle.osi_session.specs.declared.reactions.Reply.TheVariants as replies
use Rattle.osi_session.specs.declared.reactions.Reaction.{Reaction}
use Rattle.osi_session.specs.declared.grouping.Reactions.{Reactions}
use Rattle.osi_session.specs.declared.hearing.Heard.{Heard}
use Rattle.osi_session.specs.declared.hearing.Joined.{Joined}
use Rattle.osi_session.specs.declared.hearing.Joined.TheVariants as leaves
use Rattle.osi_session.specs.declared.joining.PartVerdict.{PartVerdict}
use Rattle.osi_session.specs.declared.joining.PartVerdict.TheVariants as part_is
use Rattle.osi_session.specs.declared.words.Word as memory_word
use Rattle.osi_session.specs.declared.words.Word.TheVariants as word
use Rattle.osi_message.specs.Meanings.{RF, AB, AA}
use Rattle.osi_session.specs.Shown.{Shown, shown_by}
use Rattle.osi_session.specs.Allowed.{Step, Test, Answer, first_error}
use Rattle.osi_session.specs.Respond.{Outcome, is_nil, is_silent, Verdict, over, dropped, faulty, fine}
use Rattle.osi_session.specs.Joining.{Hearing, joined_octets}
use Rattle.osi_message.specs.Words.{Word, says, part}

abbrev pub step_of : memory.Step → Step
step_of s = record { next = s.next; sent = meant_by s.sent }

-- the answer of the table
abbrev pub Answers : Result memory.Step CallError → Answer → Type 0
Answers (Ok s) answer = answer ≡ Ok (step_of s)
Answers (Err e) answer = answer ≡ Err e

-- the result of the tests of a call: each holds, or the error of the first that fails
abbrev pub Finds : {A : Type 0} → Result A CallError → List Test → Type 0
Finds (Ok x) tests = (a : Answer) → first_error tests a ≡ a
Finds (Err e) tests = (a : Answer) → first_error tests a ≡ Err e

-- the answer to a unit
abbrev pub reply_of : Reply → Meaning
reply_of replies.VersionNotSupported = RF 132 []
reply_of replies.ImplementationRestriction = RF 134 []
reply_of replies.ProtocolError = AB 5 []
reply_of replies.AbortAccept = AA

abbrev pub shown_list : Option Indication → List Shown
shown_list None = []
shown_list (Some i) = shown_by i ∷ []

abbrev pub outcome_of : Reaction → Outcome
outcome_of r = record { next = r.next; shown = shown_list r.shown; reply = option_map reply_of r.reply; closes = r.closes }

-- The outcome of the table. Memory is needed only if something is indicated or sent.
abbrev pub Reacts : {E : Type 0} → Result Reaction E → Outcome → Type 0
Reacts (Ok r) outcome = outcome ≡ outcome_of r
Reacts (Err e) outcome = is_silent outcome ≡ false

-- the first indication, and those after it
abbrev pub all_shown : Option Indication → List Indication → List Shown
all_shown first more = shown_list first ++ map shown_by more

abbrev pub outcome_of_all : Reactions → Outcome
outcome_of_all r = record {
  next = r.next;
  shown = all_shown r.first r.more.items;
  reply = option_map reply_of r.reply;
  closes = r.closes;
}

-- ---- words

abbrev pub word_by : memory_word.Word → Word
word_by (word.Says message) = says (meant_by message)
word_by (word.Part place octets) = part place octets.now

-- the verdict on a part
abbrev pub told_of : Verdict → PartVerdict
told_of over = part_is.Dropped
told_of dropped = part_is.Dropped
told_of (faulty fault) = part_is.Bad fault
told_of fine = part_is.Good

-- the joined octets afterwards, from those before
abbrev pub joined_after : Joined → Option (List ℕ) → Option (List ℕ)
joined_after leaves.Kept joined = joined
joined_after leaves.Dropped joined = None
joined_after (leaves.Now octets) joined = Some octets

abbrev pub hearing_of : Option (List ℕ) → Joined → Outcome → Hearing
hearing_of joined after o = record {
  next = record { state = o.next; joined = joined_after after joined };
  shown = o.shown;
  reply = o.reply;
  closes = o.closes;
}

abbrev pub hearing_of_all : Option (List ℕ) → Reactions → Hearing
hearing_of_all joined r = hearing_of joined r.joined (outcome_of_all r)

-- Something is indicated or sent, or more octets are joined than before.
abbrev pub takes_room : Option (List ℕ) → Hearing → Bool
takes_room joined h = not (is_nil h.shown && is_none h.reply) || nat_lt (length (joined_octets joined)) (length (joined_octets h.next.joined))

-- The hearing of the table. Memory is needed only if something is indicated, sent or joined.
abbrev pub Hears : {E : Type 0} → Option (List ℕ) → Result Heard E → Hearing → Type 0
Hears joined (Ok h) hearing = hearing ≡ hearing_of joined h.joined (outcome_of h.reaction)
Hears joined (Err e) hearing = takes_room joined hearing ≡ true
