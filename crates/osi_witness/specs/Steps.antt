-- One step of the search for a run: how a session goes on to a unit, as it is found.
use Rattle.std.specs.Prelude.{◌≡◌, ◌≤◌, ◌+◌, ◌-◌, ◌⊎◌, ℕ, suc, true, false, List, [], get_or, Some}
use Rattle.osi_message.specs.Meanings.{Meaning}
use Rattle.osi_message.specs.Reading.{word}
use Rattle.osi_message.specs.Words.{Word}
use Rattle.osi_session.specs.Joining.{is_restart_word}
use Rattle.osi_session.specs.Standing.{Seen, Count, CanSay, Takes, listens, after_count, answers_word}
use Rattle.osi_spdu.specs.Units.{said_by}
use Rattle.osi_side.specs.declared.members.Member.{Member}
use Rattle.osi_side.specs.Explaining.{Remark}
use Rattle.osi_side.specs.Kept.{member}
use Rattle.osi_side.specs.Walking.{the_remark}
use Rattle.osi_witness.specs.declared.trails.Goal.{Goal}
use Rattle.osi_witness.specs.declared.trails.Step.{Step}
use Rattle.osi_witness.specs.Found.{GoesOn, Stays}
use Rattle.osi_witness.specs.Streams.{tsdus_of}
use Rattle.osi_witness.specs.Trails.{Listens}

-- ---- what is looked for

abbrev pub word_for : Goal → Word
word_for g = word (said_by g.unit.now)

abbrev pub unit_for : Goal → Remark
unit_for g = the_remark (word_for g) g.octets g.before

abbrev pub heard_for : Goal → List (List ℕ)
heard_for g = tsdus_of g.heard.now

-- a session in this state goes on to it
abbrev pub GoesTo : Goal → (taken : ℕ) → Seen → Type 0
GoesTo g taken s = GoesOn (heard_for g) (unit_for g) g.after.now taken s

-- the session after the unit remains as it is from this TSDU on; only after a restart it takes any
pub record Waits (g : Goal) (taken : ℕ) : Type 0 where
  pub stays : Stays (heard_for g) taken g.after.now.standing (g.after.now.taken - taken)
  pub restarts : (g.after.now.taken - taken ≡ 0) ⊎ (is_restart_word (word_for g) ≡ true)

-- the session sends the unit in this state, and is the one after it then
abbrev pub SaysTo : Goal → (taken : ℕ) → Seen → Type 0
SaysTo g taken s = CanSay s (word_for g) g.octets g.after.now.standing × Waits g taken

-- ---- what is found

-- such a step
pub record SaysBy (g : Goal) (taken : ℕ) (s : Seen) (t : Step) : Type 0 where
  pub count : t.taken ≡ taken
  pub is : t.is_answer ≡ false
  pub from : t.from ≡ s
  pub standing : t.standing ≡ g.after.now.standing
  pub says : SaysTo g taken s

-- the unit is this answer to the last of so many TSDUs, and the session is the one after it then
abbrev pub AnswersTo : Goal → (reply : Meaning) → (taken : ℕ) → Seen → Type 0
AnswersTo g reply taken next = (answers_word reply (word_for g) ≡ true) × (g.after.now ≡ member taken next)

pub record AnswersBy (g : Goal) (reply : Meaning) (taken : ℕ) (next : Seen) (t : Step) : Type 0 where
  pub count : t.taken ≡ taken
  pub is : t.is_answer ≡ true
  pub standing : t.standing ≡ next
  pub answers : AnswersTo g reply taken next

-- from this session it takes TSDUs and then sends the unit
pub record Calling (g : Goal) (from : Member) (t : Step) : Type 0 where
  pub is : t.is_answer ≡ false
  pub more : ℕ
  pub count : t.taken ≡ from.taken + more
  pub listened : Listens (heard_for g) from.taken from.standing more t.from
  pub said : CanSay t.from (word_for g) g.octets t.standing

-- or answers by it
pub record Answering (g : Goal) (from : Member) (t : Step) : Type 0 where
  pub is : t.is_answer ≡ true
  pub more : ℕ
  pub count : t.taken ≡ from.taken + suc more
  pub at : Seen
  pub listened : Listens (heard_for g) from.taken from.standing more at
  pub listening : listens at ≡ true
  pub last : Count
  pub took : Takes at (get_or (heard_for g) (from.taken + more) []) last
  pub reply : Meaning
  pub answered : last.reply ≡ Some reply
  pub said : answers_word reply (word_for g) ≡ true
  pub next : t.standing ≡ after_count at last

abbrev pub Sending : Goal → (from : Member) → Step → Type 0
Sending g from t = Calling g from t ⊎ Answering g from t

-- and is the session after it then, at once or after the TSDUs that it takes while it waits
pub record Leading (g : Goal) (from : Member) (t : Step) : Type 0 where
  pub sends : Sending g from t
  pub no_later : t.taken ≤ g.after.now.taken
  pub standing : t.standing ≡ g.after.now.standing
  pub stays : Stays (heard_for g) t.taken t.standing (g.after.now.taken - t.taken)
