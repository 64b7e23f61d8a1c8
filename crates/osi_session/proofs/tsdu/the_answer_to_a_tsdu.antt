-- The answer to a TSDU, the phases in which a session closes the transport connection, and those in which a call is
-- accepted.
use Rattle.std.proofs.Common.{◌⊎◌, inl, inr, ◌≡◌, refl, sym, ◌∙◌, ap, subst, ℕ, true, false, ◌||◌, List, Option, Some, None}
use Rattle.std.proofs.Common.{Result, Ok, Err, if◌then◌else◌, arith}
use Rattle.osi_session.proofs.Vocabulary.{list_any, SpduFault, Meaning, CN, AB, AA, said_at, Word, Words, as_message, UnitFault, Phase}
use Rattle.osi_session.proofs.Vocabulary.{State, is_wait_transport, is_wait_cn, is_aborting, is_ended, is_over, may_abort, Call, Step}
use Rattle.osi_session.proofs.Vocabulary.{may_call, allowed, may_close_word, closes_alone, is_answer, awaits_close, Taker, respond_word}
use Rattle.osi_session.proofs.Vocabulary.{respond_words, acting_words, respond_tsdu, respond_came, Input, is_opened, came_as, came}
use Rattle.osi_session.proofs.Vocabulary.{Listener, taker_of, react, after_input, Outcome, nothing, good, bad, respond_unit, first_reply}
use Rattle.osi_session.proofs.Vocabulary.{and_then, over, respond_fault, or_parts, not, by_fault, conditions, dropped, enacted, faulty}
use Rattle.osi_session.proofs.Vocabulary.{first_fault, si, Unexpected, Bool, drops, in_aborting, in_ended, is_expected}
use Rattle.osi_session.proofs.tables.the_outcomes_of_each_input.{unit_cases, input_cases}
use Rattle.osi_session.proofs.moves.what_closes_the_connection.{acting_none, words_open, octets_alone, fault_open}
use Rattle.osi_session.proofs.tables.what_an_accepted_call_has_passed.{passed}
use Rattle.osi_session.proofs.tables.what_is_true_of_each_phase.{implied, excluded}
use Rattle.osi_session.proofs.runs.what_every_run_preserves.{word_over}
use Rattle.osi_session.proofs.tables.the_verdict_on_a_unit.{enacts}
use Rattle.osi_session.proofs.tables.a_word_acts_as_its_message.{outcome_in, word_does, word_keeps, words_do, all_keep, any_word}
use Rattle.osi_session.proofs.tables.a_word_acts_as_its_message.{any_tsdu_keeps}
use Rattle.osi_session.proofs.tables.messages_act_as_the_table_says.{word_at, word_alone}

-- ---- a session that answers a TSDU is over

-- if something is sent, it is an answer, and the session is aborted or has ended
record Answers (o : Outcome) : Type 0 where
  last : (m : Meaning) → o.reply ≡ Some m → (is_answer m ≡ true) × (is_over o.next.phase ≡ true)

silent : (o : Outcome) → o.reply ≡ None → Answers o
silent o h = record { last = λ m e. absurd (cc) }

good_answers : (s : State) (u : Meaning) → Answers (good s u)
good_answers s (CN version_2 requirements serial wishes from to sizes octets) = search arith
good_answers s (AB bits octets) = grind arith
good_answers s _ = silent _ refl

bad_answers : (s : State) (fault : UnitFault) → Answers (bad s fault)
bad_answers s fault = grind arith

aborting_answers : (s : State) (u : Meaning) → Answers (in_aborting s u)
aborting_answers s u = grind (arith, silent)

ended_answers : (s : State) (u : Meaning) → is_over s.phase ≡ true → Answers (in_ended s u)
ended_answers s u h = grind (arith, silent)

verdict_answers : (s : State) (u : Meaning) (o d x : Bool) (n : ℕ) (f : Option UnitFault) → (o ≡ true → Answers (enacted s u over)) →
    Answers (enacted s u (if o then over else if d then dropped else if not x then faulty (Unexpected n) else by_fault f))
verdict_answers s u o d x n f h = grind (arith, silent, good_answers, bad_answers)

answers : (s : State) (u : Meaning) → Answers (respond_unit s u)
answers s u = subst Answers (sym (enacts s u)) (verdict_answers s u (is_over s.phase) (drops s u) (is_expected s.phase u) (si u)
    (first_fault (si u) (conditions s u)) (λ o. grind (arith, aborting_answers, ended_answers)))

pub unit_answers : (s : State) (u m : Meaning) → (respond_unit s u).reply ≡ Some m →
    (is_answer m ≡ true) × (is_over (respond_unit s u).next.phase ≡ true)
unit_answers s u = (answers s u).last

word_answers : (t : Taker) (w : Word) → Answers (outcome_in (respond_word t w))
word_answers t w =
    word_does Answers t w (record { acts = λ u a. answers t.state u; bad = λ fault o. bad_answers t.state fault; rests = silent _ refl })

pub stays_over : (t : Taker) (ws : Words) → is_over t.state.phase ≡ true → is_over (respond_words t ws).next.state.phase ≡ true
stays_over t ws h = all_keep (λ r. is_over r.phase ≡ true) (λ w. Unit {0}) t ws (λ r w q. word_over r w) (any_word ws) h

either_sent : (a b : Option Meaning) (m : Meaning) → first_reply a b ≡ Some m → (a ≡ Some m) ⊎ (b ≡ Some m)
either_sent a b m h = grind arith

-- the answer to a word, and what follows
then_answers : (first second : Outcome) → Answers first → (is_over first.next.phase ≡ true → is_over second.next.phase ≡ true)
    → Answers second → Answers (and_then first second)
then_answers first second h stays k = record {
  last = λ m e. elim (either_sent first.reply second.reply m e) [
    | inl a ↦ (let q = h.last m a in (q.0, stays q.1))
    | inr b ↦ k.last m b
  ];
}

all_answer : (t : Taker) (ws : Words) → Answers (outcome_in (respond_words t ws))
all_answer = words_do (λ t ws h. Answers (outcome_in h)) (λ t. silent _ refl) (λ t w ws. word_answers t w)
    (λ t w ws more. then_answers (outcome_in (respond_word t w)) (outcome_in (respond_words (respond_word t w).next ws)) (word_answers t w)
    (stays_over (respond_word t w).next ws) more)

fault_answers : (s : State) (fault : SpduFault) → Answers (respond_fault s fault)
unfolding respond_fault
fault_answers s fault = grind (arith, silent, bad_answers)

pub read_answers : (s : Listener) (read : Result Words SpduFault) (m : Meaning) → (react s (came_as read)).reply ≡ Some m
    → (is_answer m ≡ true) × (is_over (react s (came_as read)).next.state.phase ≡ true)
unfolding react
read_answers s (Ok words) = (all_answer (taker_of s) (acting_words words)).last
read_answers s (Err fault) = (fault_answers s.state fault).last

-- a session that answers a TSDU is over
pub octets_answered : (s : Listener) (octets : List ℕ) (m : Meaning) → (react s (came octets)).reply ≡ Some m
    → (is_answer m ≡ true) × (is_over (react s (came octets)).next.state.phase ≡ true)
octets_answered s octets = read_answers s (said_at octets)

-- ---- a session that is over

-- if a session is over, a word does what its message does
over_word : (t : Taker) (w : Word) → is_over t.state.phase ≡ true → outcome_in (respond_word t w) ≡ respond_unit t.state (as_message w)
over_word t w o = grind (arith, outcome_in, word_at t w over (rw o refl), enacts t.state (as_message w))

word_still : (t : Taker) (w : Word) → is_over t.state.phase ≡ true → may_close_word w ≡ false →
    outcome_in (respond_word t w) ≡ nothing t.state
word_still t w o h = ap outcome_in (word_at t w over (rw o refl)) ∙ (grind arith)

-- the words that come after others do nothing
all_still : (t : Taker) (ws : Words) → is_over t.state.phase ≡ true → list_any may_close_word ws ≡ false →
    outcome_in (respond_words t ws) ≡ nothing t.state
all_still = words_do (λ t ws h. is_over t.state.phase ≡ true → list_any may_close_word ws ≡ false → outcome_in h ≡ nothing t.state)
    (λ t o h. refl) (λ t w ws o h. word_still t w o (or_parts _ _ h).0)
    (λ t w ws more o h.
    let q = or_parts (may_close_word w) (list_any may_close_word ws) h in
    let e = word_still t w o q.0 in
    let same = ap (λ (x : Outcome). x.next) e in
    ap (and_then (outcome_in (respond_word t w))) (more (subst (λ (x : State). is_over x.phase ≡ true) (sym same) o) q.1 ∙ ap nothing same)
    ∙ ap (λ (x : Outcome). and_then x (nothing t.state)) e)

-- what arrives at a session that is over: a single word, or nothing
over_said : (P : Outcome → Type 0) (t : Taker) (words : Words) → is_over t.state.phase ≡ true → closes_alone words ≡ true
    → P (nothing t.state) → ((u : Meaning) → P (respond_unit t.state u)) → P (outcome_in (respond_tsdu t words))
over_said P t words h0 h1 h2 h3 = grind (arith, all_still, acting_words, acting_none, outcome_in, word_alone, over_word)

abbrev Silent : Outcome → Type 0
Silent o = o.reply ≡ None

unit_unanswered : (s : State) (u : Meaning) → is_aborting s.phase ≡ true → Silent (respond_unit s u)
unfolding respond_unit
unit_unanswered s u a = rw a (grind arith)

abbrev AcceptsAbort : Outcome → Type 0
AcceptsAbort o = (m : Meaning) → o.reply ≡ Some m → m ≡ AA

not_aborting : (p : Phase) → is_ended p ≡ true → is_aborting p ≡ false
not_aborting p h = excluded is_ended is_aborting refl p h

unit_accepts : (s : State) (u : Meaning) → is_ended s.phase ≡ true → AcceptsAbort (respond_unit s u)
unfolding respond_unit
unit_accepts s u e = let a = not_aborting s.phase e in rw (a, e) (grind arith)

over_fault : (s : State) (fault : SpduFault) → is_over s.phase ≡ true → respond_fault s fault ≡ nothing s
unfolding respond_fault
over_fault s fault o = rw o refl

read_over : (P : Outcome → Type 0) (s : Listener) (read : Result Words SpduFault) → is_over s.state.phase ≡ true
    → ((words : Words) → read ≡ Ok words → closes_alone words ≡ true) → P (nothing s.state) → ((u : Meaning) → P (respond_unit s.state u))
    → P (outcome_in (respond_came (taker_of s) read))
read_over P s (Ok words) o h n k = over_said P (taker_of s) words o (h words refl) n k
read_over P s (Err fault) o h n k = subst P (sym (over_fault s.state fault o)) n

reply_read : (s : Listener) (read : Result Words SpduFault) →
    (react s (came_as read)).reply ≡ (outcome_in (respond_came (taker_of s) read)).reply
unfolding react
reply_read s read = grind arith

-- an aborted session answers nothing
pub aborting_silent : (s : Listener) (octets : List ℕ) → is_aborting s.state.phase ≡ true → (react s (came octets)).reply ≡ None
aborting_silent s octets a =
    reply_read s (said_at octets)
    ∙ read_over Silent s (said_at octets) (grind (arith, implied)) (octets_alone octets) refl (λ u. unit_unanswered s.state u a)

-- an ended one answers an abort
pub ended_accepting : (s : Listener) (octets : List ℕ) (m : Meaning) → is_ended s.state.phase ≡ true →
    (react s (came octets)).reply ≡ Some m → m ≡ AA
ended_accepting s octets m e h =
    read_over AcceptsAbort s (said_at octets) (implied is_ended is_over refl s.state.phase e) (octets_alone octets) (λ u k. absurd (cc))
    (λ u. unit_accepts s.state u e)
    m (sym (reply_read s (said_at octets)) ∙ h)

-- ---- in which phases the transport connection is closed

record Awaited (s : State) (o : Outcome) : Type 0 where
  awaits : o.closes ≡ true → awaits_close s.phase ≡ true

left_open : (s : State) (o : Outcome) → o.closes ≡ false → Awaited s o
left_open s o h = record { awaits = λ c. absurd (cc) }

unit_awaited : (s : State) (u : Meaning) → Awaited s (respond_unit s u)
unit_awaited s u = subst (Awaited s) (sym (enacts s u)) (grind (arith, left_open))

word_awaited : (t : Taker) (w : Word) → Awaited t.state (outcome_in (respond_word t w))
word_awaited t w =
    word_does (Awaited t.state) t w
    (record { acts = λ u a. unit_awaited t.state u; bad = λ fault o. left_open t.state _ refl; rests = left_open t.state _ refl })

words_awaited : (t : Taker) (words : Words) → closes_alone words ≡ true → Awaited t.state (outcome_in (respond_tsdu t words))
words_awaited t words h0 = grind (arith, left_open, words_open, outcome_in, word_alone, word_awaited)

read_awaited : (s : Listener) (read : Result Words SpduFault) → ((words : Words) → read ≡ Ok words → closes_alone words ≡ true)
    → (react s (came_as read)).closes ≡ true → awaits_close s.state.phase ≡ true
unfolding react
read_awaited s (Ok words) h = (words_awaited (taker_of s) words (h words refl)).awaits
read_awaited s (Err fault) h = (left_open s.state (respond_fault s.state fault) (fault_open s.state fault)).awaits

-- a session that closes it awaited a unit that does so
pub octets_awaited : (s : Listener) (octets : List ℕ) → (react s (came octets)).closes ≡ true → awaits_close s.state.phase ≡ true
octets_awaited s octets = read_awaited s (said_at octets) (octets_alone octets)

-- ---- in which phases a call is accepted

callable : (c : Call) (p : Phase) → may_call p c ≡ true → may_abort p ≡ true
callable c p h = grind (arith, implied)

pub accepted_callable : (s : State) (c : Call) (x : Step) → allowed s c ≡ Ok x → may_abort s.phase ≡ true
accepted_callable s c x h = callable c s.phase (passed s c x h).phase

pub callable_open : (p : Phase) → may_abort p ≡ true → (is_wait_transport p ≡ false) × (is_wait_cn p ≡ false) × (is_over p ≡ false)
callable_open p h = grind (arith, excluded)

-- ---- while the transport connection is awaited

abbrev Waits : State → Type 0
Waits s = (is_wait_transport s.phase || is_over s.phase) ≡ true

unit_waits : (s : State) (u : Meaning) → Waits s → Waits (respond_unit s u).next
unit_waits s u h = unit_cases Waits s u (grind arith)

word_waits : (t : Taker) (w : Word) → Waits t.state → Waits (respond_word t w).next.state
word_waits t w h = word_keeps Waits t w (λ u a. unit_waits t.state u h) (λ o. refl) h

words_wait : (t : Taker) (words : Words) → Waits t.state → Waits (respond_tsdu t words).next.state
words_wait t words h = any_tsdu_keeps Waits t words word_waits h

-- what happens before it is open leaves the session waiting for it, or is the end
pub input_waits : (s : Listener) (input : Input) → is_opened input ≡ false → is_wait_transport s.state.phase ≡ true
    → (is_wait_transport (after_input s input).state.phase || is_over (after_input s input).state.phase) ≡ true
input_waits s input n w = input_cases Waits s input (grind (arith, callable_open, accepted_callable, words_wait))
