-- What an accepted call sends, and the answer to a TSDU, can be written.
use Rattle.std.proofs.Common.{◌≡◌, refl, sym, subst, ℕ, ◌<◌, [], length, Some, Ok, arith}
use Rattle.osi_session.proofs.Vocabulary.{leb-true, ltb-true, and_parts, Opening, State, has_data, Call, HasSerial, Meaning, AB, Said}
use Rattle.osi_session.proofs.Vocabulary.{asked_for, IsSound, Step, allowed, Outcome, respond_unit, respond, user_data_of, IsSendable}
use Rattle.osi_session.proofs.Vocabulary.{called, Listener, react, CanBeSent, Word, Words, Taker, respond_word, respond_words, acting_words}
use Rattle.osi_session.proofs.Vocabulary.{respond_tsdu, Option, first_reply, Hearing, map, says, None, ap, ◌∙◌}
use Rattle.osi_session.proofs.moves.the_move_of_each_input.{call_reply}
use Rattle.osi_session.proofs.tables.messages_act_as_the_table_says.{plain_tsdu}
use Rattle.osi_session.proofs.tables.a_word_acts_as_its_message.{outcome_in, word_does, words_do}
use Rattle.osi_session.proofs.tables.the_verdict_on_a_unit.{enacts}
use Rattle.osi_session.proofs.tables.what_the_table_of_calls_answers.{sent_short}
use Rattle.osi_session.proofs.tables.what_an_accepted_call_has_passed.{passed}
use Rattle.osi_session.proofs.values.what_sizes_are_agreed.{answered_are, user_sizes}

-- what an accepted call sends can be sent
pub sent_sendable : (s : State) (c : Call) (x : Step) → IsSound s → HasSerial c → allowed s c ≡ Ok x → IsSendable x.sent
sent_sendable s c x sound small h = grind (arith, leb-true, and_parts, ltb-true, passed s c x h, answered_are, sent_short s c x h)

pub call_sendable : (s : Listener) (c : Call) (x : Step) → IsSound s.state → HasSerial c → allowed s.state c ≡ Ok x →
    CanBeSent (react s (called c)).reply
call_sendable s c x sound small h = subst CanBeSent (sym (call_reply s c x h)) (sent_sendable s.state c x sound small h)

-- ---- what a caller asks for

pub asked_sendable : (o : Opening) → length o.user_data.now < 65000 → IsSendable (asked_for o)
unfolding user_data_of
asked_sendable o h0 = grind (arith, user_sizes)

-- ---- answers to a TSDU

abort_sendable : (bits : ℕ) → IsSendable (AB bits [])
unfolding user_data_of
abort_sendable bits = record { version = refl; numbered = tt; sized = refl; addressed = tt; short = omega arith }

abbrev Replies : Outcome → Type 0
Replies o = CanBeSent o.reply

unit_replies : (s : State) (u : Meaning) → Replies (respond_unit s u)
unfolding user_data_of
unit_replies s u = subst Replies (sym (enacts s u)) (search (arith, has_data, abort_sendable))

both_answered : (a b : Option Meaning) → CanBeSent a → CanBeSent b → CanBeSent (first_reply a b)
both_answered a b h k = grind arith

word_replies : (t : Taker) (w : Word) → Replies (outcome_in (respond_word t w))
word_replies t w = word_does Replies t w (record { acts = λ u a. unit_replies t.state u; bad = λ fault o. abort_sendable 5; rests = tt })

all_answered : (t : Taker) (ws : Words) → CanBeSent (respond_words t ws).reply
all_answered = words_do (λ t ws h. CanBeSent h.reply) (λ t. tt) (λ t w ws. word_replies t w)
    (λ t w ws more. both_answered (respond_word t w).reply _ (word_replies t w) more)

-- what the words of a TSDU are answered by can be sent
pub words_answer : (t : Taker) (words : Words) (m : Meaning) → (respond_tsdu t words).reply ≡ Some m → IsSendable m
words_answer t words m e = subst CanBeSent e (all_answered t (acting_words words))

-- and so over whole messages
pub reply_can_be_sent : (s : State) (said : Said) (m : Meaning) → (respond s said).reply ≡ Some m → IsSendable m
reply_can_be_sent s said m e =
    words_answer (record { state = s; joined = None }) (map says said) m (ap (λ (h : Hearing). h.reply) (plain_tsdu s said) ∙ e)
