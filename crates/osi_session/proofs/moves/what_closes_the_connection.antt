-- What closes the transport connection, and that nothing is sent with it.
use Rattle.osi_session.proofs.Vocabulary.{list_any, SpduFault, category_of, Meaning, said_at, Word, Words, State, is_ended, Call, may_close}
use Rattle.osi_session.proofs.Vocabulary.{may_close_word, closes_alone, Taker, Hearing, respond_word, respond_words, acting_words}
use Rattle.osi_session.proofs.Vocabulary.{respond_tsdu, Input, called, came_as, came, Listener, Move, react, listening, in_words, Outcome}
use Rattle.osi_session.proofs.Vocabulary.{respond_unit, respond_fault, ◌≡◌, refl, sym, ◌∙◌, ap, subst, ℕ, Bool, true, false, ◌||◌, List, []}
use Rattle.osi_session.proofs.Vocabulary.{◌∷◌, None, Result, Ok, arith, list_any-append, or_parts}
use Rattle.osi_session.specs.Moves as whole
use Rattle.osi_session.proofs.tables.units_that_are_alone.{stands_alone, alone_in_octets, or_none}
use Rattle.osi_session.proofs.runs.what_every_run_preserves.{word_ended}
use Rattle.osi_session.proofs.tables.the_verdict_on_a_unit.{enacts}
use Rattle.osi_session.proofs.tables.a_word_acts_as_its_message.{outcome_in, word_does, words_do, all_keep, any_word}
use Rattle.osi_session.proofs.tables.messages_act_as_the_table_says.{word_alone, moves_as_whole}

-- ---- one unit

-- an outcome that closes the transport connection sends nothing, and is the end
pub record ClosesLast (o : Outcome) : Type 0 where
  pub silent : o.closes ≡ true → o.reply ≡ None
  pub last : o.closes ≡ true → is_ended o.next.phase ≡ true

open_still : (o : Outcome) → o.closes ≡ false → ClosesLast o
open_still o h = record { silent = λ k. absurd (cc); last = λ k. absurd (cc) }

unit_closes_last : (s : State) (u : Meaning) → ClosesLast (respond_unit s u)
unit_closes_last s u = subst ClosesLast (sym (enacts s u)) (grind (arith, open_still))

pub unit_silent : (s : State) (u : Meaning) → (respond_unit s u).closes ≡ true → (respond_unit s u).reply ≡ None
unit_silent s u = (unit_closes_last s u).silent

-- ---- words one after the other

word_closes_last : (t : Taker) (w : Word) → ClosesLast (outcome_in (respond_word t w))
word_closes_last t w =
    word_does ClosesLast t w
    (record { acts = λ u a. unit_closes_last t.state u; bad = λ fault o. open_still _ refl; rests = open_still _ refl })

abbrev Ends : Hearing → Type 0
Ends h = h.closes ≡ true → is_ended h.next.state.phase ≡ true

or_ends : (a b : Bool) (next : State) → (a ≡ true → is_ended next.phase ≡ true) → (b ≡ true → is_ended next.phase ≡ true)
    → (a || b) ≡ true → is_ended next.phase ≡ true
or_ends a b next h k c = grind arith

stays_ended : (t : Taker) (ws : Words) → is_ended t.state.phase ≡ true → is_ended (respond_words t ws).next.state.phase ≡ true
stays_ended t ws h = all_keep (λ r. is_ended r.phase ≡ true) (λ w. Unit {0}) t ws (λ r w q. word_ended r w) (any_word ws) h

all_end : (t : Taker) (ws : Words) → Ends (respond_words t ws)
all_end = words_do (λ t ws h. Ends h) (λ t h. absurd (cc)) (λ t w ws. (word_closes_last t w).last)
    (λ t w ws more. or_ends _ _ (respond_words (respond_word t w).next ws).next.state
    (λ c. stays_ended (respond_word t w).next ws ((word_closes_last t w).last c)) more)

-- ---- units that leave the transport connection open

pub word_open : (t : Taker) (w : Word) → may_close_word w ≡ false → (respond_word t w).closes ≡ false
word_open t w h = word_does (λ o. o.closes ≡ false) t w (grind (arith, enacts))

all_open : (t : Taker) (ws : Words) → list_any may_close_word ws ≡ false → (respond_words t ws).closes ≡ false
all_open = words_do (λ t ws h. list_any may_close_word ws ≡ false → h.closes ≡ false) (λ t h. refl)
    (λ t w ws h. word_open t w (or_parts _ _ h).0)
    (λ t w ws more h. let q = or_parts _ _ h in or_none _ _ (word_open t w q.0) (more q.1))

pub acting_none : (p : Word → Bool) (words : Words) → list_any p words ≡ false → list_any p (acting_words words) ≡ false
unfolding acting_words
acting_none p words h = grind (arith, or_parts, list_any-append, or_none)

-- ---- the words of a TSDU

pub words_open : (t : Taker) (words : Words) → list_any may_close_word words ≡ false → (respond_tsdu t words).closes ≡ false
words_open t words h = all_open t (acting_words words) (acting_none may_close_word words h)

pub words_silent : (t : Taker) (words : Words) → closes_alone words ≡ true → (respond_tsdu t words).closes ≡ true →
    (respond_tsdu t words).reply ≡ None
words_silent t [] h c = let o = words_open t [] refl in absurd (cc)
words_silent t (w ∷ []) h c = subst (λ (x : Hearing). x.closes ≡ true → x.reply ≡ None) (sym (word_alone t w)) (word_closes_last t w).silent
    c
words_silent t (w ∷ v ∷ ws) h c = grind (arith, words_open)

-- ---- what is read from octets

closes_so : (words : Words) → stands_alone may_close words ≡ true → closes_alone words ≡ true
closes_so words h0 = grind arith

-- in the meaning of octets, a word that may close is alone
pub octets_alone : (octets : List ℕ) (words : Words) → said_at octets ≡ Ok words → closes_alone words ≡ true
unfolding category_of
octets_alone octets words e = closes_so words (alone_in_octets may_close (grind arith) octets words e)

-- ---- moves

-- a call leaves the transport connection open, and so do its own events
pub call_open : (s : Listener) (c : Call) → (react s (called c)).closes ≡ false
unfolding react
call_open s c = grind arith

pub fault_open : (s : State) (fault : SpduFault) → (respond_fault s fault).closes ≡ false
unfolding respond_fault
fault_open s fault = grind arith

-- a TSDU that closes it is the last
pub input_ends : (s : Listener) (input : Input) → (react s input).closes ≡ true → is_ended (react s input).next.state.phase ≡ true
unfolding react
input_ends s input h0 = grind (arith, all_end, acting_words, fault_open)

-- and so over whole messages
pub whole_ends : (s : whole.Standing) (input : whole.Input) → (whole.react s input).closes ≡ true →
    is_ended (whole.after_input s input).state.phase ≡ true
whole_ends s input h =
    let same = moves_as_whole s input in
    subst (λ (m : Move). is_ended m.next.state.phase ≡ true) same
    (input_ends (listening s) (in_words input) (ap (λ (m : Move). m.closes) same ∙ h))

came_silent : (s : Listener) (read : Result Words SpduFault) → ((words : Words) → read ≡ Ok words → closes_alone words ≡ true)
    → (react s (came_as read)).closes ≡ true → (react s (came_as read)).reply ≡ None
unfolding react
came_silent s read h c = grind (arith, words_silent, fault_open)

pub octets_silent : (s : Listener) (octets : List ℕ) → (react s (came octets)).closes ≡ true → (react s (came octets)).reply ≡ None
octets_silent s octets = came_silent s (said_at octets) (octets_alone octets)
