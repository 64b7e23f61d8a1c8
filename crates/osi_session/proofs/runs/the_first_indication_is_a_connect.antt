-- The first indication of a side that awaits a CN is a Connect, and only a CN leads to it.
use Rattle.std.proofs.Common.{◌≡◌, refl, ℕ, true, false, List, [], ◌++◌, Result, Ok, arith}
use Rattle.osi_session.proofs.Vocabulary.{list_any, SpduFault, category_of, Meaning, CN, AB, said_at, Word, Words, WaitCn, State, unit_asks}
use Rattle.osi_session.proofs.Vocabulary.{asks_for_connection, is_taken, is_wait_cn, is_over, shows_loss, Taker, Hearing, respond_word}
use Rattle.osi_session.proofs.Vocabulary.{respond_words, heard_then, acting_words, Input, taken, came, came_as, Listener, taker_of, react}
use Rattle.osi_session.proofs.Vocabulary.{after_input, Shown, shows_connect, Outcome, is_expected, nothing, good, bad, take_expected}
use Rattle.osi_session.proofs.Vocabulary.{respond_unit, respond_fault, or_parts}
use Rattle.osi_session.proofs.tables.the_outcomes_of_each_input.{input_cases}
use Rattle.osi_session.proofs.tables.units_that_are_alone.{passes, stands_alone, alone_in_octets}
use Rattle.osi_session.proofs.tsdu.the_answer_to_a_tsdu.{accepted_callable, stays_over}
use Rattle.osi_session.proofs.moves.what_closes_the_connection.{acting_none}
use Rattle.osi_session.proofs.tables.what_is_true_of_each_phase.{excluded}
use Rattle.osi_session.proofs.runs.what_every_run_preserves.{input_over}
use Rattle.osi_session.proofs.tables.the_verdict_on_a_unit.{enacts}
use Rattle.osi_session.proofs.tables.a_word_acts_as_its_message.{outcome_in, word_does, words_do}

-- While a CN is awaited there is no indication. If the user would afterwards be told of a loss, the first indication
-- is a Connect.
record Begins (o : Outcome) : Type 0 where
  waits : is_wait_cn o.next.phase ≡ true → o.shown ≡ []
  shows : shows_loss o.next.phase ≡ true → shows_connect o.shown ≡ true

still : (s : State) → is_wait_cn s.phase ≡ true → Begins (nothing s)
still s w = record { waits = λ k. refl; shows = λ k. absurd (let e = excluded is_wait_cn shows_loss refl s.phase w in cc) }

ends : (o : Outcome) → is_over o.next.phase ≡ true → Begins o
ends o h0 = grind (arith, excluded)

-- ---- one unit

good_in : (s : State) (u : Meaning) → is_expected WaitCn u ≡ true → Begins (good s u)
good_in s (CN version_2 requirements serial wishes from to sizes octets) h = grind arith
good_in s (AB bits octets) h = ends (good s (AB bits octets)) refl
good_in s _ h = absurd (cc)

unit_begins : (s : State) (u : Meaning) → is_wait_cn s.phase ≡ true → Begins (respond_unit s u)
unfolding respond_unit take_expected
unit_begins s u w = grind (arith, excluded, still, ends, good_in)

word_begins : (t : Taker) (w : Word) → is_wait_cn t.state.phase ≡ true → Begins (outcome_in (respond_word t w))
word_begins t w h =
    word_does Begins t w
    (record { acts = λ u a. unit_begins t.state u h; bad = λ fault o. ends (bad t.state fault) refl; rests = still t.state h })

-- ---- words one after the other

abbrev Shows : Hearing → Type 0
Shows h = shows_loss h.next.state.phase ≡ true → shows_connect h.shown ≡ true

then_shows : (t : Taker) (w : Word) (ws : Words) → Begins (outcome_in (respond_word t w))
    → (is_wait_cn (respond_word t w).next.state.phase ≡ true → Shows (respond_words (respond_word t w).next ws)) →
    Shows (heard_then (respond_word t w) (respond_words (respond_word t w).next ws))
then_shows t w ws one more k = grind (arith, excluded, stays_over (respond_word t w).next ws)

words_show : (t : Taker) (ws : Words) → is_wait_cn t.state.phase ≡ true → Shows (respond_words t ws)
words_show = words_do (λ t ws x. is_wait_cn t.state.phase ≡ true → Shows x)
    (λ t h k. absurd (let e = excluded is_wait_cn shows_loss refl t.state.phase h in cc)) (λ t w ws h. (word_begins t w h).shows)
    (λ t w ws more h. then_shows t w ws (word_begins t w h) more)

-- ---- inputs

abbrev Hidden : State → Type 0
Hidden s = shows_loss s.phase ≡ false

waiting_shows : (l : Listener) (input : Input) → is_wait_cn l.state.phase ≡ true → shows_loss (after_input l input).state.phase ≡ true →
    shows_connect (react l input).shown ≡ true
unfolding react
waiting_shows l (taken words) w k = words_show (taker_of l) (acting_words words) w k
waiting_shows l input w k = absurd (let h = input_cases Hidden l input (grind (arith, excluded, accepted_callable)) in cc)

pub shown_first : (l : Listener) (input : Input) → shows_loss l.state.phase ≡ false → shows_loss (after_input l input).state.phase ≡ true →
    shows_connect (react l input).shown ≡ true
shown_first l input h k = grind (arith, waiting_shows l input, excluded, input_over l input)

-- ---- by a CN alone

abbrev Hides : List Shown → Type 0
Hides shown = shows_connect shown ≡ false

both_hide : (x y : List Shown) → Hides x → Hides y → Hides (x ++ y)
both_hide x y h k = grind arith

word_hides : (t : Taker) (w : Word) → passes unit_asks w ≡ false → Hides (respond_word t w).shown
word_hides t w h = word_does (λ o. Hides o.shown) t w (grind (arith, enacts))

words_hide : (t : Taker) (ws : Words) → list_any (passes unit_asks) ws ≡ false → Hides (respond_words t ws).shown
words_hide = words_do (λ t ws x. list_any (passes unit_asks) ws ≡ false → Hides x.shown) (λ t h. refl)
    (λ t w ws h. word_hides t w (or_parts _ _ h).0)
    (λ t w ws more h. let q = or_parts _ _ h in both_hide _ _ (word_hides t w q.0) (more q.1))

pub only_taken : (l : Listener) (input : Input) → shows_connect (react l input).shown ≡ true → is_taken input ≡ true
unfolding react respond_fault
only_taken l input k = grind arith

came_asks : (l : Listener) (read : Result Words SpduFault) → ((words : Words) → read ≡ Ok words → stands_alone unit_asks words ≡ true)
    → shows_connect (react l (came_as read)).shown ≡ true → asks_for_connection (came_as read) ≡ true
unfolding react respond_fault
came_asks l read h k = grind (arith, words_hide, acting_words, acting_none, passes)

pub octets_ask : (l : Listener) (octets : List ℕ) → shows_connect (react l (came octets)).shown ≡ true →
    asks_for_connection (came octets) ≡ true
unfolding category_of
octets_ask l octets k = came_asks l (said_at octets) (alone_in_octets unit_asks (grind arith) octets) k
