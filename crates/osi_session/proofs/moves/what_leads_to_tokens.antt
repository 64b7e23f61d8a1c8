-- What leads to a phase in which tokens may be held.
use Rattle.std.proofs.Common.{◌≡◌, Bool, true, false, ◌||◌, List, [], ◌∷◌, arith}
use Rattle.osi_session.proofs.Vocabulary.{list_any, cases_Bool, or_left, or_right, Phase, State, may_hold, Call, Meaning, Word, Words}
use Rattle.osi_session.proofs.Vocabulary.{as_message, respond_unit, Taker, respond_word, respond_words, acting_words, Input, Listener}
use Rattle.osi_session.proofs.Vocabulary.{after_input, after_inputs, call_opens, unit_opens, opens_connection, Ok, Step, allowed}
use Rattle.osi_session.proofs.tables.the_outcomes_of_each_input.{unit_cases, input_cases}
use Rattle.osi_session.proofs.tables.what_an_accepted_call_has_passed.{passed}
use Rattle.osi_session.proofs.tables.what_is_true_of_each_phase.{implied}
use Rattle.osi_session.proofs.tables.a_word_acts_as_its_message.{word_keeps, words_do}

-- if tokens may be held after but not before, this is the cause
abbrev OpenedBy : Bool → Phase → Phase → Type 0
OpenedBy cause p q = may_hold p ≡ false → may_hold q ≡ true → cause ≡ true

same : (cause : Bool) (p : Phase) → OpenedBy cause p p
same cause p h k = absurd (cc)

call_opened : (s : State) (c : Call) (x : Step) → allowed s c ≡ Ok x → OpenedBy (call_opens c) s.phase x.next.phase
call_opened s c x e = let q = passed s c x e in grind (arith, implied, same)

unit_opened : (s : State) (u : Meaning) → OpenedBy (unit_opens u) s.phase (respond_unit s u).next.phase
unit_opened s u = unit_cases (λ next. OpenedBy (unit_opens u) s.phase next.phase) s u (grind (arith, same))

-- two units, one after the other
both_opened : (a b : Bool) (p mid q : Phase) → OpenedBy a p mid → OpenedBy b mid q → OpenedBy (a || b) p q
both_opened a b p mid q h0 h1 = grind (arith, cases_Bool, or_left, or_right)

weaker : (a b : Bool) (p q : Phase) → OpenedBy a p q → OpenedBy (a || b) p q
weaker a b p q f h k = or_left a b (f h k)

word_opened : (t : Taker) (w : Word) → OpenedBy (unit_opens (as_message w)) t.state.phase (respond_word t w).next.state.phase
word_opened t w = word_keeps (λ next. OpenedBy (unit_opens (as_message w)) t.state.phase next.phase) t w
    (grind (arith, respond_unit, unit_opened))
    (λ o h k. absurd (cc)) (same _ t.state.phase)

abbrev word_opens : Word → Bool
word_opens w = unit_opens (as_message w)

all_opened : (t : Taker) (ws : Words) → OpenedBy (list_any word_opens ws) t.state.phase (respond_words t ws).next.state.phase
all_opened = words_do (λ t ws h. OpenedBy (list_any word_opens ws) t.state.phase h.next.state.phase) (λ t. same false t.state.phase)
    (λ t w ws. weaker (word_opens w) (list_any word_opens ws) t.state.phase (respond_word t w).next.state.phase (word_opened t w))
    (λ t w ws more. both_opened (word_opens w) (list_any word_opens ws) t.state.phase (respond_word t w).next.state.phase
    (respond_words (respond_word t w).next ws).next.state.phase (word_opened t w) more)

pub input_opened : (s : Listener) (input : Input) → may_hold s.state.phase ≡ false → may_hold (after_input s input).state.phase ≡ true →
    opens_connection input ≡ true
input_opened s input = input_cases (λ next. OpenedBy (opens_connection input) s.state.phase next.phase) s input
    (grind (arith, same, call_opened, all_opened, acting_words))

pub some_opened : (s : Listener) (inputs : List Input) → may_hold s.state.phase ≡ false →
    may_hold (after_inputs s inputs).state.phase ≡ true → list_any opens_connection inputs ≡ true
some_opened s [] h k = absurd (cc)
some_opened s (input ∷ inputs) h k =
    grind (arith, cases_Bool, or_left, or_right, input_opened s input h, some_opened (after_input s input) inputs)
