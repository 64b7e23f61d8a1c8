-- What raises V(A), and that only a restart lowers it.
use Rattle.osi_session.proofs.Vocabulary.{AllByRecursion, list_any, leb-true, and_parts, TokenSetting, State, Numbers, point_sent}
use Rattle.osi_session.proofs.Vocabulary.{point_taken, minor_confirmed, major_confirmed, IsSound, Call, MinorConfirm, Meaning, MIA, RS}
use Rattle.osi_session.proofs.Vocabulary.{IsNumberedWord, Word, Words, as_message, MinorConfirmed, Step, needs, after, allowed, AllHold}
use Rattle.osi_session.proofs.Vocabulary.{stands, take_expected, respond_unit, Taker, respond_word, respond_words, acting_words, Input}
use Rattle.osi_session.proofs.Vocabulary.{Listener, after_input, after_inputs, HasNumbersInWords, call_renews, unit_renews, renews, ◌≡◌}
use Rattle.osi_session.proofs.Vocabulary.{◌∙◌, ℕ, ◌+◌, ◌≤◌, false, List, [], ◌∷◌, Ok, arith, ResyncType, or_parts}
use Rattle.osi_session.proofs.tables.the_outcomes_of_each_input.{unit_cases, input_cases}
use Rattle.osi_session.proofs.tables.what_an_accepted_call_has_passed.{passed}
use Rattle.osi_session.proofs.tsdu.what_the_words_of_a_tsdu_preserve.{word_sound}
use Rattle.osi_session.proofs.tables.a_word_acts_as_its_message.{word_keeps, words_do, all_acting}
use Rattle.osi_session.proofs.runs.what_every_run_preserves.{input_sound}

-- ---- a confirmation raises V(A)

pub call_confirms : (s : State) (n : ℕ) (octets : List ℕ) (x : Step) → allowed s (MinorConfirm n octets) ≡ Ok x
    → (s.numbers.confirmed ≤ n) × (x.next.numbers.confirmed ≡ n + 1)
unfolding minor_confirmed
call_confirms s n octets x h = grind (arith, passed, and_parts, leb-true)

pub unit_confirms : (s : State) (n : ℕ) (octets : List ℕ) → (respond_unit s (MIA n octets)).shown ≡ MinorConfirmed n octets ∷ []
    → (respond_unit s (MIA n octets)).next.numbers.confirmed ≡ n + 1
unfolding respond_unit take_expected minor_confirmed
unit_confirms s n octets = grind arith

-- ---- V(A) does not fall

abbrev Rises : Numbers → Numbers → Type 0
Rises v w = v.confirmed ≤ w.confirmed

same : (v : Numbers) → Rises v v
same v = omega arith

after_rises : (s : State) (c : Call) → call_renews c ≡ false → AllHold (needs s c) → IsSound s → Rises s.numbers (after s c).numbers
unfolding point_sent minor_confirmed major_confirmed
after_rises s c r t h = grind (arith, and_parts, leb-true)

unit_rises : (s : State) (u : Meaning) → unit_renews u ≡ false → IsSound s → Rises s.numbers (respond_unit s u).next.numbers
unfolding point_taken minor_confirmed major_confirmed
unit_rises s u r h = unit_cases (λ next. Rises s.numbers next.numbers) s u (grind (arith, same, and_parts, leb-true))

word_rises : (t : Taker) (w : Word) → unit_renews (as_message w) ≡ false → IsSound t.state →
    Rises t.state.numbers (respond_word t w).next.state.numbers
word_rises t w r h = word_keeps (λ next. Rises t.state.numbers next.numbers) t w
    (λ u a. unit_rises t.state u ((grind arith) ∙ r) h) (λ o. same t.state.numbers) (same t.state.numbers)

all_rises : (t : Taker) (ws : Words) → list_any (λ w. unit_renews (as_message w)) ws ≡ false → AllByRecursion IsNumberedWord ws →
    IsSound t.state
    → Rises t.state.numbers (respond_words t ws).next.state.numbers
all_rises =
    words_do (λ t ws x. list_any (λ w. unit_renews (as_message w)) ws ≡ false → AllByRecursion IsNumberedWord ws → IsSound t.state →
    Rises t.state.numbers x.next.state.numbers) (λ t r small h. same t.state.numbers)
    (λ t w ws r small h. word_rises t w (or_parts _ _ r).0 h)
    (λ t w ws more r small h.
    let parts = or_parts _ _ r in
    let one = word_rises t w parts.0 h in
    let rest = more parts.1 small.1 (word_sound t w small.0 h) in omega arith)

input_rises : (s : Listener) (input : Input) → renews input ≡ false → HasNumbersInWords input → IsSound s.state →
    Rises s.state.numbers (after_input s input).state.numbers
input_rises s input r small h = input_cases (λ next. Rises s.state.numbers next.numbers) s input
    (grind (arith, same, passed, after_rises, all_rises, acting_words, all_acting))

pub never_falls : (s : Listener) (inputs : List Input) → AllByRecursion HasNumbersInWords inputs →
    AllByRecursion (λ i. renews i ≡ false) inputs → IsSound s.state
    → s.state.numbers.confirmed ≤ (after_inputs s inputs).state.numbers.confirmed
never_falls s [] small r h = omega arith
never_falls s (input ∷ inputs) small r h =
    grind (arith, input_rises, input_sound, never_falls (after_input s input) inputs small.1 r.1 (input_sound s input small.0 h))

pub yielded : (s : State) (kind : ResyncType) (n : ℕ) (wishes : TokenSetting) (octets : List ℕ) → stands s n ≡ false
    → (respond_unit s (RS kind n wishes octets)).next.numbers ≡ s.numbers
yielded s kind n wishes octets h = unit_cases (λ next. next.numbers ≡ s.numbers) s (RS kind n wishes octets) (grind (arith, same))
