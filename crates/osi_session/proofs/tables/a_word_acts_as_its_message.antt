-- A word leaves a state, and is answered, as its message or data does, as a bad unit does, or as nothing does.
use Rattle.osi_session.proofs.Vocabulary.{AllByRecursion, Aborting, UnitFault, Unexpected, State, without_tokens, is_over, Outcome, nothing}
use Rattle.osi_session.proofs.Vocabulary.{si, conditions, first_fault, is_expected, drops, bad, over, dropped, faulty, is_faulty}
use Rattle.osi_session.proofs.Vocabulary.{respond_unit, First, Middle, Last, Meaning, DT, Word, Words, says, part, as_message, Taker}
use Rattle.osi_session.proofs.Vocabulary.{joined_octets, word_conditions, word_verdict, good_word, Hearing, respond_word, respond_words}
use Rattle.osi_session.proofs.Vocabulary.{acting_words, respond_tsdu, arith, ◌≡◌, refl, sym, subst, ℕ, Bool, true, false, if◌then◌else◌}
use Rattle.osi_session.proofs.Vocabulary.{List, [], ◌∷◌, ◌++◌, Option, Some, None, heard_then, idle, not, enacted_word, by_fault}
use Rattle.osi_session.proofs.Vocabulary.{◌∙◌, ap, enacted, verdict}
use Rattle.osi_session.proofs.tables.the_verdict_on_a_unit.{enacts}
use Rattle.osi_session.proofs.tables.messages_act_as_the_table_says.{word_at}

-- the effect of a message, without the joined data
abbrev pub outcome_in : Hearing → Outcome
outcome_in h = record { next = h.next.state; shown = h.shown; reply = h.reply; closes = h.closes }

-- the messages as which a word acts: its own, and for a part data
abbrev pub ActsAs : Word → Meaning → Type 0
ActsAs (says m) u = u ≡ m
ActsAs (part place octets) u = (all : List ℕ) × (u ≡ DT all)

pub record WordDoes (P : Outcome → Type 0) (s : State) (w : Word) : Type 0 where
  pub acts : (u : Meaning) → ActsAs w u → P (respond_unit s u)
  pub bad : (fault : UnitFault) → is_over s.phase ≡ false → P (bad s fault)
  pub rests : P (nothing s)

good_does : (P : Outcome → Type 0) (t : Taker) (w : Word) → WordDoes P t.state w → is_over t.state.phase ≡ false →
    drops t.state (as_message w) ≡ false
    → is_expected t.state.phase (as_message w) ≡ true → first_fault (si (as_message w)) (conditions t.state (as_message w)) ≡ None →
    P (good_word t w)
good_does P t (says u) h o d x f = grind (arith, enacts t.state u)
good_does P t (part First octets) h o d x f = h.rests
good_does P t (part Middle octets) h o d x f = h.rests
good_does P t (part Last octets) h o d x f =
    let u = DT (joined_octets t.joined ++ octets) in
    grind (arith, enacts t.state u)

acts_itself : (w : Word) → ActsAs w (as_message w)
acts_itself w = grind arith

verdict_does : (P : Outcome → Type 0) (t : Taker) (w : Word) (o d x : Bool) (n : ℕ) (f : Option UnitFault) → WordDoes P t.state w →
    is_over t.state.phase ≡ o → drops t.state (as_message w) ≡ d → is_expected t.state.phase (as_message w) ≡ x →
    first_fault (si (as_message w)) (word_conditions t w) ≡ f →
    P (outcome_in (enacted_word t w (if o then over else if d then dropped else if not x then faulty (Unexpected n) else by_fault f)))
verdict_does P t w true d x n f h eo ed ex ef =
    let u = as_message w in
    subst P (enacts t.state u ∙ ap (enacted t.state u) (let e : verdict t.state u ≡ over = rw eo refl in e)) (h.acts u (acts_itself w))
verdict_does P t w false true x n f h eo ed ex ef = h.rests
verdict_does P t w false false false n f h eo ed ex ef = h.bad (Unexpected n) eo
verdict_does P t w false false true n (Some fault) h eo ed ex ef = h.bad fault eo
verdict_does P t w false false true n None h eo ed ex ef = good_does P t w h eo ed ex (grind arith)

-- one of these it does
pub word_does : (P : Outcome → Type 0) (t : Taker) (w : Word) → WordDoes P t.state w → P (outcome_in (respond_word t w))
word_does P t w h =
    subst (λ (r : Hearing). P (outcome_in r)) (sym (word_at t w (word_verdict t w) refl))
    (verdict_does P t w (is_over t.state.phase) (drops t.state (as_message w)) (is_expected t.state.phase (as_message w))
    (si (as_message w))
    (first_fault (si (as_message w)) (word_conditions t w)) h refl refl refl refl)

-- ---- states

-- what a word keeps of a state
pub word_keeps : (P : State → Type 0) (t : Taker) (w : Word) → ((u : Meaning) → ActsAs w u → P (respond_unit t.state u).next)
    → (is_over t.state.phase ≡ false → P (without_tokens Aborting t.state)) → P t.state → P (respond_word t w).next.state
word_keeps P t w acts bad rests = word_does (λ o. P o.next) t w (record { acts = acts; bad = λ fault o. bad o; rests = rests })

either_hearing : (Q : Hearing → Type 0) (b : Bool) (x y : Hearing) → Q x → Q y → Q (if b then x else y)
either_hearing Q b x y h k = grind arith

-- What is true of the hearing of words that follow one another, if it is of none, of one word, and of a word with those
-- after it.
pub words_do : (P : Taker → Words → Hearing → Type 0) → ((t : Taker) → P t [] (idle t))
    → ((t : Taker) (w : Word) (ws : Words) → P t (w ∷ ws) (respond_word t w))
    → ((t : Taker) (w : Word) (ws : Words) → P (respond_word t w).next ws (respond_words (respond_word t w).next ws) →
    P t (w ∷ ws) (heard_then (respond_word t w) (respond_words (respond_word t w).next ws)))
    → (t : Taker) (ws : Words) → P t ws (respond_words t ws)
unfolding respond_words
words_do P none one more t [] = none t
words_do P none one more t (w ∷ ws) = either_hearing (P t (w ∷ ws)) (is_faulty (word_verdict t w)) _ _ (one t w ws)
    (more t w ws (words_do P none one more (respond_word t w).next ws))

-- what each word keeps is kept by words that follow one another
pub all_keep : (P : State → Type 0) (Q : Word → Type 0) (t : Taker) (ws : Words)
    → ((r : Taker) (w : Word) → Q w → P r.state → P (respond_word r w).next.state) → AllByRecursion Q ws → P t.state →
    P (respond_words t ws).next.state
all_keep P Q t ws k q h =
    words_do (λ t ws x. AllByRecursion Q ws → P t.state → P x.next.state) (λ t q h. h) (λ t w ws q h. k t w q.0 h)
    (λ t w ws more q h. more q.1 (k t w q.0 h)) t ws q h

pub any_word : (ws : Words) → AllByRecursion (λ w. Unit {0}) ws
any_word [] = tt
any_word (w ∷ ws) = (tt, any_word ws)

at_end : (Q : Word → Type 0) (ws : Words) (w : Word) → AllByRecursion Q ws → Q w → AllByRecursion Q (ws ++ w ∷ [])
at_end Q [] w h k = (k, tt)
at_end Q (v ∷ ws) w h k = (h.0, at_end Q ws w h.1 k)

-- what is true of all words is true of those that act
pub all_acting : (Q : Word → Type 0) (words : Words) → AllByRecursion Q words → AllByRecursion Q (acting_words words)
unfolding acting_words
all_acting Q words h = grind (arith, at_end)

-- and by a TSDU
pub tsdu_keeps : (P : State → Type 0) (Q : Word → Type 0) (t : Taker) (words : Words)
    → ((r : Taker) (w : Word) → Q w → P r.state → P (respond_word r w).next.state) → AllByRecursion Q words → P t.state →
    P (respond_tsdu t words).next.state
tsdu_keeps P Q t words k q h = all_keep P Q t (acting_words words) k (all_acting Q words q) h

pub any_tsdu_keeps : (P : State → Type 0) (t : Taker) (words : Words)
    → ((r : Taker) (w : Word) → P r.state → P (respond_word r w).next.state) → P t.state → P (respond_tsdu t words).next.state
any_tsdu_keeps P t words k h = tsdu_keeps P (λ w. Unit {0}) t words (λ r w q. k r w) (any_word words) h
