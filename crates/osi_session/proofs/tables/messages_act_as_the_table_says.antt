-- If nothing is joined, messages have the effect that the table of units gives. Also the effect of a TSDU of one word.
use Rattle.osi_session.proofs.Vocabulary.{list_any, cases_Bool, append-nil, State, Phase, is_over, Outcome, nothing, is_resynchronize}
use Rattle.osi_session.proofs.Vocabulary.{Verdict, over, dropped, verdict, is_faulty, enacted, respond_unit, respond_all, acting, respond}
use Rattle.osi_session.proofs.Vocabulary.{and_then, Meaning, GT, no_token, Said, words_of, Word, says, Taker, kept_in, word_verdict}
use Rattle.osi_session.proofs.Vocabulary.{Hearing, heard, enacted_word, respond_word, respond_words, heard_then, idle, is_restart_word}
use Rattle.osi_session.proofs.Vocabulary.{acting_words, respond_tsdu, Listener, react, after_inputs, taken, listening, standing_of}
use Rattle.osi_session.proofs.Vocabulary.{in_words, is_apart, joins, ◌≡◌, refl, sym, ◌∙◌, ap, ℕ, Bool, true, false, ◌||◌, if◌then◌else◌}
use Rattle.osi_session.proofs.Vocabulary.{List, [], ◌∷◌, ◌++◌, map, Option, None, inl, inr, arith}
use Rattle.osi_session.specs.Moves as whole
use Rattle.osi_session.proofs.tables.the_verdict_on_a_unit.{enacts, empty_item}

-- ---- what is kept

pub kept_none : (p : Phase) → kept_in p None ≡ None
kept_none p = grind arith

pub kept_twice : (p : Phase) (joined : Option (List ℕ)) → kept_in p (kept_in p joined) ≡ kept_in p joined
kept_twice p joined = grind arith

-- ---- one word

pub plain_verdict : (s : State) (u : Meaning) → word_verdict (record { state = s; joined = None }) (says u) ≡ verdict s u
plain_verdict s u = grind arith

pub enacted_says : (t : Taker) (u : Meaning) (v : Verdict) → enacted_word t (says u) v ≡ heard t.joined (enacted t.state u v)
enacted_says t u v = grind arith

pub plain_word : (s : State) (u : Meaning) → respond_word (record { state = s; joined = None }) (says u) ≡ heard None (respond_unit s u)
unfolding respond_word
plain_word s u = enacted_says (record { state = s; joined = None }) u _ ∙ ap (λ v. heard None (enacted s u v)) (plain_verdict s u)
    ∙ ap (heard None) (sym (enacts s u))

pub word_at : (t : Taker) (w : Word) (v : Verdict) → word_verdict t w ≡ v → respond_word t w ≡ enacted_word t w v
unfolding respond_word
word_at t w v e = ap (enacted_word t w) e

-- ---- words one after the other

pub heard_none : (o : Outcome) →
    heard None o ≡ record { next = record { state = o.next; joined = None }; shown = o.shown; reply = o.reply; closes = o.closes }
heard_none o = grind (arith, kept_none)

-- one message, and those after it
then_plain : (v w : Verdict) (h : Hearing) (o rest : Outcome) (f : Taker → Hearing) → v ≡ w → h ≡ heard None o →
    f (record { state = o.next; joined = None }) ≡ heard None rest →
    (if is_faulty v then h else heard_then h (f h.next)) ≡ heard None (if is_faulty w then o else and_then o rest)
then_plain v w h o rest f e g k =
    let next = ap (λ (x : Hearing). x.next) (g ∙ heard_none o) in
    let more = ap f next ∙ k in
    rw (e, more, g) (by (is_faulty w))
  where
    by : (b : Bool) →
        (if b then heard None o else heard_then (heard None o) (heard None rest)) ≡ heard None (if b then o else and_then o rest)
    by true = refl
    by false = refl

pub plain_words : (s : State) (us : List Meaning) →
    respond_words (record { state = s; joined = None }) (map says us) ≡ heard None (respond_all s us)
unfolding respond_words respond_all
plain_words s [] = sym (heard_none (nothing s))
plain_words s (u ∷ us) =
    then_plain _ (verdict s u) _ (respond_unit s u) (respond_all (respond_unit s u).next us) (λ t. respond_words t (map says us))
    (plain_verdict s u) (plain_word s u) (plain_words (respond_unit s u).next us)

-- ---- the words of a TSDU

some_restart : (us : List Meaning) → list_any is_restart_word (map says us) ≡ list_any is_resynchronize us
some_restart [] = refl
some_restart (u ∷ us) = ap (λ b. is_resynchronize u || b) (some_restart us)

says_at_end : (us : List Meaning) (u : Meaning) → map says us ++ says u ∷ [] ≡ map says (us ++ u ∷ [])
says_at_end [] u = refl
says_at_end (v ∷ us) u = ap (λ ws. says v ∷ ws) (says_at_end us u)

pub plain_acting : (said : Said) → acting_words (map says said) ≡ map says (acting said)
unfolding acting_words acting
plain_acting said = grind (arith, some_restart, says_at_end)

pub plain_tsdu : (s : State) (said : Said) →
    respond_tsdu (record { state = s; joined = None }) (map says said) ≡ heard None (respond s said)
plain_tsdu s said = ap (respond_words (record { state = s; joined = None })) (plain_acting said) ∙ plain_words s (acting said)

-- ---- moves

-- all but the words of a TSDU do to a session what they do over whole messages, and keep what the phase keeps
pub others : (l : Listener) (input : whole.Input) → kept_in l.state.phase l.joined ≡ l.joined → is_apart input ≡ true →
    react l (in_words input) ≡ joins l.joined (whole.react (standing_of l) input)
unfolding react whole.react
others l input h0 h1 = grind arith

-- and if nothing is joined, so do messages
pub moves_as_whole : (s : whole.Standing) (input : whole.Input) → react (listening s) (in_words input) ≡ joins None (whole.react s input)
unfolding react whole.react
moves_as_whole s input = grind (arith, others, kept_none, plain_tsdu)

joins_none : (m : whole.Move) → (joins None m).next ≡ listening m.next
joins_none m = let k = kept_none m.next.state.phase in λ i. record { state = m.next.state; waiting = m.next.waiting; joined = k i }

pub run_as_whole : (s : whole.Standing) (inputs : List whole.Input) →
    after_inputs (listening s) (map in_words inputs) ≡ listening (whole.after_inputs s inputs)
run_as_whole s [] = refl
run_as_whole s (input ∷ inputs) = grind (arith, moves_as_whole, joins_none, run_as_whole (whole.after_input s input) inputs)

-- ---- a TSDU of one word

-- what a word leaves is kept
pub word_kept : (t : Taker) (w : Word) →
    record { state = (respond_word t w).next.state; joined = kept_in (respond_word t w).next.state.phase (respond_word t w).next.joined } ≡
    (respond_word t w).next
unfolding respond_word
word_kept t w = by (word_verdict t w)
  where
    by : (v : Verdict) → (let x = (enacted_word t w v).next in record x { joined = kept_in x.state.phase x.joined } ≡ x)
    by v = grind (arith, kept_twice)

empty_word : (t : Taker) → respond_word t (says (GT no_token)) ≡ heard t.joined (nothing t.state)
empty_word t = elim (cases_Bool (is_over t.state.phase)) [
  | inl o ↦ word_at t (says (GT no_token)) over (rw o refl) ∙ ap (heard t.joined) (grind arith)
  | inr o ↦ word_at t (says (GT no_token)) dropped (let e = empty_item in rw (o, e) refl)
]

then_quiet : (h : Hearing) (next : Taker) → next ≡ h.next → heard_then h (idle next) ≡ h
then_quiet h next k = grind (arith, append-nil)

pub one_word : (t : Taker) (w : Word) → respond_words t (w ∷ []) ≡ respond_word t w
unfolding respond_words
one_word t w = grind (arith, then_quiet)

two_words : (t : Taker) (w : Word) → respond_words t (w ∷ says (GT no_token) ∷ []) ≡ respond_word t w
unfolding respond_words
two_words t w = by (is_faulty (word_verdict t w))
    (one_word (respond_word t w).next (says (GT no_token)) ∙ empty_word (respond_word t w).next)
  where
    by : (b : Bool) →
        respond_words (respond_word t w).next (says (GT no_token) ∷ []) ≡ heard (respond_word t w).next.joined
        (nothing (respond_word t w).next.state) →
        (if b then respond_word t w else heard_then (respond_word t w) (respond_words (respond_word t w).next (says (GT no_token) ∷ []))) ≡
        respond_word t w
    by true h = refl
    by false h = ap (heard_then (respond_word t w)) h ∙ then_quiet (respond_word t w) _ (word_kept t w)

pub word_alone : (t : Taker) (w : Word) → respond_tsdu t (w ∷ []) ≡ respond_word t w
unfolding acting_words
word_alone t w = one_word t w

-- after a token item that names no token a word does what it does alone
pub word_behind : (t : Taker) (w : Word) → respond_tsdu t (says (GT no_token) ∷ w ∷ []) ≡ respond_word t w
unfolding acting_words
word_behind t w = grind (arith, one_word, two_words)

-- a message as a word has the effect of the message
pub words_of_message : (t : Taker) (m : Meaning) → respond_tsdu t (words_of m) ≡ respond_word t (says m)
words_of_message t m = grind (arith, word_behind, word_alone)
