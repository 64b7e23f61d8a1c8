-- The effect of a word, from its result in memory.
use Rattle.std.proofs.Common.{◌≡◌, ◌∙◌, refl, sym, ap, subst, ℕ, ◌<◌, Bool, true, false, List, [], ◌∷◌, ◌++◌, length, Option, Some, None}
use Rattle.std.proofs.Common.{arith}
use Rattle.osi_session.specs.declared.joining.PartVerdict.TheVariants as is
use Rattle.osi_session.specs.Shown.{Data}
use Rattle.osi_session.proofs.Vocabulary.{lt-ltb, length-append, append-nil, State, UnitFault, Heard, takes_data, may_hold, nothing, shows}
use Rattle.osi_session.proofs.Vocabulary.{bad, Verdict, fine, is_faulty, enacted, is_silent, replies_abort, Taker, Hearing, joined_octets}
use Rattle.osi_session.proofs.Vocabulary.{is_in_place, word_verdict, joined_by, good_word, heard, enacted_word, respond_word, told_of}
use Rattle.osi_session.proofs.Vocabulary.{hearing_of, takes_room, outcome_of, Meaning, Place, First, Middle, Last, Word, says, part}
use Rattle.osi_session.proofs.tsdu.the_verdict_while_joining.{part_verdict}
use Rattle.osi_session.proofs.tables.what_is_true_of_each_phase.{implied}
use Rattle.osi_session.proofs.tables.the_verdict_on_a_unit.{enacted_reply}
use Rattle.osi_session.proofs.tables.messages_act_as_the_table_says.{word_at, enacted_says}

-- ---- a message

pub message_is : (t : Taker) (u : Meaning) → respond_word t (says u) ≡ heard t.joined (enacted t.state u (word_verdict t (says u)))
message_is t u = word_at t (says u) (word_verdict t (says u)) refl ∙ enacted_says t u _

-- ---- what needs memory

pub message_takes : (t : Taker) (u : Meaning) → is_silent (enacted t.state u (word_verdict t (says u))) ≡ false →
    takes_room t.joined (respond_word t (says u)) ≡ true
message_takes t u h = grind (arith, message_is)

-- ---- a part

-- a part that does nothing
pub part_dropped : (t : Taker) (place : Place) (octets : List ℕ) → is.Dropped ≡ told_of (word_verdict t (part place octets)) →
    respond_word t (part place octets) ≡ heard t.joined (nothing t.state)
unfolding respond_word
part_dropped t place octets h0 = grind arith

-- a bad part
pub part_bad : (t : Taker) (place : Place) (octets : List ℕ) (fault : UnitFault) →
    is.Bad fault ≡ told_of (word_verdict t (part place octets)) →
    respond_word t (part place octets) ≡ heard t.joined (bad t.state fault)
unfolding respond_word
part_bad t place octets fault e = grind arith

-- a good part
pub part_is : (t : Taker) (place : Place) (octets : List ℕ) → word_verdict t (part place octets) ≡ fine →
    respond_word t (part place octets) ≡ heard (joined_by t.joined (part place octets)) (good_word t (part place octets))
part_is t place octets e = word_at t (part place octets) fine e

passed : (t : Taker) (place : Place) (octets : List ℕ) → word_verdict t (part place octets) ≡ fine →
    (takes_data t.state.phase ≡ true) × (is_in_place t.joined place ≡ true)
passed t place octets e = grind (arith, part_verdict)

pub fine_holds : (t : Taker) (place : Place) (octets : List ℕ) → word_verdict t (part place octets) ≡ fine → may_hold t.state.phase ≡ true
fine_holds t place octets e = implied takes_data may_hold refl t.state.phase (passed t place octets e).0

pub first_is : (t : Taker) (octets : List ℕ) → word_verdict t (part First octets) ≡ fine →
    respond_word t (part First octets) ≡ heard (Some (joined_octets t.joined ++ octets)) (nothing t.state)
first_is t octets e = grind (arith, part_is, passed)

pub middle_is : (t : Taker) (octets : List ℕ) → word_verdict t (part Middle octets) ≡ fine →
    respond_word t (part Middle octets) ≡ heard (Some (joined_octets t.joined ++ octets)) (nothing t.state)
middle_is t octets e = part_is t Middle octets e

pub last_is : (t : Taker) (octets : List ℕ) → word_verdict t (part Last octets) ≡ fine →
    respond_word t (part Last octets) ≡ heard None (shows t.state (Data (joined_octets t.joined ++ octets)))
last_is t octets e = part_is t Last octets e

-- ---- what is joined after a part

pub grown_nothing : (x u : List ℕ) → length u ≡ 0 → Some x ≡ Some (x ++ u)
grown_nothing x [] h = ap (λ (o : List ℕ). Some o) (sym (append-nil x))
grown_nothing x (b ∷ u) h = absurd (cc)

pub grown_first : (u : List ℕ) → length u ≡ 0 → Some [] ≡ Some u
grown_first [] h = refl
grown_first (b ∷ u) h = absurd (cc)

pub early_takes : (s : State) (joined : Option (List ℕ)) (octets : List ℕ) → may_hold s.phase ≡ true → 0 < length octets →
    takes_room joined (heard (Some (joined_octets joined ++ octets)) (nothing s)) ≡ true
early_takes s joined octets m h = grind (arith, length-append, lt-ltb)

-- ---- a bad word is one that is answered by AB

enacted_bad : (t : Taker) (w : Word) (v : Verdict) → replies_abort (enacted_word t w v).reply ≡ is_faulty v
enacted_bad t w v = search (arith, enacted_reply)

pub word_told : (t : Taker) (w : Word) (h : Hearing) (b : Bool) → respond_word t w ≡ h → b ≡ replies_abort h.reply →
    b ≡ is_faulty (word_verdict t w)
word_told t w h b e k = grind (arith, word_at t w (word_verdict t w) refl, enacted_bad t w (word_verdict t w))

pub told_as : (s : State) (j k : Option (List ℕ)) (w : Word) (h : Heard) (b : Bool) → j ≡ k →
    (let t : Taker = record { state = s; joined = j } in respond_word t w ≡ hearing_of j h.joined (outcome_of h.reaction))
    → b ≡ replies_abort (outcome_of h.reaction).reply →
    (let t : Taker = record { state = s; joined = k } in b ≡ is_faulty (word_verdict t w))
told_as s j k w h b e f g =
    subst (λ (x : Option (List ℕ)). let t : Taker = record { state = s; joined = x } in b ≡ is_faulty (word_verdict t w)) e
    (let t : Taker = record { state = s; joined = j } in word_told t w (hearing_of j h.joined (outcome_of h.reaction)) b f g)
