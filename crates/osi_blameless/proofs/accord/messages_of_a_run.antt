-- What is known of the messages of two sides: how they are read, their words, and which of them are still to be sent.
-- For the laws that a run of two sessions is one of the machine.
use Rattle.osi_blameless.proofs.accord.Vocabulary.{[], ap, Bool, false, if◌then◌else◌, List, map, None, Ok, Option, refl, Some, sym, true}
use Rattle.osi_blameless.proofs.accord.Vocabulary.{ℕ, ◌++◌}
use Rattle.osi_blameless.proofs.accord.Vocabulary.{◌∙◌, ◌∷◌, ◌≡◌, ◌⊎◌, AllByRecursion, GT, Meaning, Said, said_at, IsSendable, said_of}
use Rattle.osi_blameless.proofs.accord.Vocabulary.{words_of}
use Rattle.osi_blameless.proofs.accord.Vocabulary.{no_token, says, Word, is_second, written, respond_came, respond_tsdu, has_no_effect}
use Rattle.osi_blameless.proofs.accord.Vocabulary.{respond}
use Rattle.osi_blameless.proofs.accord.Vocabulary.{respond_unit, CanSay, Count, counted, said_within, Seen, Takes, State, Direction}
use Rattle.osi_blameless.proofs.accord.Vocabulary.{Sending, sending}
use Rattle.osi_blameless.proofs.accord.Vocabulary.{words_in, AreWritten, Utterance, Pair, session_of, with_session, arith}
use Rattle.osi_session.specs.Standing.{said}
use Rattle.osi_session.specs.Joining.{acting_words, heard}
use Rattle.osi_message.specs.Tokens.{is_empty}

-- what is known of messages in octets, and of what a session does with them
pub record AsMessages : Type 0 where
  pub read : (m : Meaning) → IsSendable m → said_at (written m) ≡ Ok (words_of m)
  pub does : (s : State) (said : Said) → respond_tsdu (record { state = s; joined = None }) (map says said) ≡ heard None (respond s said)
  pub alone : (s : State) (u : Meaning) → respond s (said_of u) ≡ respond_unit s u

-- ---- what is taken

-- a session that has joined nothing, and takes a message
pub record IsTaken (s : Seen) (u : Meaning) (c : Count) : Type 0 where
  pub state : c.state ≡ (respond_unit s.state u).next
  pub joined : c.joined ≡ None
  pub reply : c.reply ≡ (respond_unit s.state u).reply
  pub closes : c.closes ≡ (respond_unit s.state u).closes

pub is_taken : AsMessages → (s : Seen) (u : Meaning) (c : Count) → IsSendable u → s.joined ≡ None → Takes s (written u) c → IsTaken s u c
is_taken k s u c send none taken =
    let came : counted (respond_came (record { state = s.state; joined = None }) (said_at (written u))) ≡ c = taken None (sym none) in
    grind arith

-- ---- the words of a message

-- nothing is left of it to send, or the GT that names no token
abbrev pub IsRest : List (Option Word) → Type 0
IsRest words = (words ≡ []) ⊎ (words ≡ Some (says (GT no_token)) ∷ [])

-- its words: it comes first
pub record BeginsWith (m : Meaning) (words : List (Option Word)) : Type 0 where
  pub rest : List (Option Word)
  pub is : words ≡ Some (says m) ∷ rest
  pub rests : IsRest rest

acts_first : (b : Bool) (m : Meaning) → BeginsWith m (map Some (acting_words (map says (if b then GT no_token ∷ m ∷ [] else m ∷ []))))
unfolding acting_words
acts_first b m = grind arith

pub message_first : AsMessages → (m : Meaning) → IsSendable m → BeginsWith m (words_in (written m))
message_first k m send = rw (k.read m send) (acts_first (is_second m) m)

pub same_said : (v w : Meaning) → says v ≡ says w → v ≡ w
same_said v w e = cc

-- a GT that names no token changes nothing
within_rests : (s next : Seen) → said_within s (says (GT no_token)) ≡ Some next → next ≡ s
unfolding is_empty
within_rests s next h = let e : Some s ≡ Some next = h in cc

pub says_nothing : (s next : Seen) (octets : ℕ) → CanSay s (says (GT no_token)) octets next → next ≡ s
unfolding said
says_nothing s next octets h = search (arith, within_rests)

pub all_and_one : (ms : List Meaning) (m : Meaning) → AllByRecursion IsSendable ms → IsSendable m → AllByRecursion IsSendable (ms ++ m ∷ [])
all_and_one [] m a i = (i, tt)
all_and_one (x ∷ ms) m a i = (a.0, all_and_one ms m a.1 i)

pub written_more : (ms : List Meaning) (m : Meaning) → map written (ms ++ m ∷ []) ≡ map written ms ++ written m ∷ []
written_more [] m = refl
written_more (x ∷ ms) m = ap (λ (y : List (List ℕ)). written x ∷ y) (written_more ms m)

pub kept_none : (b : Bool) (n : Option ℕ) → n ≡ None → (if b then None else n) ≡ None
kept_none b n e = grind arith

-- what is in flight to a side that takes this TSDU
pub record Comes (sent : List Meaning) (tsdu : List ℕ) (rest : List (List ℕ)) : Type 0 where
  pub u : Meaning
  pub us : List Meaning
  pub is : sent ≡ u ∷ us
  pub first : written u ≡ tsdu
  pub later : rest ≡ map written us

pub comes : (sent : List Meaning) (tsdu : List ℕ) (rest : List (List ℕ)) → tsdu ∷ rest ≡ map written sent → Comes sent tsdu rest
comes [] tsdu rest e = absurd (cc)
comes (u ∷ us) tsdu rest e = record { u = u; us = us; is = refl; first = cc; later = cc }

-- of the first message nothing is sent
abbrev pub IsFresh : List Sending → List Utterance → List Meaning → Type 0
IsFresh sent messages ahead = AreWritten sent messages × (ahead ≡ [])

-- a message of this side is sent, and its TSDU is not yet in flight
abbrev pub HasBegun : List Sending → List Utterance → Direction → Meaning → Type 0
HasBegun [] messages d m = ⊥
HasBegun (sending e own before words ∷ later) messages d m = (e ≡ d) × (own ≡ written m) × IsRest words × AreWritten later messages

pub record IsBegun (sent : List Sending) (messages : List Utterance) (d : Direction) (ahead : List Meaning) : Type 0 where
  pub m : Meaning
  pub is : HasBegun sent messages d m
  pub one : ahead ≡ m ∷ []

abbrev pub IsDue : List Sending → List Utterance → Direction → List Meaning → Type 0
IsDue sent messages d ahead = IsFresh sent messages ahead ⊎ IsBegun sent messages d ahead

pub same_pair : (d : Direction) (p : Pair) → with_session d (session_of d p) p ≡ p
same_pair d p = grind arith

-- the first words of a TSDU
pub record FirstWord (m : Meaning) (w : Word) (words : List (Option Word)) : Type 0 where
  pub word : w ≡ says m
  pub rests : IsRest words

pub first_word : AsMessages → (m : Meaning) (w : Word) (words : List (Option Word)) → IsSendable m → Some w ∷ words ≡ words_in (written m) →
    FirstWord m w words
first_word k m w words send is = grind (arith, message_first k m send)

pub effect_of : (m : Meaning) → has_no_effect m ≡ false → m ≡ GT no_token → ⊥
unfolding is_empty
effect_of m e is = let f : true ≡ false = ap has_no_effect (sym is) ∙ e in cc
