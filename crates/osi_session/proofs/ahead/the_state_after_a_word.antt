-- The state of a side after it sent a word that it may send: for each word, and for those that leave it unchanged.
use Rattle.osi_session.proofs.Vocabulary.{is_ready, may_ask, may_hold, State, Call, Data, Please, AllHold, Answer, Step, needs, may_call}
use Rattle.osi_session.proofs.Vocabulary.{met, after, most_of, octets_of, Meaning, DT, GT, PT, is_empty, arith, ◌≡◌, refl, ℕ, Bool, true}
use Rattle.osi_session.proofs.Vocabulary.{false, not, ◌&&◌, ◌||◌, is_none, if◌then◌else◌, nat_le, length, Option, Some, None, Ok}
use Rattle.osi_session.proofs.Vocabulary.{option_map, Word, says, Seen, goes, said_within, left_by, calling, CanSay, is_in_size}
use Rattle.osi_session.proofs.Vocabulary.{answers_word, is_steady}
use Rattle.osi_session.specs.Standing.{said}
use Rattle.osi_session.proofs.tables.what_is_true_of_each_phase.{implied}

-- ---- the tests that a word passed which may be sent

pub if_seen : (b : Bool) (o : Option Seen) (n : Seen) → (if b then o else None) ≡ Some n → (b ≡ true) × (o ≡ Some n)
if_seen b o n h = grind arith

pub if_state : (b : Bool) (o : Option State) (n : State) → (if b then o else None) ≡ Some n → (b ≡ true) × (o ≡ Some n)
if_state b o n h = grind arith

-- the side has not closed, the size is kept, and the word may be sent within what is unfinished
pub within : (s next : Seen) (w : Word) (n : ℕ) → CanSay s w n next →
    ((not s.closed && is_in_size s.state n) ≡ true) × (said_within s w ≡ Some next)
unfolding said
within s next w n h = if_seen (not s.closed && is_in_size s.state n) (said_within s w) next h

answer_is : (a : Answer) (n : State) → left_by a ≡ Some n → (x : Step) × (a ≡ Ok x) × (x.next ≡ n)
answer_is a n h = grind arith

-- a call that is allowed
pub record CallLeaves (s : State) (c : Call) (n : State) : Type 0 where
  pub phase : may_call s.phase c ≡ true
  pub short : nat_le (length (octets_of c)) (most_of c) ≡ true
  pub needed : AllHold (needs s c)
  pub next : n ≡ after s c

pub call_leaves : (s : State) (c : Call) (n : State) → calling s c ≡ Some n → CallLeaves s c n
unfolding met
call_leaves s c n h =
    let a = if_state (may_call s.phase c && nat_le (length (octets_of c)) (most_of c)) (left_by (met s c)) n h in
    let b = answer_is (met s c) n a.1 in
    grind arith

pub mapped : (f : State → Seen) (o : Option State) (x : Seen) → option_map f o ≡ Some x → (n : State) × (o ≡ Some n) × (x ≡ f n)
mapped f o x h = grind arith

-- ---- what leaves a side unchanged

left_same : (s x : Seen) (c : Call) → option_map (goes s) (calling s.state c) ≡ Some x → after s.state c ≡ s.state
    → (may_call s.state.phase c ≡ true → may_hold s.state.phase ≡ true) → x ≡ s
left_same s x c h a p =
    let m = mapped (goes s) (calling s.state c) x h in
    grind (arith, call_leaves s.state c m.0 m.1)

either_same : (b : Bool) (o : Option Seen) (s x : Seen) → (if b then Some s else o) ≡ Some x → (o ≡ Some x → x ≡ s) → x ≡ s
either_same b o s x h k = grind arith

-- data, a request for tokens, and a token item that names none
abbrev pub is_idle : Word → Bool
is_idle (says (DT octets)) = true
is_idle (says (PT tokens octets)) = true
is_idle (says (GT tokens)) = is_empty tokens
is_idle _ = false

-- it may be sent, and leaves the side unchanged
pub idle_leaves : (s next : Seen) (w : Word) (n : ℕ) → is_idle w ≡ true → CanSay s w n next → next ≡ s
idle_leaves s next (says (DT octets)) n e h =
    let a = if_seen (is_none s.sent || false) _ next (within s next (says (DT octets)) n h).1 in
    left_same s next (Data octets) a.1 refl (implied is_ready may_hold refl s.state.phase)
idle_leaves s next (says (PT tokens octets)) n e h =
    either_same (is_empty tokens) _ s next (within s next (says (PT tokens octets)) n h).1 (λ k.
    let a = if_seen (is_none s.sent || true) _ next k in
    left_same s next (Please tokens octets) a.1 refl (implied may_ask may_hold refl s.state.phase))
idle_leaves s next (says (GT tokens)) n e h = grind (arith, is_empty, within)
idle_leaves s next _ n e h = absurd (cc)

pub no_answer : (reply : Meaning) (w : Word) → is_steady w ≡ true → answers_word reply w ≡ true → ⊥
no_answer reply w e h = grind arith
