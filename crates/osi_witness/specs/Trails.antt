-- A run of a session, as it is told of a side: how its session came to send each unit that this side sent.
use Rattle.std.specs.Prelude.{◌≡◌, ℕ, zero, suc, ◌+◌, ◌≤◌, ◌⊎◌, true, false, List, [], ◌∷◌, length, get_or, slice_get, Some}
use Rattle.osi_message.specs.Meanings.{Meaning}
use Rattle.osi_message.specs.Words.{Word}
use Rattle.osi_session.specs.Standing.{Seen, Count, CanSay, Takes, listens, after_count, answers_word}
use Rattle.osi_session.specs.Steady.{Hears}
use Rattle.osi_side.specs.Explaining.{Remark}
use Rattle.osi_witness.specs.declared.streams.Kept.{Kept}
use Rattle.osi_witness.specs.declared.streams.Said.{Said}
use Rattle.osi_witness.specs.Units.{words_of}

-- a unit of a TSDU that a side sent: the one that acts in this place
abbrev pub remark_at : (tsdu : List ℕ) → (place before : ℕ) → Remark
remark_at tsdu place before = record { word = slice_get (words_of tsdu) place; octets = length tsdu; before = before }

-- a unit of a side that sent these TSDUs
abbrev pub remark_of : (own : List (List ℕ)) → Kept → Remark
remark_of own k = remark_at (get_or own k.tsdu []) k.place k.before

-- from this state, in which it has taken `from` TSDUs of the other side, a session takes so many more and sends nothing
abbrev pub Listens : (us : List (List ℕ)) → (from : ℕ) → Seen → ℕ → Seen → Type 0
Listens us from s zero t = t ≡ s
Listens us from s (suc n) u = (t : Seen) × (Listens us from s n t) × (Hears t (get_or us (from + n) []) u)

-- it takes TSDUs that had passed before the unit, and then its user makes the call that sends it
pub record Calls (us : List (List ℕ)) (m : Remark) (from : ℕ) (s : Seen) (x : Said) : Type 0 where
  pub is : x.is_answer ≡ false
  pub more : ℕ
  pub count : x.taken ≡ from + more
  pub passed : x.taken ≤ m.before
  pub at : Seen
  pub listened : Listens us from s more at
  pub word : Word
  pub unit : m.word ≡ Some word
  pub said : CanSay at word m.octets x.standing

-- or the unit is its answer to the last of them
pub record Answers (us : List (List ℕ)) (m : Remark) (from : ℕ) (s : Seen) (x : Said) : Type 0 where
  pub is : x.is_answer ≡ true
  pub more : ℕ
  pub count : x.taken ≡ from + suc more
  pub passed : x.taken ≤ m.before
  pub at : Seen
  pub listened : Listens us from s more at
  pub listening : listens at ≡ true
  pub last : Count
  pub took : Takes at (get_or us (from + more) []) last
  pub reply : Meaning
  pub answered : last.reply ≡ Some reply
  pub word : Word
  pub unit : m.word ≡ Some word
  pub said : answers_word reply word ≡ true
  pub next : x.standing ≡ after_count at last

-- it is told of this unit of the side
pub record IsOf (k : Kept) (x : Said) : Type 0 where
  pub tsdu : x.tsdu ≡ k.tsdu
  pub place : x.place ≡ k.place

abbrev pub Sends : (us : List (List ℕ)) → Remark → (from : ℕ) → Seen → Said → Type 0
Sends us m from s x = Calls us m from s x ⊎ Answers us m from s x

-- A session in this state, which has taken so many of the TSDUs of the other side, sends these units of its own side in order.
abbrev pub Runs : (own us : List (List ℕ)) → List Kept → List Said → (taken : ℕ) → Seen → Type 0
Runs own us [] [] taken s = Unit {0}
Runs own us (k ∷ ks) (x ∷ xs) taken s = IsOf k x × Sends us (remark_of own k) taken s x × Runs own us ks xs x.taken x.standing
Runs own us _ _ taken s = ⊥
