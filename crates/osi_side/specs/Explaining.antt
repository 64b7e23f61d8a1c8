-- Which runs of a session explain what one side of a connection sent.
use Rattle.std.specs.Prelude.{◌≡◌, ℕ, ◌+◌, ◌<◌, true, List, [], ◌∷◌, ◌++◌, length, map, take, get_or, Option, Some, None, Result, Ok, Err}
use Rattle.osi_spdu.specs.declared.faults.SpduFault.{SpduFault}
use Rattle.osi_message.specs.Meanings.{Meaning}
use Rattle.osi_message.specs.Reading.{said_at}
use Rattle.osi_message.specs.Words.{Word, Words}
use Rattle.osi_session.specs.Joining.{acting_words}
use Rattle.osi_session.specs.Standing.{Seen, Count, CanSay, Takes, listens, after_count, answers_word}

-- A TSDU that a side sent, and how many TSDUs of the other side had arrived as a whole before its first octet.
pub record Told : Type 0 where
  pub octets : List ℕ
  pub before : ℕ

-- A word of such a TSDU, and the length of the TSDU; no word if the TSDU is not session units.
pub record Remark : Type 0 where
  pub word : Option Word
  pub octets : ℕ
  pub before : ℕ

abbrev pub remark : Told → Word → Remark
remark t w = record { word = Some w; octets = length t.octets; before = t.before }

abbrev pub read_as : Told → Result Words SpduFault → List Remark
read_as t (Ok words) = map (remark t) (acting_words words)
read_as t (Err fault) = record { word = None; octets = length t.octets; before = t.before } ∷ []

-- the words in the order in which they take effect
abbrev pub remarks_of : Told → List Remark
remarks_of t = read_as t (said_at t.octets)

abbrev pub remarks : List Told → List Remark
remarks [] = []
remarks (t ∷ told) = remarks_of t ++ remarks told

-- A session in this state, which has taken `taken` TSDUs of the other side, can send these remarks: by taking further
-- TSDUs, in order, and by calls of its user.
pub data Explains (us : List (List ℕ)) : List Remark → ℕ → Seen → Type 0 where
  -- nothing is left to send
  done : (taken : ℕ) (s : Seen) → Explains us [] taken s
  -- it takes a TSDU that had arrived before the next remark, and sends nothing
  takes : (m : Remark) (ms : List Remark) (taken : ℕ) (s : Seen) (c : Count) → taken < m.before → listens s ≡ true → Takes s (get_or us taken []) c
      → c.reply ≡ None → Explains us (m ∷ ms) (taken + 1) (after_count s c) → Explains us (m ∷ ms) taken s
  -- it takes one, and answers it at once by the next remark
  answers : (m : Remark) (ms : List Remark) (taken : ℕ) (s : Seen) (c : Count) (reply : Meaning) (w : Word) → taken < m.before → listens s ≡ true
      → Takes s (get_or us taken []) c → c.reply ≡ Some reply → m.word ≡ Some w → answers_word reply w ≡ true → Explains us ms (taken + 1) (after_count s c)
      → Explains us (m ∷ ms) taken s
  -- it sends the next remark
  says : (m : Remark) (ms : List Remark) (taken : ℕ) (s next : Seen) (w : Word) → m.word ≡ Some w → CanSay s w m.octets next → Explains us ms taken next
      → Explains us (m ∷ ms) taken s

-- A side that begins in this state may have sent all of this, when these TSDUs of the other side arrived.
abbrev pub IsExplained : Seen → List (List ℕ) → List Told → Type 0
IsExplained begin us told = Explains us (remarks told) 0 begin

-- It broke the protocol at its i-th TSDU, counted from 0: the TSDUs before it are explained, and those up to it are
-- not.
pub record IsBlamed (begin : Seen) (us : List (List ℕ)) (told : List Told) (i : ℕ) : Type 0 where
  pub there : i < length told
  pub so_far : IsExplained begin us (take i told)
  pub broke : IsExplained begin us (take (i + 1) told) → ⊥
