-- Runs of two sessions in which these TSDUs are sent, in this order.
use Rattle.std.specs.Prelude.{◌≡◌, ◌<◌, ◌≤◌, ◌+◌, ℕ, true, List, [], ◌∷◌, ◌++◌, length, map, Option, Some, None, Result, Ok, Err}
use Rattle.std.specs.List.{flat_map}
use Rattle.osi_spdu.specs.declared.faults.SpduFault.{SpduFault}
use Rattle.osi_message.specs.Meanings.{Meaning}
use Rattle.osi_message.specs.Reading.{said_at}
use Rattle.osi_message.specs.Words.{Word, Words}
use Rattle.osi_session.specs.Joining.{acting_words}
use Rattle.osi_session.specs.Standing.{Count, Seen, CanSay, Takes, answers_word, listens}
use Rattle.osi_side.specs.declared.directions.Direction.{Direction}
use Rattle.osi_side.specs.declared.directions.Direction.TheVariants.{Left, Right}
use Rattle.osi_side.specs.Captures.{other}
use Rattle.osi_side.specs.Explaining.{Told}
use Rattle.osi_blameless.specs.accord.Pairs.{Pair, session_of, taken_of, channel_of, with_session, with_channel, has_taken}

-- ---- what both sides send

-- a TSDU of a side, and how many TSDUs of the other side had passed before it
pub data Turn : Type 0 where
  turn : Direction → Told → Turn

abbrev pub own : Direction → Turn → List Told
own Left (turn Left t) = t ∷ []
own Left (turn Right t) = []
own Right (turn Left t) = []
own Right (turn Right t) = t ∷ []

-- the TSDUs of a side, in order
abbrev pub told_by : Direction → List Turn → List Told
told_by d turns = flat_map (own d) turns

abbrev pub octets_told : Told → List ℕ
octets_told t = t.octets

abbrev pub tsdus_by : Direction → List Turn → List (List ℕ)
tsdus_by d turns = map octets_told (told_by d turns)

-- Before a TSDU there are at least as many TSDUs of the other side as count as passed before it. So many of each side are in front
-- of this list.
abbrev pub AreInOrder : (left right : ℕ) → List Turn → Type 0
AreInOrder left right [] = Unit {0}
AreInOrder left right (turn Left t ∷ turns) = (t.before ≤ right) × AreInOrder (left + 1) right turns
AreInOrder left right (turn Right t ∷ turns) = (t.before ≤ left) × AreInOrder left (right + 1) turns

-- ---- a run

-- The words of a TSDU in the order in which they take effect. One that is not session units has a word that nobody sends.
abbrev pub words_read : Result Words SpduFault → List (Option Word)
words_read (Ok words) = map Some (acting_words words)
words_read (Err fault) = None ∷ []

abbrev pub words_in : List ℕ → List (Option Word)
words_in tsdu = words_read (said_at tsdu)

-- A TSDU of a side, how many TSDUs of the other side had passed before it, and its words that are still to be sent.
pub data Sending : Type 0 where
  sending : Direction → (tsdu : List ℕ) → (before : ℕ) → (words : List (Option Word)) → Sending

abbrev pub sending_of : Turn → Sending
sending_of (turn d t) = sending d t.octets t.before (words_in t.octets)

-- Two sessions can send this from here on, in this order. A TSDU is in flight once all its words are sent. Before a word of a TSDU its
-- side may take TSDUs that had passed before that TSDU, the oldest in flight first.
pub data Accords : List Sending → Pair → Type 0 where
  -- nothing is left to send
  done : (p : Pair) → Accords [] p
  -- a side takes a TSDU, and sends nothing
  takes : (d : Direction) (later : List Sending) (p : Pair) (own : List ℕ) (before : ℕ) (w : Option Word) (words : List (Option Word))
      (tsdu : List ℕ) (rest : List (List ℕ)) (c : Count) → taken_of d p < before → channel_of (other d) p ≡ tsdu ∷ rest
      → listens (session_of d p) ≡ true → Takes (session_of d p) tsdu c → c.reply ≡ None
      → Accords (sending d own before (w ∷ words) ∷ later) (has_taken d c rest p) → Accords (sending d own before (w ∷ words) ∷ later) p
  -- it takes one, and answers it at once by its next word
  answers : (d : Direction) (later : List Sending) (p : Pair) (own : List ℕ) (before : ℕ) (w : Word) (words : List (Option Word))
      (tsdu : List ℕ) (rest : List (List ℕ)) (c : Count) (reply : Meaning) → taken_of d p < before → channel_of (other d) p ≡ tsdu ∷ rest
      → listens (session_of d p) ≡ true → Takes (session_of d p) tsdu c → c.reply ≡ Some reply → answers_word reply w ≡ true
      → Accords (sending d own before words ∷ later) (has_taken d c rest p) → Accords (sending d own before (Some w ∷ words) ∷ later) p
  -- it sends its next word
  says : (d : Direction) (later : List Sending) (p : Pair) (own : List ℕ) (before : ℕ) (w : Word) (words : List (Option Word)) (next : Seen)
      → CanSay (session_of d p) w (length own) next → Accords (sending d own before words ∷ later) (with_session d next p)
      → Accords (sending d own before (Some w ∷ words) ∷ later) p
  -- all words of a TSDU are sent: it is in flight
  sends : (d : Direction) (later : List Sending) (p : Pair) (own : List ℕ) (before : ℕ)
      → Accords later (with_channel d (channel_of d p ++ own ∷ []) p) → Accords (sending d own before [] ∷ later) p

-- the two sessions after the run, and what is then in flight
abbrev pub end_of : {sent : List Sending} {p : Pair} → Accords sent p → Pair
end_of (done p) = p
end_of (takes d later p own before w words tsdu rest c passed there hears taken quiet run) = end_of run
end_of (answers d later p own before w words tsdu rest c reply passed there hears taken replied is run) = end_of run
end_of (says d later p own before w words next can run) = end_of run
end_of (sends d later p own before run) = end_of run
