-- Whole messages as words, and a session that joins nothing: its state over words, and its effects.
use Rattle.std.specs.Prelude.{ℕ, Bool, true, false, List, map, Option, None}
use Rattle.osi_message.specs.Words.{says}
use Rattle.osi_session.specs.Joining.{kept_in}
use Rattle.osi_session.specs.Listening.{Input, called, taken, unread, opened, refused, broken, Listener, Move}
use Rattle.osi_session.specs.Moves as whole

-- a session over words that has joined nothing, and what it is without what it joins
abbrev pub listening : whole.Standing → Listener
listening s = record { state = s.state; waiting = s.waiting; joined = None }

abbrev pub standing_of : Listener → whole.Standing
standing_of l = record { state = l.state; waiting = l.waiting }

-- messages are words
abbrev pub in_words : whole.Input → Input
in_words (whole.called c) = called c
in_words (whole.taken said) = taken (map says said)
in_words (whole.unread fault) = unread fault
in_words whole.opened = opened
in_words (whole.refused reason) = refused reason
in_words whole.broken = broken

-- all inputs except the messages of a TSDU
abbrev pub is_apart : whole.Input → Bool
is_apart (whole.taken said) = false
is_apart _ = true

-- the move of a session that has joined this, if its phase keeps it
abbrev pub joins : Option (List ℕ) → whole.Move → Move
joins joined m = record {
  next = record { state = m.next.state; waiting = m.next.waiting; joined = kept_in m.next.state.phase joined };
  shown = m.shown;
  reply = m.reply;
  closes = m.closes;
  error = m.error;
}
