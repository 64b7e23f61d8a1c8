-- What a session answers a TSDU by is one short TSDU, and it answers nothing where it closes its connection.
-- For the course of a connection.
use Rattle.osi_blameless.proofs.ends.Vocabulary.{[], ap, List, None, Option, true, ℕ, ◌≡◌, sent_alone, Meaning, tsdus_sent, came, Listener}
use Rattle.osi_blameless.proofs.ends.Vocabulary.{session_react as react, limit_of, sent_short, SpduLaws, AreShort, limit_for, came_moves}
use Rattle.osi_blameless.proofs.ends.Vocabulary.{came_itself, SaysItself, arith}
unfoldable use Rattle.osi_message.specs.Written.{unit_of}
use Rattle.osi_session.specs.Standing.{answers}
use Rattle.osi_blameless.proofs.ends.at_any_time.what_a_session_sends_fits.{AllProper}

-- an answer has no user information
answer_plain : (m : Meaning) → answers m m ≡ true → (unit_of m).information ≡ []
unfolding unit_of
answer_plain m e = grind arith

one_for_all : (some other : ℕ) (reply : Option Meaning) → SaysItself reply → tsdus_sent some reply ≡ tsdus_sent other reply
one_for_all some other reply h = grind (arith, sent_alone)

answer_short : SpduLaws → (limit : ℕ) (reply : Option Meaning) → SaysItself reply → AreShort (tsdus_sent limit reply)
answer_short law limit reply h = grind (arith, sent_alone, sent_short, answer_plain)

replies_itself : (session : Listener) (octets : List ℕ) → SaysItself (react session (came octets)).reply
replies_itself session octets = grind (arith, came_moves, came_itself)

abbrev pub ClosesSilently : Type 0
ClosesSilently = (session : Listener) (octets : List ℕ) → (react session (came octets)).closes ≡ true →
    (react session (came octets)).reply ≡ None

pub all_proper : SpduLaws → ClosesSilently → AllProper
all_proper law silently session octets = record {
  same = one_for_all (limit_for session (came octets)) (limit_of session.state) (react session (came octets)).reply
      (replies_itself session octets);
  short = answer_short law (limit_of session.state) (react session (came octets)).reply (replies_itself session octets);
  silent = λ closes. ap (tsdus_sent (limit_of session.state)) (silently session octets closes);
}
