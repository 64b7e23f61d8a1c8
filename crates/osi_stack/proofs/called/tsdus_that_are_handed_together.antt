-- TSDUs that are handed over together.
use Rattle.osi_stack.proofs.Vocabulary.{list_any, nat_tests, or-false, send_error, send_all_error, lengths_error, open_link, sent, sent_on}
use Rattle.osi_stack.proofs.Vocabulary.{sent_all, State as Carrier, SendError, Standing as Link, Meaning, tsdus_sent, in_one, Words}
use Rattle.osi_stack.proofs.Vocabulary.{word_octets, sent_alone, Listener, Move, came, AreShort, message_of, does, puts, limit_for, answers}
use Rattle.osi_stack.proofs.Vocabulary.{event_input, sent_unless, hands, answers_by, SessionEvent, ◌≡◌, ◌∙◌, refl, ap, ℕ, Bool, false, List}
use Rattle.osi_stack.proofs.Vocabulary.{[], ◌∷◌, length, map, nat_lt, Option, Some, None, option_map, unwrap_or, arith, if◌then◌else◌}
use Rattle.osi_stack.proofs.Vocabulary.{TooLong}

-- ---- one, and none

pub one_error : (tsdu : List ℕ) (o : Option (ℕ × Link)) → send_all_error (tsdu ∷ []) o ≡ send_error tsdu o
one_error tsdu o = grind (arith, or-false)

pub hands_one : (r : ℕ) (tsdu : List ℕ) (c : Carrier) → send_error tsdu (open_link r c) ≡ None → hands r (tsdu ∷ []) c ≡ sent r tsdu c
hands_one r tsdu c none = ap (λ o. sent_unless o r (tsdu ∷ []) c) (one_error tsdu (open_link r c) ∙ none)

pub hands_none : (r : ℕ) (c : Carrier) → hands r [] c ≡ c
hands_none r c = grind arith

-- ---- what is short is sent on an open connection, and on another nothing is

unlinked : (r : ℕ) (tsdus : List (List ℕ)) (c : Carrier) → open_link r c ≡ None → sent_all r tsdus c ≡ c
unlinked r [] c e = refl
unlinked r (tsdu ∷ tsdus) c e = ap (sent_all r tsdus) (ap (λ o. sent_on r tsdu o c) e) ∙ unlinked r tsdus c e

none_long : (tsdus : List (List ℕ)) → AreShort tsdus → list_any (λ (t : List ℕ). nat_lt 1048576 (length t)) tsdus ≡ false
none_long [] h = refl
none_long (tsdu ∷ tsdus) h = grind (arith, nat_tests, none_long tsdus h.1)

pub lengths_fit : (tsdus : List (List ℕ)) → AreShort tsdus → lengths_error tsdus ≡ None
lengths_fit tsdus h = ap (λ (b : Bool). if◌then◌else◌ {A = Option SendError} b (Some TooLong) None) (none_long tsdus h)

pub handed : (r : ℕ) (tsdus : List (List ℕ)) (c : Carrier) → AreShort tsdus → hands r tsdus c ≡ sent_all r tsdus c
handed r tsdus c short = grind (arith, unlinked, lengths_fit)

-- ---- words

pub puts_words : (r : ℕ) (words : Words) (c : Carrier) → sent_all r (map word_octets words) c ≡ puts r (map message_of words) c
puts_words r [] c = refl
puts_words r (w ∷ words) c = ap (sent_all r (map word_octets words)) (grind arith) ∙ puts_words r words (does r (message_of w) c)

-- ---- what a session sends by itself

pub sent_by_itself : (reply : Option Meaning) → unwrap_or (option_map in_one reply) [] ≡ tsdus_sent 0 reply
sent_by_itself reply = grind (arith, sent_alone)

pub came_unbounded : (s : Listener) (octets : List ℕ) → limit_for s (came octets) ≡ 0
came_unbounded s octets = grind arith

-- what is handed over for a session that handles an event
pub answer_heard : (s : Listener) (told : SessionEvent) (r : ℕ) (reply : Option (List (List ℕ))) (closes : Bool) (move : Move)
    (c : Carrier) →
    reply ≡ option_map in_one move.reply → closes ≡ move.closes →
    answers_by closes r (unwrap_or reply []) c ≡ answers r (limit_for s (event_input told)) move c
answer_heard s told r reply closes move c e f = grind (arith, answers_by, unwrap_or, sent_by_itself, answers)
