-- What is sent is taken as it was meant: from the octets of a message to its row in the table of units.
use Rattle.std.proofs.Common.{arith, ◌≡◌, ◌∙◌, ap, ℕ, List, [], ◌∷◌, Ok}
use Rattle.osi_session.proofs.Vocabulary.{tsdu_at, Place, Meaning, GT, no_token, said_by_units, said_if_read, said_at, words_of, Words}
use Rattle.osi_session.proofs.Vocabulary.{says, part, part_octets, written, spelled, respond_word, came, Listener, taker_of, moved, react}
use Rattle.osi_session.proofs.moves.the_move_of_each_input.{taken_is}
use Rattle.osi_session.proofs.tables.messages_act_as_the_table_says.{word_behind, words_of_message}

pub said_again : (m : Meaning) → tsdu_at (written m) ≡ Ok (spelled m) → said_by_units (spelled m) ≡ words_of m →
    said_at (written m) ≡ Ok (words_of m)
unfolding said_at
said_again m read said = ap said_if_read read ∙ ap (λ (words : Words). Ok words) said

-- from the octets of a message to its row
pub taken_as_meant : (s : Listener) (m : Meaning) → tsdu_at (written m) ≡ Ok (spelled m) → said_by_units (spelled m) ≡ words_of m
    → react s (came (written m)) ≡ moved s (respond_word (taker_of s) (says m))
taken_as_meant s m read said = grind (arith, react, said_again, taken_is, respond_word, words_of_message)

-- and of a part
pub part_taken : (s : Listener) (place : Place) (octets : List ℕ) →
    said_at (part_octets place octets) ≡ Ok (says (GT no_token) ∷ part place octets ∷ [])
    → react s (came (part_octets place octets)) ≡ moved s (respond_word (taker_of s) (part place octets))
part_taken s place octets said = grind (arith, react, taken_is, respond_word, word_behind)
