-- The effect of a TSDU on a session that takes it has one count, whichever octets it has joined, if there are this
-- many.
-- For the law that an honest session is explained: a session that takes a TSDU takes it as an observer counts it.
use Rattle.std.proofs.Common.{arith}
use Rattle.osi_side.proofs.Vocabulary.{◌≡◌, ◌∙◌, sym, ap, ℕ, Bool, false, is_none, List, [], ◌∷◌, ◌++◌, length, Option, None}
use Rattle.osi_side.proofs.Vocabulary.{option_map, Result, if◌then◌else◌, length-append, SpduFault, Place, Word, Words, as_message, State}
use Rattle.osi_side.proofs.Vocabulary.{count_by, taker_with, CountsCame, Taker, Hearing, enacted_word, heard_then, is_in_place}
use Rattle.osi_side.proofs.Vocabulary.{joined_octets, respond_came, Outcome, Verdict, bad, dropped, enacted, fine, nothing, over, counted}
use Rattle.osi_side.proofs.Vocabulary.{count_then, heard_counted}
use Rattle.osi_session.specs.Joining.{heard}
use Rattle.osi_session.specs.Joining.{respond_word, respond_words}
use Rattle.osi_session.specs.Respond.{faulty}

-- as many octets are joined
abbrev pub AsMany : Option (List ℕ) → Option (List ℕ) → Type 0
AsMany j k = option_map length j ≡ option_map length k

one_none : (j k : Option (List ℕ)) → AsMany j k → is_none j ≡ is_none k
one_none h h2 e = grind arith

one_place : (j k : Option (List ℕ)) (place : Place) → AsMany j k → is_in_place j place ≡ is_in_place k place
one_place h h2 place e = grind arith

one_total : (j k : Option (List ℕ)) (o : List ℕ) → AsMany j k → length (joined_octets j ++ o) ≡ length (joined_octets k ++ o)
one_total j k o e = grind (arith, length-append)

-- ---- a word

pub heard_alike : (j k : Option (List ℕ)) (o : Outcome) → AsMany j k → counted (heard j o) ≡ counted (heard k o)
heard_alike j k o e = heard_counted j o ∙ ap (λ (n : Option ℕ). count_by n o) e ∙ sym (heard_counted k o)

enacted_alike : (s : State) (j k : Option (List ℕ)) (w : Word) (v : Verdict) → AsMany j k →
    counted (enacted_word (taker_with s j) w v) ≡ counted (enacted_word (taker_with s k) w v)
enacted_alike s j k w over e = heard_alike j k (enacted s (as_message w) over) e
enacted_alike s j k w dropped e = heard_alike j k (nothing s) e
enacted_alike s j k w (faulty fault) e = heard_alike j k (bad s fault) e
enacted_alike s j k w fine e = grind (arith, heard_alike, one_total)

word_alike : (s : State) (j k : Option (List ℕ)) (w : Word) → AsMany j k →
    counted (respond_word (taker_with s j) w) ≡ counted (respond_word (taker_with s k) w)
unfolding respond_word
word_alike s j k w e = grind (arith, one_none, one_place, one_total, enacted_alike)

-- ---- words one after the other

-- a bad word is the last
abbrev pub behind_by : Bool → Hearing → Words → Hearing
behind_by last h ws = if last then h else heard_then h (respond_words h.next ws)

behind_alike : (b : Bool) (h g : Hearing) (ws : Words) → counted h ≡ counted g →
    counted (respond_words h.next ws) ≡ counted (respond_words g.next ws) → counted (behind_by b h ws) ≡ counted (behind_by b g ws)
behind_alike b h g ws e f = grind (arith, count_then)

-- the same for two sessions in one state, if it holds for the words after it
pub takers_alike : (ws : Words) (t u : Taker) →
    ((s : State) (j k : Option (List ℕ)) → AsMany j k →
    counted (respond_words (taker_with s j) ws) ≡ counted (respond_words (taker_with s k) ws))
    → t.state ≡ u.state → AsMany t.joined u.joined → counted (respond_words t ws) ≡ counted (respond_words u ws)
takers_alike ws t u more p e = ap (λ (s : State). counted (respond_words (taker_with s t.joined) ws)) p ∙ more u.state t.joined u.joined e

pub words_alike : (ws : Words) (s : State) (j k : Option (List ℕ)) → AsMany j k →
    counted (respond_words (taker_with s j) ws) ≡ counted (respond_words (taker_with s k) ws)
unfolding respond_words
words_alike [] s j k e = λ i. record { state = s; joined = e i; reply = None; closes = false }
words_alike (w ∷ ws) s j k e = grind (arith, word_alike, one_none, one_place, one_total, behind_alike, takers_alike, words_alike ws)

-- ---- a TSDU

-- it is counted as the session that takes it does
pub as_it_does : (s : State) (j : Option (List ℕ)) (came : Result Words SpduFault) →
    CountsCame s (option_map length j) came (counted (respond_came (taker_with s j) came))
as_it_does s j h = grind (arith, words_alike, heard_alike)
