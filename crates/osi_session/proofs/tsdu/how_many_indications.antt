-- How many indications a TSDU has.
use Rattle.std.proofs.Common.{sym, subst, ℕ, ◌+◌, ◌≤◌, List, ◌++◌, length, arith}
use Rattle.osi_session.proofs.Vocabulary.{length-append, State, Meaning, AA, Word, Words, Taker, respond_word, respond_words, acting_words}
use Rattle.osi_session.proofs.Vocabulary.{respond_tsdu, Shown, Outcome, respond_unit, Verdict, faulty, verdict, enacted}
use Rattle.osi_session.proofs.tables.the_verdict_on_a_unit.{enacts}
use Rattle.osi_session.proofs.tables.a_word_acts_as_its_message.{word_does, words_do}

abbrev AtMost : ℕ → List Shown → Type 0
AtMost n shown = length shown ≤ n

enacted_shows : (s : State) (u : Meaning) (v : Verdict) → AtMost 1 (enacted s u v).shown
enacted_shows s u v = grind arith

-- a unit shows at most one thing
pub unit_shows : (s : State) (u : Meaning) → length (respond_unit s u).shown ≤ 1
unit_shows s u = subst (λ (o : Outcome). AtMost 1 o.shown) (sym (enacts s u)) (enacted_shows s u (verdict s u))

both_show : (a b : List Shown) (n : ℕ) → length a ≤ 1 → length b ≤ n → length (a ++ b) ≤ n + 1
both_show a b n h k = omega (arith, length-append a b)

word_shows : (t : Taker) (w : Word) → length (respond_word t w).shown ≤ 1
word_shows t w =
    word_does (λ o. AtMost 1 o.shown) t w
    (record { acts = λ u a. unit_shows t.state u; bad = λ fault o. enacted_shows t.state AA (faulty fault); rests = omega arith })

all_show : (t : Taker) (ws : Words) → length (respond_words t ws).shown ≤ length ws
all_show = words_do (λ t ws h. length h.shown ≤ length ws) (λ t. omega arith) (λ t w ws. let one = word_shows t w in omega arith)
    (λ t w ws more. let both = both_show (respond_word t w).shown _ (length ws) (word_shows t w) more in omega arith)

acting_len : (words : Words) → length (acting_words words) ≤ length words
unfolding acting_words
acting_len words = grind (arith, length-append)

-- and a TSDU at most one for each word
pub words_show : (t : Taker) (words : Words) → length (respond_tsdu t words).shown ≤ length words
words_show t words = let a = all_show t (acting_words words) in let b = acting_len words in omega arith
