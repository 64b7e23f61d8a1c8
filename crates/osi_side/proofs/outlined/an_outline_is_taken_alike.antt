-- A TSDU and its outline have the same effect on every session, but for what its user is shown.
-- For the judge, which keeps outlines, and says what holds of the TSDUs.
use Rattle.osi_side.proofs.Vocabulary.{◌≡◌, ◌∙◌, refl, ap, ℕ, ◌+◌, ◌≤◌, Bool, true, false, nat_le, List, [], ◌∷◌, ◌++◌, length, IfOk}
use Rattle.osi_side.proofs.Vocabulary.{IfSome, Option, Some, None, Result, Ok, if◌then◌else◌, arith, le-leb, leb-true, append-nil}
use Rattle.osi_side.proofs.Vocabulary.{length-append, length-replicate, SpduFault, Contents, Units, numeral_digits, few_fit, tsdu_read}
use Rattle.osi_side.proofs.Vocabulary.{units_written, Meaning, DT, GT, data_octets, IsNumbered, AreNumberedWords, behind, said_by_units}
use Rattle.osi_side.proofs.Vocabulary.{IsSendable, words_of, no_token, Place, Word, Words, part, part_octets, says, written, spelled_fits}
use Rattle.osi_side.proofs.Vocabulary.{spelled_formed, units_numbered, part_said, data_written, Taker, Hearing, enacted_word}
use Rattle.osi_side.proofs.Vocabulary.{is_restart_word, respond_came, word_verdict, Verdict, has_no_effect, is_faulty, Count, counted}
use Rattle.osi_side.proofs.Vocabulary.{count_then, AreAlike, bare, no_data, outline_as, outline_behind, outline_by}
use Rattle.osi_message.specs.Reading.{said_at}
use Rattle.osi_message.specs.Tokens.{is_empty}
use Rattle.osi_message.specs.Written.{is_second, user_data_of}
use Rattle.osi_message.proofs.what_is_written_means_it.{said_again}
use Rattle.osi_session.specs.Joining.{acting_words, respond_word}
use Rattle.osi_session.specs.Joining.{respond_words}
use Rattle.osi_side.specs.Outlines.{outline}
use Rattle.osi_side.proofs.told.a_tsdu_has_one_count.{behind_by, heard_alike, takers_alike, words_alike}

-- ---- words with the same effect

pub record SameWord (w v : Word) : Type 0 where
  pub verdict : (t : Taker) → is_faulty (word_verdict t w) ≡ is_faulty (word_verdict t v)
  pub effect : (t : Taker) → counted (respond_word t w) ≡ counted (respond_word t v)
  pub restart : is_restart_word w ≡ is_restart_word v

abbrev SameWords : Words → Words → Type 0
SameWords [] [] = Unit {0}
SameWords (w ∷ ws) (v ∷ vs) = SameWord w v × SameWords ws vs
SameWords _ _ = ⊥

words_same : (t : Taker) (ws vs : Words) → SameWords ws vs → counted (respond_words t ws) ≡ counted (respond_words t vs)
unfolding respond_words
words_same t [] [] s = refl
words_same t [] (v ∷ vs) s = absurd s
words_same t (w ∷ ws) [] s = absurd s
words_same t (w ∷ ws) (v ∷ vs) s =
    let h = respond_word t w in
    let g = respond_word t v in
    let one = s.0.effect t in
    ap (λ (b : Bool). counted (behind_by b h ws)) (s.0.verdict t)
    ∙ behind_on (is_faulty (word_verdict t v)) h g ws vs one
    (grind (arith, takers_alike, words_alike, words_same g.next ws vs s.1))
  where
    behind_on : (b : Bool) (h g : Hearing) (ws vs : Words) → counted h ≡ counted g
        → counted (respond_words h.next ws) ≡ counted (respond_words g.next vs) → counted (behind_by b h ws) ≡ counted (behind_by b g vs)
    behind_on true h g ws vs e f = e
    behind_on false h g ws vs e f = λ i. count_then (e i) (f i)

-- ---- a TSDU of one word, or of two

alone_same : (t : Taker) (w v : Word) → SameWord w v → counted (respond_came t (Ok (w ∷ []))) ≡ counted (respond_came t (Ok (v ∷ [])))
unfolding acting_words
alone_same t w v s = words_same t (w ∷ []) (v ∷ []) (s, tt)

pair_same : (t : Taker) (w v x y : Word) → SameWord w v → SameWord x y
    → counted (respond_came t (Ok (w ∷ x ∷ []))) ≡ counted (respond_came t (Ok (v ∷ y ∷ [])))
unfolding acting_words
pair_same t w v x y s r = grind (arith, words_same)

-- ---- a message and the same without its user data

bare_verdict : (m : Meaning) (t : Taker) → IfSome (bare m) (λ n. word_verdict t (says m) ≡ word_verdict t (says n))
bare_verdict m t = grind arith

bare_restart : (m : Meaning) → IfSome (bare m) (λ n. is_restart_word (says m) ≡ is_restart_word (says n))
bare_restart m = grind arith

bare_second : (m : Meaning) → IfSome (bare m) (λ n. is_second n ≡ is_second m)
unfolding is_second
bare_second m = grind arith

bare_sendable : (m : Meaning) → IsNumbered m → IfSome (bare m) IsSendable
unfolding user_data_of
bare_sendable m h = grind arith

same_by : (m n : Meaning) → ((t : Taker) → word_verdict t (says m) ≡ word_verdict t (says n))
    → ((t : Taker) (v : Verdict) → counted (enacted_word t (says m) v) ≡ counted (enacted_word t (says n) v))
    → is_restart_word (says m) ≡ is_restart_word (says n)
    → SameWord (says m) (says n)
unfolding respond_word
same_by m n a b r = grind arith

-- ---- a part and as many other octets

part_effect : (t : Taker) (place : Place) (o p : List ℕ) (v : Verdict) → length o ≡ length p
    → counted (enacted_word t (part place o) v) ≡ counted (enacted_word t (part place p) v)
part_effect t place o p v e = grind (arith, heard_alike, length-append)

part_same : (place : Place) (o : List ℕ) → SameWord (part place o) (part place (no_data o))
unfolding respond_word
part_same place o = grind (arith, length-replicate, length-append, part_effect)

pub part_again : (place : Place) (octets : List ℕ) → said_at (part_octets place octets) ≡ Ok (says (GT no_token) ∷ part place octets ∷ [])
part_again place octets = grind (arith, part_said, few_fit, tsdu_read, units_written)

-- ---- a token item that names no token

idle_same : (m : Meaning) → has_no_effect m ≡ true → SameWord (says m) (says (GT no_token))
unfolding respond_word is_empty
idle_same m e = grind arith

-- ---- what is read of the outline

pub numbered_at : (tsdu : List ℕ) (ws : Words) → said_at tsdu ≡ Ok ws → AreNumberedWords ws
unfolding said_at
numbered_at tsdu ws e = grind (arith, units_numbered)

pub read_again : (m : Meaning) → IsSendable m → said_at (written m) ≡ Ok (words_of m)
unfolding said_at
read_again m h =
    let formed = spelled_formed numeral_digits m h.numbered h.addressed in
    grind (arith, spelled_fits, few_fit, numeral_digits, tsdu_read, units_written, said_again)

-- ---- a TSDU and its outline

-- what a TSDU with these words does
abbrev Does : Taker → Words → Count
Does t ws = counted (respond_came t (Ok ws))

abbrev DoesAt : Taker → List ℕ → Count
DoesAt t octets = counted (respond_came t (said_at octets))

either_does : (b : Bool) (t : Taker) (short tsdu : List ℕ) (c : Count) → DoesAt t short ≡ c → DoesAt t tsdu ≡ c
    → DoesAt t (if b then short else tsdu) ≡ c
either_does b t short tsdu c h k = grind arith

-- all that is known of a message and the same without its user data
abbrev pub Bared : Meaning → Option Meaning → Type 0
Bared m o = ((t : Taker) → IfSome o (λ n. word_verdict t (says m) ≡ word_verdict t (says n)))
    × ((t : Taker) (v : Verdict) → IfSome o (λ n. counted (enacted_word t (says m) v) ≡ counted (enacted_word t (says n) v)))
    × IfSome o (λ n. is_restart_word (says m) ≡ is_restart_word (says n)) × IfSome o (λ n. is_second n ≡ is_second m) × IfSome o IsSendable

pub bared : (m : Meaning) → IsNumbered m → Bared m (bare m)
bared m h = (bare_verdict m, grind arith, bare_restart m, bare_second m, bare_sendable m h)

alone_does : (t : Taker) (m : Meaning) (o : Option Meaning) → Bared m o → is_second m ≡ false
    → IfSome o (λ n. DoesAt t (written n) ≡ Does t (says m ∷ []))
alone_does t m None b e = tt
alone_does t m (Some n) b e =
    grind (arith, read_again n b.4, alone_same t (says m) (says n) (same_by m n b.0 b.1 b.2), same_by m n b.0 b.1 b.2)

pair_does : (t : Taker) (item m : Meaning) (o : Option Meaning) → Bared m o → has_no_effect item ≡ true → is_second m ≡ true
    → IfSome o (λ n. DoesAt t (written n) ≡ Does t (says item ∷ says m ∷ []))
pair_does t item m None b i e = tt
pair_does t item m (Some n) b i e = grind (arith, pair_same, read_again n b.4, idle_same item i, same_by m n b.0 b.1 b.2)

outline_does : (t : Taker) (tsdu : List ℕ) (o : Option Meaning) (c : Count) → DoesAt t tsdu ≡ c → IfSome o (λ n. DoesAt t (written n) ≡ c)
    → DoesAt t (outline_as tsdu o) ≡ c
outline_does t tsdu None c h k = h
outline_does t tsdu (Some n) c h k = either_does (nat_le (length (written n)) (length tsdu)) t (written n) tsdu c k h

one_by : (b : Bool) (t : Taker) (tsdu : List ℕ) (m : Meaning) → is_second m ≡ b → said_at tsdu ≡ Ok (says m ∷ [])
    → DoesAt t (if b then tsdu else outline_as tsdu (bare m)) ≡ Does t (says m ∷ [])
one_by true t tsdu m e h = ap (λ (r : Result Words SpduFault). counted (respond_came t r)) h
one_by false t tsdu m e h =
    outline_does t tsdu (bare m) (Does t (says m ∷ [])) (ap (λ (r : Result Words SpduFault). counted (respond_came t r)) h)
    (alone_does t m (bare m) (bared m (numbered_at tsdu (says m ∷ []) h).0) e)

second_by : (b : Bool) (t : Taker) (tsdu : List ℕ) (item m : Meaning) → has_no_effect item ≡ true → is_second m ≡ b
    → said_at tsdu ≡ Ok (says item ∷ says m ∷ [])
    → DoesAt t (if b then outline_as tsdu (bare m) else tsdu) ≡ Does t (says item ∷ says m ∷ [])
second_by false t tsdu item m i e h = ap (λ (r : Result Words SpduFault). counted (respond_came t r)) h
second_by true t tsdu item m i e h =
    outline_does t tsdu (bare m) (Does t (says item ∷ says m ∷ [])) (ap (λ (r : Result Words SpduFault). counted (respond_came t r)) h)
    (pair_does t item m (bare m) (bared m (numbered_at tsdu (says item ∷ says m ∷ []) h).1.0) i e)

behind_does : (t : Taker) (tsdu : List ℕ) (item : Meaning) (w : Word) → has_no_effect item ≡ true → said_at tsdu ≡ Ok (says item ∷ w ∷ [])
    → DoesAt t (outline_behind tsdu w) ≡ Does t (says item ∷ w ∷ [])
behind_does t tsdu item (says m) i h = second_by (is_second m) t tsdu item m i refl h
behind_does t tsdu item (part place octets) i h =
    grind (arith, either_does, pair_same, part_again place (no_data octets), idle_same item i, part_same place octets)

taken_by : (t : Taker) (tsdu : List ℕ) (read : Result Words SpduFault) → said_at tsdu ≡ read
    → DoesAt t (outline_by tsdu read) ≡ counted (respond_came t read)
taken_by t tsdu read h = grind (arith, one_by, behind_does)

pub taken_alike : (tsdu : List ℕ) → AreAlike (outline tsdu) tsdu
unfolding outline
taken_alike tsdu t = taken_by t tsdu (said_at tsdu) refl

-- ---- how long an outline is

most_of : (b : Bool) (short tsdu : List ℕ) → nat_le (length short) (length tsdu) ≡ b → length (if b then short else tsdu) ≤ length tsdu
most_of b short tsdu e = grind (arith, leb-true)

either_short : (b : Bool) (x y tsdu : List ℕ) → length x ≤ length tsdu → length y ≤ length tsdu → length (if b then x else y) ≤ length tsdu
either_short b x y tsdu h k = grind arith

behind_short : (tsdu : List ℕ) (w : Word) → length (outline_behind tsdu w) ≤ length tsdu
behind_short tsdu w = grind (arith, either_short, most_of)

short_by : (tsdu : List ℕ) (read : Result Words SpduFault) → length (outline_by tsdu read) ≤ length tsdu
short_by tsdu read = search (arith, either_short, behind_short)

pub outline_no_longer : (tsdu : List ℕ) → length (outline tsdu) ≤ length tsdu
unfolding outline
outline_no_longer tsdu = short_by tsdu (said_at tsdu)

-- ---- what is left out of it

as_written : (tsdu : List ℕ) (o : Option Meaning) (n : Meaning) → o ≡ Some n → length (outline_as tsdu o) ≤ length (written n)
as_written tsdu o n e = grind arith

outline_alone : (tsdu : List ℕ) (m : Meaning) → said_at tsdu ≡ Ok (says m ∷ []) → is_second m ≡ false
    → outline tsdu ≡ outline_as tsdu (bare m)
unfolding outline
outline_alone tsdu m h e = grind arith

after_item : (tsdu : List ℕ) (item : Meaning) (w : Word) → said_at tsdu ≡ Ok (says item ∷ w ∷ []) → has_no_effect item ≡ true
    → outline tsdu ≡ outline_behind tsdu w
unfolding outline
after_item tsdu item w h e = grind arith

outline_second : (tsdu : List ℕ) (item m : Meaning) → said_at tsdu ≡ Ok (says item ∷ says m ∷ []) → has_no_effect item ≡ true
    → is_second m ≡ true
    → outline tsdu ≡ outline_as tsdu (bare m)
outline_second tsdu item m h i e = grind (arith, after_item)

pub alone_outline : (tsdu : List ℕ) (m n : Meaning) → said_at tsdu ≡ Ok (says m ∷ []) → is_second m ≡ false → bare m ≡ Some n
    → length (outline tsdu) ≤ length (written n)
alone_outline tsdu m n h e b = grind (arith, as_written, outline_alone tsdu m h e)

pub behind_outline : (tsdu : List ℕ) (item m n : Meaning) → said_at tsdu ≡ Ok (says item ∷ says m ∷ []) → has_no_effect item ≡ true
    → is_second m ≡ true → bare m ≡ Some n → length (outline tsdu) ≤ length (written n)
behind_outline tsdu item m n h i e b = grind (arith, as_written, outline_second)

whole_data : (octets : List ℕ) → is_second (DT octets) ≡ true
unfolding is_second
whole_data octets = refl

pub data_has_one_outline : (tsdu octets : List ℕ) (item : Meaning) → said_at tsdu ≡ Ok (says item ∷ says (DT octets) ∷ [])
    → has_no_effect item ≡ true → 4 ≤ length tsdu → outline tsdu ≡ 1 ∷ 0 ∷ 1 ∷ 0 ∷ []
data_has_one_outline tsdu octets item h i l = grind (arith, outline_second tsdu item (DT octets) h i (whole_data octets), data_written [])

pub part_has_one_outline : (tsdu octets : List ℕ) (place : Place) (item : Meaning) → said_at tsdu ≡ Ok (says item ∷ part place octets ∷ [])
    → has_no_effect item ≡ true → 7 + length octets ≤ length tsdu → outline tsdu ≡ part_octets place (no_data octets)
part_has_one_outline tsdu octets place item h i l = grind (arith, length-replicate, after_item, le-leb)

-- ---- for the code

-- a TSDU with more than two units stays whole
pub more_stay : (tsdu : List ℕ) (first second third : Contents) (all behind others : Units) → all ≡ second ∷ behind
    → behind ≡ third ∷ others
    → tsdu ≡ outline_by tsdu (Ok (said_by_units (first ∷ all)))
more_stay tsdu first second third all behind others e f = grind arith

pub as_well : {E : Type 0} (r : Result (List ℕ) E) (a b : List ℕ) → a ≡ b → IfOk r (λ o. o ≡ a) → IfOk r (λ o. o ≡ b)
as_well r a b e h = grind arith

-- data in its written form
pub plain_outline : (tsdu user head : List ℕ) → said_at tsdu ≡ Ok (says (GT no_token) ∷ says (DT user) ∷ []) → tsdu ≡ data_octets user
    → ((octets : List ℕ) → written (DT octets) ≡ head ++ octets) → head ≡ outline tsdu
unfolding is_empty
plain_outline tsdu user head h e w = grind (arith, data_has_one_outline, append-nil head, data_written [])
