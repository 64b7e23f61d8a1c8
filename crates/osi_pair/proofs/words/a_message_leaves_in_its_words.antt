-- The words in which a message leaves are that message.
-- For calls.
use Rattle.osi_between.specs.Messages as carrier
use Rattle.osi_message.specs.Words as sent
use Rattle.osi_pair.proofs.Vocabulary.{◌≡◌, refl, sym, ap, subst, ℕ, ◌≤◌, Bool, true, false, List, [], ◌∷◌, ◌++◌, length, map, Some, None}
use Rattle.osi_pair.proofs.Vocabulary.{append_assoc, arith, append-nil, length-append, unit, Meaning, DT, is_parted, words_sent, AreLater}
use Rattle.osi_pair.proofs.Vocabulary.{AreParts, joined, Words, word_octets, First, Middle, Last, is_size, word_in, Word, whole, part}
use Rattle.osi_pair.proofs.Vocabulary.{joins, left_of, AreInOrder, most_data}
use Rattle.osi_pair.proofs.words.added_and_cut_words_are_messages.{AreWords, wholes}

-- a word of the sender, among those in flight
abbrev pub word_of : sent.Word → Word
word_of (sent.says m) = whole (unit m)
word_of (sent.part place octets) = part place octets

-- each word is sent as one TSDU
pub carried_words : (words : Words) → map carrier.message (map word_octets words) ≡ map word_in (map word_of words)
carried_words [] = refl
carried_words (sent.says m ∷ words) = ap (λ l. word_in (whole (unit m)) ∷ l) (carried_words words)
carried_words (sent.part place octets ∷ words) = ap (λ l. word_in (part place octets) ∷ l) (carried_words words)

-- ---- parts

-- the rest of the parts, after what has begun
record AreRest (begun : List ℕ) (words : List Word) (all : List ℕ) : Type 0 where
  joined : joins (Some begun) words ≡ unit (DT all) ∷ []
  left : left_of (Some begun) words ≡ None
  order : AreInOrder (Some begun) words

rest_is : (begun : List ℕ) (words : Words) → AreLater words → length (begun ++ joined words) ≤ most_data →
    AreRest begun (map word_of words) (begun ++ joined words)
rest_is begun (sent.part Last octets ∷ []) later short = grind (arith, append-nil, length)
rest_is begun (sent.part Middle octets ∷ words) later short =
    let front : begun ++ (octets ++ joined words) ≡ (begun ++ octets) ++ joined words = sym (append_assoc begun octets (joined words)) in
    let all = subst (λ (o : List ℕ). length o ≤ most_data) front short in
    let more = rest_is (begun ++ octets) words later all in
    grind (arith, length-append)
rest_is begun words later short = search

parts_are : (words : Words) → AreParts words → length (joined words) ≤ most_data →
    AreWords (map word_of words) (unit (DT (joined words)) ∷ [])
parts_are (sent.part First octets ∷ words) parts short =
    grind (arith, rest_is octets words parts short, length-append octets (joined words))
parts_are words parts short = search

-- ---- a message

word_alone : (limit : ℕ) (m : Meaning) → is_parted limit m ≡ false → words_sent limit m ≡ sent.says m ∷ []
unfolding words_sent
word_alone limit m h = grind arith

-- what the parts mean by the crate below
pub record PartLaws : Type 0 where
  pub parts : (limit : ℕ) (octets : List ℕ) → is_size limit ≡ true → is_parted limit (DT octets) ≡ true →
      AreParts (words_sent limit (DT octets))
  pub joined : (limit : ℕ) (octets : List ℕ) → joined (words_sent limit (DT octets)) ≡ octets

-- a Data has at most this many octets
abbrev pub IsBounded : Meaning → Type 0
IsBounded (DT octets) = length octets ≤ most_data
IsBounded m = Unit {0}

in_parts : PartLaws → (limit : ℕ) (octets : List ℕ) → is_size limit ≡ true → is_parted limit (DT octets) ≡ true →
    length octets ≤ most_data → AreWords (map word_of (words_sent limit (DT octets))) (unit (DT octets) ∷ [])
in_parts laws limit octets size parted short = grind (arith, parts_are)

data_words : PartLaws → (limit : ℕ) (octets : List ℕ) (parted : Bool) → is_parted limit (DT octets) ≡ parted → is_size limit ≡ true →
    length octets ≤ most_data → AreWords (map word_of (words_sent limit (DT octets))) (unit (DT octets) ∷ [])
data_words laws limit octets true e size short = in_parts laws limit octets size e short
data_words laws limit octets false e size short = grind (arith, word_alone, wholes)

pub words_of_message : PartLaws → (limit : ℕ) (m : Meaning) → is_size limit ≡ true → IsBounded m →
    AreWords (map word_of (words_sent limit m)) (unit m ∷ [])
words_of_message laws limit (DT octets) size short = data_words laws limit octets (is_parted limit (DT octets)) refl size short
words_of_message laws limit m size short = grind (arith, word_alone, wholes)
