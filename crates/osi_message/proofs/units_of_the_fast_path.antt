-- Data, points and confirmations in the form of the fast path.
use Rattle.osi_message.proofs.Vocabulary.{list_all, ne_eqb, and_parts, leb-true, ltb-true, take-append-drop, append-nil, Kind}
use Rattle.osi_message.proofs.Vocabulary.{MinorSyncPoint, MinorSyncAck, Number, number_of, is_group, codes_of, si_of, nothing, put}
use Rattle.osi_message.proofs.Vocabulary.{significant, six_digits, digits_of, is_digit, decimal_from, decimal, numeral, written_code}
use Rattle.osi_message.proofs.Vocabulary.{body_octets, unit_octets, tsdu_octets, tsdu_at, SpduFault, Meaning, DT, GT, MIP, MIA, Place}
use Rattle.osi_message.proofs.Vocabulary.{no_token, says, part, Words, part_head, part_octets, as_message, plain_octets, plain_said}
use Rattle.osi_message.proofs.Vocabulary.{plain_word, data_octets, point_octets, has_zero_in_front, said_by_units, said_if_read, said_at}
use Rattle.osi_message.proofs.Vocabulary.{IsSendable, words_of, with_data, unit_with, unit_of, is_second, behind_tokens, spelled, written}
use Rattle.osi_message.proofs.Vocabulary.{user_data_of, ◌≡◌, ◌∙◌, refl, sym, ap, take, drop, if◌then◌else◌, ℕ, ◌+◌, ◌/◌, ◌%◌, ◌≤◌, ◌<◌}
use Rattle.osi_message.proofs.Vocabulary.{Bool, true, false, List, [], ◌∷◌, length, Some, Result, Ok, eqb, arith, PlainUnit}
use Rattle.osi_message.specs.declared.plain.PlainUnit.TheVariants as plain
use Rattle.osi_message.proofs.numbers_are_those_of_points.{six}

-- ---- the digits of a number

none_there : (x : ℕ) → x % 10 ≡ 0 → eqb (x % 10 + 48) 48 ≡ true
none_there x e = rw e refl

some_there : (x : ℕ) → 0 < x % 10 → eqb (x % 10 + 48) 48 ≡ false
some_there x h = ne_eqb (x % 10 + 48) 48 (λ e. omega arith)

pub digits_1 : (n : ℕ) → n < 10 → digits_of n ≡ (n % 10 + 48) ∷ []
unfolding digits_of significant
digits_1 n to = grind (arith, none_there)

pub digits_2 : (n : ℕ) → 10 ≤ n → n < 100 → digits_of n ≡ (n / 10 % 10 + 48) ∷ (n % 10 + 48) ∷ []
unfolding digits_of significant
digits_2 n from to = grind (arith, none_there, some_there)

pub digits_3 : (n : ℕ) → 100 ≤ n → n < 1000 → digits_of n ≡ (n / 100 % 10 + 48) ∷ (n / 10 % 10 + 48) ∷ (n % 10 + 48) ∷ []
unfolding digits_of significant
digits_3 n from to = grind (arith, none_there, some_there)

pub digits_4 : (n : ℕ) → 1000 ≤ n → n < 10000 → digits_of n ≡ (n / 1000 % 10 + 48) ∷ (n / 100 % 10 + 48) ∷ (n / 10 % 10 + 48) ∷
    (n % 10 + 48) ∷ []
unfolding digits_of significant
digits_4 n from to = grind (arith, none_there, some_there)

pub digits_5 : (n : ℕ) → 10000 ≤ n → n < 100000 → digits_of n ≡ (n / 10000 % 10 + 48) ∷ (n / 1000 % 10 + 48) ∷ (n / 100 % 10 + 48) ∷
    (n / 10 % 10 + 48) ∷ (n % 10 + 48) ∷ []
unfolding digits_of significant
digits_5 n from to = rw (none_there (n / 100000) (omega arith), some_there (n / 10000) (omega arith)) refl

pub digits_6 : (n : ℕ) → 100000 ≤ n → n < 1000000 → digits_of n ≡ (n / 100000 % 10 + 48) ∷ (n / 10000 % 10 + 48) ∷ (n / 1000 % 10 + 48) ∷
    (n / 100 % 10 + 48) ∷ (n / 10 % 10 + 48) ∷ (n % 10 + 48) ∷ []
unfolding digits_of significant
digits_6 n from to = rw (some_there (n / 100000) (omega arith)) refl

kept_short : (b : Bool) (digits kept : List ℕ) → length kept ≤ length digits → (d : ℕ) →
    length (if b then kept else d ∷ digits) ≤ length (d ∷ digits)
kept_short b digits kept h d = grind arith

significant_short : (digits : List ℕ) → length (significant digits) ≤ length digits
unfolding significant
significant_short (d ∷ e ∷ digits) = kept_short (eqb d 48) (e ∷ digits) (significant (e ∷ digits)) (significant_short (e ∷ digits)) d
significant_short _ = omega arith

digits_few : (n : ℕ) → length (digits_of n) ≤ 6
unfolding digits_of
digits_few n = significant_short (six_digits n)

-- ---- the octets of a TSDU

pub data_written : (octets : List ℕ) → written (DT octets) ≡ data_octets octets
unfolding spelled is_second unit_of tsdu_octets unit_octets body_octets codes_of si_of number_of
data_written octets = ap data_octets (append-nil octets)

-- a unit with a number of these digits
abbrev with_number : Kind → List ℕ → List ℕ
with_number kind digits = tsdu_octets (behind_tokens (unit_with kind (with_data [] (put Number digits nothing))))

points_with : (digits : List ℕ) → length digits ≤ 6 → (with_number MinorSyncPoint digits ≡ point_octets 49 digits) ×
    (with_number MinorSyncAck digits ≡ point_octets 50 digits)
unfolding tsdu_octets unit_octets body_octets written_code is_group codes_of si_of number_of
points_with (a ∷ b ∷ c ∷ d ∷ e ∷ f ∷ g ∷ digits) few = absurd (omega arith)
points_with _ few = (refl, refl)

pub point_written : (n : ℕ) → written (MIP true n []) ≡ point_octets 49 (digits_of n)
unfolding spelled is_second unit_of
point_written n = (points_with (digits_of n) (digits_few n)).0

pub ack_written : (n : ℕ) → written (MIA n []) ≡ point_octets 50 (digits_of n)
unfolding spelled is_second unit_of
ack_written n = (points_with (digits_of n) (digits_few n)).1

-- ---- reading

-- of six digits, the first ones may be zeros
six_again : (a b c d e f : ℕ) → list_all is_digit (a ∷ b ∷ c ∷ d ∷ e ∷ f ∷ []) ≡ true →
    six_digits (decimal (a ∷ b ∷ c ∷ d ∷ e ∷ f ∷ [])) ≡ a ∷ b ∷ c ∷ d ∷ e ∷ f ∷ []
unfolding decimal_from
six_again a b c d e f all = grind (arith, six a b c d e f all)

decimal_again : (digits : List ℕ) → length digits ≤ 6 → list_all is_digit digits ≡ true → 0 < length digits →
    has_zero_in_front digits ≡ false
    → digits_of (decimal digits) ≡ digits
unfolding digits_of significant decimal_from
decimal_again (a ∷ []) few all some z = ap significant (six_again 48 48 48 48 48 a all)
decimal_again (a ∷ b ∷ []) few all some z = ap significant (six_again 48 48 48 48 a b all) ∙ rw z refl
decimal_again (a ∷ b ∷ c ∷ []) few all some z = ap significant (six_again 48 48 48 a b c all) ∙ rw z refl
decimal_again (a ∷ b ∷ c ∷ d ∷ []) few all some z = ap significant (six_again 48 48 a b c d all) ∙ rw z refl
decimal_again (a ∷ b ∷ c ∷ d ∷ e ∷ []) few all some z = ap significant (six_again 48 a b c d e all) ∙ rw z refl
decimal_again (a ∷ b ∷ c ∷ d ∷ e ∷ f ∷ []) few all some z = ap significant (six_again a b c d e f all) ∙ rw z refl
decimal_again _ few all some z = absurd (omega arith)

-- if digits without a leading zero give a number, they are the digits of that number
pub read_again : (digits : List ℕ) (n : ℕ) → numeral digits ≡ Some n → has_zero_in_front digits ≡ false → digits_of n ≡ digits
read_again digits n h0 h1 = grind (arith, and_parts, decimal_again, leb-true, ltb-true)

-- ---- the parts of a TSDU

pub data_parts : (tsdu head rest : List ℕ) → head ≡ take 4 tsdu → rest ≡ drop 4 tsdu → head ≡ 1 ∷ 0 ∷ 1 ∷ 0 ∷ [] → tsdu ≡ data_octets rest
data_parts tsdu head rest h r e = grind (arith, take-append-drop)

pub part_parts : (tsdu head rest : List ℕ) (place : Place) → head ≡ take 7 tsdu → rest ≡ drop 7 tsdu → head ≡ part_head place →
    tsdu ≡ part_octets place rest
part_parts tsdu head rest place h r e = grind (arith, take-append-drop)

pub point_parts : (si : ℕ) (tsdu head rest digits : List ℕ) → head ≡ take 6 tsdu → rest ≡ drop 6 tsdu
    → head ≡ 1 ∷ 0 ∷ si ∷ (length rest + 2) ∷ 42 ∷ length rest ∷ [] → digits ≡ rest → tsdu ≡ point_octets si digits
point_parts si tsdu head rest digits h r e d = grind (arith, take-append-drop)

-- ---- the words of plain units

plain_sendable : (p : PlainUnit) → IsSendable (as_message (plain_word p))
unfolding user_data_of
plain_sendable p = grind arith

-- octets in the written form of a message have its words
pub said_whole : ((m : Meaning) → IsSendable m → tsdu_at (written m) ≡ Ok (spelled m)) →
    ((m : Meaning) → IsSendable m → said_by_units (spelled m) ≡ words_of m)
    → (m : Meaning) → IsSendable m → said_at (written m) ≡ Ok (words_of m)
unfolding said_at
said_whole read said m h = ap said_if_read (read m h) ∙ ap {B = Result Words SpduFault} Ok (said m h)

pub said_plain : ((m : Meaning) → IsSendable m → tsdu_at (written m) ≡ Ok (spelled m)) →
    ((m : Meaning) → IsSendable m → said_by_units (spelled m) ≡ words_of m)
    → ((place : Place) (octets : List ℕ) → said_at (part_octets place octets) ≡ Ok (says (GT no_token) ∷ part place octets ∷ []))
    → (p : PlainUnit) (tsdu : List ℕ) → tsdu ≡ plain_octets p → said_at tsdu ≡ Ok (plain_said p)
unfolding is_second
said_plain read said parts (plain.Part place octets) tsdu e = ap said_at e ∙ parts place octets.now
said_plain read said parts (plain.MinorPoint number) tsdu e =
    ap said_at e ∙ said_whole read said (MIP true number.number []) (plain_sendable (plain.MinorPoint number))
said_plain read said parts (plain.MinorAck number) tsdu e =
    ap said_at e ∙ said_whole read said (MIA number.number []) (plain_sendable (plain.MinorAck number))

-- data is read after a GT that names no token
pub said_data : ((m : Meaning) → IsSendable m → tsdu_at (written m) ≡ Ok (spelled m)) →
    ((m : Meaning) → IsSendable m → said_by_units (spelled m) ≡ words_of m)
    → (octets : List ℕ) → said_at (written (DT octets)) ≡ Ok (says (GT no_token) ∷ says (DT octets) ∷ [])
unfolding is_second user_data_of
said_data read said octets = grind (arith, said_whole)

pub data_said : ((m : Meaning) → IsSendable m → tsdu_at (written m) ≡ Ok (spelled m)) →
    ((m : Meaning) → IsSendable m → said_by_units (spelled m) ≡ words_of m)
    → (octets tsdu : List ℕ) → tsdu ≡ data_octets octets → said_at tsdu ≡ Ok (says (GT no_token) ∷ says (DT octets) ∷ [])
data_said read said octets tsdu e = ap said_at (e ∙ sym (data_written octets)) ∙ said_data read said octets
