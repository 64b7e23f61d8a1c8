-- What is written of a meaning means it.
use Rattle.osi_message.proofs.Vocabulary.{ResyncType, number_of, digits_of, numeral, two_octets, resync_octet, no_token, Meaning, GT}
use Rattle.osi_message.proofs.Vocabulary.{IsSmall, IsNumbered, two_in, serial_in, number_in, resync_named, meaning, word, said_by_units}
use Rattle.osi_message.proofs.Vocabulary.{alone, behind, unit_of, is_second, alone_units, behind_tokens, spelled, words_of, is_of_version_2}
use Rattle.osi_message.proofs.Vocabulary.{says, ◌≡◌, ap, ℕ, ◌≤◌, Bool, true, map, Option, Some, option_map, unwrap_or, if◌then◌else◌, arith}
use Rattle.osi_message.proofs.a_field_reads_back.{setting_again}
use Rattle.osi_message.proofs.the_octet_of_a_set_of_tokens.{named_octet}

-- numbers are read from the digits that they are written in
abbrev pub HaveDigits : Type 0
HaveDigits = (n : ℕ) → n ≤ 999999 → numeral (digits_of n) ≡ Some n

two_again : (n : ℕ) → two_in (two_octets n) ≡ n
two_again n = omega arith

serial_again : HaveDigits → (serial : Option ℕ) → IsSmall serial → serial_in (option_map digits_of serial) ≡ serial
serial_again digits serial small = grind arith

number_again : HaveDigits → (n : ℕ) → n ≤ 999999 → number_in (Some (digits_of n)) ≡ n
number_again digits n small = ap (λ (o : Option ℕ). unwrap_or o 0) (digits n small)

resync_again : (kind : ResyncType) → resync_named (resync_octet kind) ≡ kind
resync_again kind = grind arith

pub meaning_again : HaveDigits → (m : Meaning) → is_of_version_2 m ≡ true → IsNumbered m → meaning (unit_of m) ≡ m
unfolding meaning unit_of number_of
meaning_again digits m v small = search (arith, two_again, serial_again, setting_again, named_octet, number_again, resync_again)

said_with_place : (b : Bool) (m : Meaning) → meaning (unit_of m) ≡ m
    → word (unit_of m) ≡ says (meaning (unit_of m))
    → said_by_units (if b then behind_tokens (unit_of m) else alone_units (unit_of m)) ≡ map says
    (if b then behind (GT no_token) m else alone m)
unfolding word meaning number_of
said_with_place b m e w = grind arith

-- the unit of a meaning is no part
says_it : (m : Meaning) → word (unit_of m) ≡ says (meaning (unit_of m))
unfolding word unit_of
says_it m = grind arith

-- the words of the units of a meaning
pub said_again : HaveDigits → (m : Meaning) → is_of_version_2 m ≡ true → IsNumbered m → said_by_units (spelled m) ≡ words_of m
unfolding spelled
said_again digits m v small = said_with_place (is_second m) m (meaning_again digits m v small) (says_it m)
