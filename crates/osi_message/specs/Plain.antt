-- The most common TSDUs: data, a part of it, and a minor point or its confirmation with no parameter but its number.
use Rattle.std.specs.Prelude.{ℕ, ◌+◌, ◌==◌, Bool, true, false, List, [], ◌∷◌, length}
use Rattle.osi_message.specs.declared.plain.PlainUnit.{PlainUnit}
use Rattle.osi_message.specs.declared.plain.PlainUnit.TheVariants as plain
use Rattle.osi_message.specs.Tokens.{no_token}
use Rattle.osi_message.specs.Meanings.{GT, MIP, MIA}
use Rattle.osi_message.specs.Words.{Word, says, part, Words, word_octets}

abbrev pub plain_word : PlainUnit → Word
plain_word (plain.Part place user_octets) = part place user_octets.now
plain_word (plain.MinorPoint number) = says (MIP true number.number [])
plain_word (plain.MinorAck number) = says (MIA number.number [])

-- the octets of its TSDU
abbrev pub plain_octets : PlainUnit → List ℕ
plain_octets p = word_octets (plain_word p)

-- what its TSDU means
abbrev pub plain_said : PlainUnit → Words
plain_said p = says (GT no_token) ∷ plain_word p ∷ []

-- a GT that names no token, a DT, and its octets
abbrev pub data_octets : List ℕ → List ℕ
data_octets octets = 1 ∷ 0 ∷ 1 ∷ 0 ∷ octets

-- a GT that names no token, and a unit with a number of these digits
abbrev pub point_octets : ℕ → List ℕ → List ℕ
point_octets si digits = 1 ∷ 0 ∷ si ∷ (2 + length digits) ∷ 42 ∷ length digits ∷ digits

-- a zero before another digit
abbrev pub has_zero_in_front : List ℕ → Bool
has_zero_in_front [] = false
has_zero_in_front (d ∷ []) = false
has_zero_in_front (d ∷ e ∷ digits) = d == 48
