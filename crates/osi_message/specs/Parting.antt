-- The TSDUs in which a message is sent: one, or for data one for each part.
use Rattle.std.specs.Prelude.{◌≡◌, ℕ, zero, suc, ◌+◌, ◌-◌, ◌≤◌, ◌==◌, Bool, false, not, ◌||◌, if◌then◌else◌, nat_le, List, [], ◌∷◌, ◌++◌, length, take, drop, map, Option, Some, None}
use Rattle.osi_message.specs.declared.places.Place.TheVariants.{First, Middle, Last}
use Rattle.osi_message.specs.Meanings.{Meaning, DT, GT}
use Rattle.osi_message.specs.Tokens.{no_token}
use Rattle.osi_message.specs.Words.{Word, says, part, Words, as_message, word_octets}
use Rattle.osi_message.specs.Written.{written}

-- pieces of `size` octets, the last with the rest
abbrev pub pieces : (fuel size : ℕ) → List ℕ → List (List ℕ)
pieces zero size octets = octets ∷ []
pieces (suc fuel) size octets = if nat_le (length octets) size then octets ∷ [] else take size octets ∷ pieces fuel size (drop size octets)

abbrev pub later_parts : List (List ℕ) → Words
later_parts [] = []
later_parts (octets ∷ []) = part Last octets ∷ []
later_parts (octets ∷ next ∷ others) = part Middle octets ∷ later_parts (next ∷ others)

abbrev pub parts_of : List (List ℕ) → Words
parts_of [] = []
parts_of (octets ∷ others) = part First octets ∷ later_parts others

-- no limit, or a TSDU within it
abbrev pub is_whole : (limit : ℕ) → List ℕ → Bool
is_whole limit octets = (limit == 0) || nat_le (4 + length octets) limit

-- data whose TSDU is longer is sent in parts
abbrev pub is_parted : (limit : ℕ) → Meaning → Bool
is_parted limit (DT octets) = not (is_whole limit octets)
is_parted limit _ = false

-- the words in which a message is sent; a part has seven octets before its data
unfoldable pub words_sent : (limit : ℕ) → Meaning → Words
words_sent limit (DT octets) = if is_whole limit octets then says (DT octets) ∷ [] else parts_of (pieces (length octets) (limit - 7) octets)
words_sent limit m = says m ∷ []

-- the TSDUs in which a message is sent
abbrev pub tsdus_of : (limit : ℕ) → Meaning → List (List ℕ)
tsdus_of limit m = map word_octets (words_sent limit m)

abbrev pub tsdus_sent : (limit : ℕ) → Option Meaning → List (List ℕ)
tsdus_sent limit None = []
tsdus_sent limit (Some m) = tsdus_of limit m

-- one TSDU alone
abbrev pub in_one : Meaning → List (List ℕ)
in_one m = written m ∷ []

-- ---- their properties

-- a first part, others, and the last
abbrev pub AreLater : Words → Type 0
AreLater (part Last octets ∷ []) = Unit {0}
AreLater (part Middle octets ∷ words) = AreLater words
AreLater _ = ⊥

abbrev pub AreParts : Words → Type 0
AreParts (part First octets ∷ words) = AreLater words
AreParts _ = ⊥

-- the octets of data, or of a part of it
abbrev pub data_in : Meaning → List ℕ
data_in (DT octets) = octets
data_in _ = []

-- the octets of data and of parts, joined
abbrev pub joined : Words → List ℕ
joined [] = []
joined (word ∷ words) = data_in (as_message word) ++ joined words

-- a word after a GT that names no token
abbrev pub behind_no_token : Word → Words
behind_no_token word = says (GT no_token) ∷ word ∷ []

-- each TSDU but the last has exactly this many octets, and the last has no more
abbrev pub AreFull : ℕ → List (List ℕ) → Type 0
AreFull limit [] = Unit {0}
AreFull limit (tsdu ∷ []) = length tsdu ≤ limit
AreFull limit (tsdu ∷ next ∷ others) = (length tsdu ≡ limit) × AreFull limit (next ∷ others)
