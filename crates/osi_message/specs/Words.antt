-- The meaning of a unit of a TSDU: a message, or a part of a Data.
use Rattle.std.specs.Prelude.{ℕ, List, [], ◌∷◌}
use Rattle.osi_message.specs.declared.places.Place.{Place}
use Rattle.osi_message.specs.declared.places.Place.TheVariants.{First, Middle, Last}
use Rattle.osi_message.specs.Meanings.{Meaning, DT}
use Rattle.osi_message.specs.Written.{written}

pub data Word : Type 0 where
  says : (message : Meaning) → Word
  part : (place : Place) (octets : List ℕ) → Word

-- the meanings of the units of a TSDU, in order
abbrev pub Words : Type 0
Words = List Word

-- the message as which a word is judged; a part is judged as data
abbrev pub as_message : Word → Meaning
as_message (says m) = m
as_message (part place octets) = DT octets

-- ---- how a part is written

abbrev pub enclosure_of : Place → ℕ
enclosure_of Middle = 0
enclosure_of First = 1
enclosure_of Last = 2

-- a GT that names no token, and a DT with its enclosure
abbrev pub part_head : Place → List ℕ
part_head place = 1 ∷ 0 ∷ 1 ∷ 3 ∷ 25 ∷ 1 ∷ enclosure_of place ∷ []

-- the octets of a TSDU with a part
abbrev pub part_octets : Place → List ℕ → List ℕ
part_octets place octets = 1 ∷ 0 ∷ 1 ∷ 3 ∷ 25 ∷ 1 ∷ enclosure_of place ∷ octets

-- the octets of a TSDU with a word
abbrev pub word_octets : Word → List ℕ
word_octets (says m) = written m
word_octets (part place octets) = part_octets place octets
