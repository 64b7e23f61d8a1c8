-- What can be sent, and its meaning.
use Rattle.std.specs.Prelude.{◌≡◌, ◌<◌, ◌≤◌, ℕ, Bool, true, List, length, map, Option, None, Some, if◌then◌else◌}
use Rattle.osi_spdu.specs.Sizes.{are_sizes}
use Rattle.osi_message.specs.Tokens.{no_token}
use Rattle.osi_message.specs.Meanings.{Meaning, CN, AC, GT}
use Rattle.osi_message.specs.Numbered.{IsNumbered}
use Rattle.osi_message.specs.Reading.{Said, alone, behind}
use Rattle.osi_message.specs.Words.{says, Words}
use Rattle.osi_message.specs.Written.{is_second, user_data_of}

-- data, and everything about points, is sent after a GT with no token
abbrev pub said_of : Meaning → Said
said_of m = if is_second m then behind (GT no_token) m else alone m

abbrev pub words_of : Meaning → Words
words_of m = map says (said_of m)

-- a CN and an AC are of version 2
abbrev pub is_of_version_2 : Meaning → Bool
is_of_version_2 (CN version_2 requirements serial wishes calling called sizes octets) = version_2
is_of_version_2 (AC version_2 requirements serial sides sizes octets) = version_2
is_of_version_2 _ = true

-- each size that a CN or an AC names is 0, or at least 64 octets
abbrev pub is_sized : Meaning → Bool
is_sized (CN version_2 requirements serial wishes calling called sizes octets) = are_sizes sizes
is_sized (AC version_2 requirements serial sides sizes octets) = are_sizes sizes
is_sized _ = true

-- a selector has at most 16 octets
abbrev pub IsAddress : Option (List ℕ) → Type 0
IsAddress None = Unit {0}
IsAddress (Some octets) = length octets ≤ 16

abbrev pub IsAddressed : Meaning → Type 0
IsAddressed (CN version_2 requirements serial wishes calling called sizes octets) = IsAddress calling × IsAddress called
IsAddressed _ = Unit {0}

-- the parameters of a unit have room for the message, its version is 2, and its sizes are ones that a user may give
pub record IsSendable (m : Meaning) : Type 0 where
  pub version : is_of_version_2 m ≡ true
  pub numbered : IsNumbered m
  pub sized : is_sized m ≡ true
  pub addressed : IsAddressed m
  pub short : length (user_data_of m) < 65000
