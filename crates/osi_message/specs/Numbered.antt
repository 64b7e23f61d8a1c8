-- The numbers in a unit are those that a point may have.
use Rattle.std.specs.Prelude.{ℕ, ◌≤◌, Option, Some, None}
use Rattle.std.specs.List.{AllByRecursion}
use Rattle.osi_message.specs.Meanings.{Meaning, CN, AC, MIP, MIA, MAP, MAA, RS, RA}
use Rattle.osi_message.specs.Reading.{Said}
use Rattle.osi_message.specs.Words.{Word, says, part, Words}

abbrev pub IsSmall : Option ℕ → Type 0
IsSmall None = Unit {0}
IsSmall (Some n) = n ≤ 999999

abbrev pub IsNumbered : Meaning → Type 0
IsNumbered (CN version_2 requirements serial wishes calling called sizes octets) = IsSmall serial
IsNumbered (AC version_2 requirements serial sides sizes octets) = IsSmall serial
IsNumbered (MIP confirm n octets) = n ≤ 999999
IsNumbered (MIA n octets) = n ≤ 999999
IsNumbered (MAP n octets) = n ≤ 999999
IsNumbered (MAA n octets) = n ≤ 999999
IsNumbered (RS kind n wishes octets) = n ≤ 999999
IsNumbered (RA n sides octets) = n ≤ 999999
IsNumbered _ = Unit {0}

abbrev pub AreNumbered : Said → Type 0
AreNumbered said = AllByRecursion IsNumbered said

-- those in a word
abbrev pub IsNumberedWord : Word → Type 0
IsNumberedWord (says m) = IsNumbered m
IsNumberedWord (part place octets) = Unit {0}

abbrev pub AreNumberedWords : Words → Type 0
AreNumberedWords words = AllByRecursion IsNumberedWord words
