-- The words of a line, and what a word spells.
use Rattle.std.specs.Prelude.{ℕ, ◌+◌, ◌-◌, ◌*◌, ◌==◌, ◌&&◌, nat_eq, nat_le, Bool, true, false, List, [], ◌∷◌, codes, length, slice_index, Option, Some, None, option_map, if◌then◌else◌}
use Rattle.std.specs.Result.{result_ok}
use Rattle.std.specs.List.{slice_split, list_all}
use Rattle.std.specs.Cmp.Lexicographic.{pointwise}
use Rattle.std.specs.Int.RustNames.{bit_and}
use Rattle.hex.specs.Hex.{decode_of, decode_sized}
use Rattle.osi_spdu.specs.Sizes.{no_sizes}
use Rattle.osi_spdu.specs.Values.{is_size}
use Rattle.osi_spdu.specs.declared.fields.TsduMaximumSize.{TsduMaximumSize}
use Rattle.osi_spdu.specs.declared.settings.TokenSetting.{TokenSetting}
use Rattle.osi_spdu.specs.declared.settings.Wish.{Wish}
use Rattle.osi_spdu.specs.declared.settings.Wish.TheVariants as wish
use Rattle.osi_spdu.specs.declared.settings.Side.{Side}
use Rattle.osi_spdu.specs.declared.settings.Side.TheVariants as side
use Rattle.osi_session.specs.declared.sides.Sides.{Sides}
use Rattle.osi_script.specs.declared.commands.Classes.{Classes}
use Rattle.osi_script.specs.declared.commands.Classes.TheVariants.{Zero, Two, Both}
use Rattle.osi_script.specs.declared.sides.Side.{Side as End}
use Rattle.osi_script.specs.declared.sides.Side.TheVariants.{Left, Right}
use Rattle.osi_script.specs.declared.verbs.Verb.{Verb}
use Rattle.osi_script.specs.Names.{verb_name, all_verbs}

-- a word, and then another, if both are valid
infixl 10 ◌>>=◌
abbrev pub ◌>>=◌ : {A B : Type 0} → Option A → (A → Option B) → Option B
None >>= f = None
Some x >>= f = f x

-- the words of a line, separated by one blank each
abbrev pub words_of : List ℕ → List (List ℕ)
words_of line = slice_split (λ octet. octet == 32) line

-- the only word, if there is exactly one
unfoldable pub only_word : List (List ℕ) → Option (List ℕ)
only_word (word ∷ []) = Some word
only_word other = None

-- the first word, if there are exactly two
unfoldable pub first_of_two : List (List ℕ) → Option (List ℕ)
first_of_two (word ∷ last ∷ []) = Some word
first_of_two other = None

-- the same octets
abbrev pub is : List ℕ → List ℕ → Bool
is word name = pointwise nat_eq word name

abbrev pub is_digit : ℕ → Bool
is_digit octet = nat_le 48 octet && nat_le octet 57

-- the number that the digits give, read after those of n
abbrev pub numeral : ℕ → List ℕ → ℕ
numeral n [] = n
numeral n (digit ∷ digits) = numeral (n * 10 + (digit - 48)) digits

-- that number, if all are digits and it is at most a bound
unfoldable pub number_behind : ℕ → ℕ → List ℕ → Option ℕ
number_behind most n word = if list_all is_digit word && nat_le (numeral n word) most then Some (numeral n word) else None

-- a number of at least one digit, at most a bound
unfoldable pub number_to : ℕ → List ℕ → Option ℕ
number_to most word = if length word == 0 then None else number_behind most 0 word

-- a number between two bounds
abbrev pub number_from_to : ℕ → ℕ → List ℕ → Option ℕ
number_from_to least most word = do
  n ← number_to most word
  if nat_le least n then Some n else None

abbrev pub size_of : List ℕ → Option ℕ
size_of word = number_from_to 7 13 word

abbrev pub window_of : List ℕ → Option ℕ
window_of word = number_from_to 1 15 word

abbrev pub serial_of : List ℕ → Option ℕ
serial_of word = number_to 999999 word

-- the largest TSDU: 0 for no limit, or at least 64 octets
abbrev pub tsdu_size_of : List ℕ → Option ℕ
tsdu_size_of word = do
  n ← number_to 65535 word
  if is_size n then Some n else None

-- the largest TSDUs of the asker and of the answerer, if there are words for them
unfoldable pub sizes_of : List (List ℕ) → Option TsduMaximumSize
sizes_of [] = Some no_sizes
sizes_of (asker ∷ words) = do
  answerer ← only_word words
  a ← tsdu_size_of asker
  b ← tsdu_size_of answerer
  Some (record { from_asker = a; from_answerer = b })

abbrev pub short_of : List ℕ → ℕ
short_of octets = slice_index octets 0 * 256 + slice_index octets 1

-- four hexadecimal digits of either case
unfoldable pub units_of : List ℕ → Option ℕ
units_of word = option_map short_of (result_ok (decode_sized word 2))

-- two hexadecimal digits, all bits of which name tokens
abbrev pub names_tokens : ℕ → Bool
names_tokens bits = bit_and bits 85 == bits

unfoldable pub tokens_of : List ℕ → Option ℕ
tokens_of word = do
  octets ← result_ok (decode_sized word 1)
  if names_tokens (slice_index octets 0) then Some (slice_index octets 0) else None

-- user data: a dash for none, else hexadecimal digits of either case
unfoldable pub data_of : List ℕ → Option (List ℕ)
data_of [] = None
data_of (octet ∷ octets) = if is (octet ∷ octets) (codes "-") then Some [] else result_ok (decode_of (octet ∷ octets))

unfoldable pub classes_of : List ℕ → Option Classes
classes_of word =
    if is word (codes "0") then Some Zero
    else if is word (codes "2") then Some Two
    else if is word (codes "20") then Some Both
    else None

unfoldable pub side_of : List ℕ → Option End
side_of word = if is word (codes "left") then Some Left else if is word (codes "right") then Some Right else None

unfoldable pub answer_of : List ℕ → Option Bool
answer_of word = if is word (codes "yes") then Some true else if is word (codes "no") then Some false else None

-- the first of some verbs that a word names
abbrev pub first_named : List ℕ → List Verb → Option Verb
first_named word [] = None
first_named word (verb ∷ verbs) = if is word (verb_name verb) then Some verb else first_named word verbs

unfoldable pub verb_of : List ℕ → Option Verb
verb_of word = first_named word all_verbs

-- a for the asker, r for the answerer, c for a choice
unfoldable pub wish_of_letter : ℕ → Option Wish
wish_of_letter letter =
    if letter == 97 then Some wish.Asker
    else if letter == 114 then Some wish.Answerer
    else if letter == 99 then Some wish.Choice
    else None

unfoldable pub side_of_letter : ℕ → Option Side
side_of_letter letter = if letter == 97 then Some side.Asker else if letter == 114 then Some side.Answerer else None

-- data, minor, major, release
unfoldable pub wishes_of : List ℕ → Option TokenSetting
wishes_of (a ∷ b ∷ c ∷ d ∷ []) = do
  data_wish ← wish_of_letter a
  minor_wish ← wish_of_letter b
  major_wish ← wish_of_letter c
  release_wish ← wish_of_letter d
  Some (record { data_token = data_wish; minor = minor_wish; major = major_wish; release = release_wish })
wishes_of other = None

unfoldable pub sides_of : List ℕ → Option Sides
sides_of (a ∷ b ∷ c ∷ d ∷ []) = do
  data_side ← side_of_letter a
  minor_side ← side_of_letter b
  major_side ← side_of_letter c
  release_side ← side_of_letter d
  Some (record { data_token = data_side; minor = minor_side; major = major_side; release = release_side })
sides_of other = None
