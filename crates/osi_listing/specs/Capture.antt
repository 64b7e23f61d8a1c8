-- The text of a capture: hexadecimal digits, blanks and comments.
use Rattle.std.specs.Prelude.{◌≡◌, ℕ, ◌+◌, ◌*◌, ◌==◌, ◌||◌, not, Bool, true, false, List, [], ◌∷◌, ◌++◌, filter, Option, Some, None, Ok, IsErr}
use Rattle.std.specs.List.{before_first, flat_map, slice_split}
use Rattle.hex.specs.Hex.{decode_of, hex_digit_value}

-- the character that begins a comment, and the end of a line
abbrev pub is_comment_sign : ℕ → Bool
is_comment_sign c = c == 35

abbrev pub is_line_feed : ℕ → Bool
is_line_feed c = c == 10

-- characters that may occur between digits and mean nothing: a blank, a tab, a carriage return
abbrev pub is_blank : ℕ → Bool
is_blank c = (c == 32) || ((c == 9) || (c == 13))

-- lines without their comments and blanks
abbrev pub digits_of_lines : List (List ℕ) → List ℕ
digits_of_lines lines = filter (λ c. not (is_blank c)) (flat_map (before_first is_comment_sign) lines)

-- a text without them
abbrev pub digits_of : List ℕ → List ℕ
digits_of text = digits_of_lines (slice_split is_line_feed text)

-- the text captures these octets: two digits of either case for each
abbrev pub Captures : List ℕ → List ℕ → Type 0
Captures text octets = decode_of (digits_of text) ≡ Ok octets

-- the text captures no octets
abbrev pub IsNoCapture : List ℕ → Type 0
IsNoCapture text = IsErr (decode_of (digits_of text))

-- the lines after the first
abbrev pub later : List (List ℕ) → List (List ℕ)
later [] = []
later (line ∷ lines) = lines

-- the digits of a text that begins within a comment, or outside
abbrev pub digits_left : Bool → List ℕ → List ℕ
digits_left false text = digits_of text
digits_left true text = digits_of_lines (later (slice_split is_line_feed text))

-- octets, and after them those that follow, if there are any to be had
abbrev pub after_octets : List ℕ → Option (List ℕ) → Option (List ℕ)
after_octets octets None = None
after_octets octets (Some more) = Some (octets ++ more)

-- what a digit gives: the first one of an octet is kept for what follows, and the second one completes the octet
abbrev pub with_digit : Option ℕ → ℕ → (Option ℕ → Option (List ℕ)) → Option (List ℕ)
with_digit None digit following = following (Some digit)
with_digit (Some high) digit following = after_octets ((high * 16 + digit) ∷ []) (following None)

-- the value of a character, if it is a digit, taken further
abbrev pub if_digit : Option ℕ → (ℕ → Option (List ℕ)) → Option (List ℕ)
if_digit None following = None
if_digit (Some digit) following = following digit

-- the octets of digits, after the first digit of an octet or after none; nothing if there is another character, or half an octet
abbrev pub octets_from : List ℕ → Option ℕ → Option (List ℕ)
octets_from [] None = Some []
octets_from [] (Some high) = None
octets_from (c ∷ digits) high = if_digit (hex_digit_value c) (λ digit. with_digit high digit (octets_from digits))
