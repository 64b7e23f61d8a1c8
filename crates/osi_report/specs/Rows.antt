-- The text of a capture of both sides: each line is a piece of one side.
use Rattle.std.specs.Prelude.{◌≡◌, ◌==◌, ℕ, ◌+◌, ◌/◌, ◌%◌, Bool, true, false, not, List, [], ◌∷◌, length, take, drop, filter}
use Rattle.std.specs.List.{before_first, flat_map}
use Rattle.osi_side.specs.declared.directions.Direction.{Direction}
use Rattle.osi_side.specs.declared.directions.Direction.TheVariants.{Left, Right}
use Rattle.osi_side.specs.Captures.{Capture, piece}
use Rattle.osi_listing.specs.Capture.{is_comment_sign, is_blank, Captures}
use Rattle.osi_script.specs.Cutting.{lines_of}

-- the octets of one line, and whether it begins with a tab
pub record Row : Type 0 where
  pub is_tabbed : Bool
  pub octets : List ℕ

abbrev pub is_tabbed : List ℕ → Bool
is_tabbed [] = false
is_tabbed (c ∷ line) = c == 9

-- how many digits are on a line
abbrev pub digits_on : List ℕ → ℕ
digits_on line = length (filter (λ c. not (is_blank c)) (before_first is_comment_sign line))

-- how many are on the rest of a line, in a comment or outside
abbrev pub digits_left : Bool → List ℕ → ℕ
digits_left true line = 0
digits_left false line = digits_on line

-- An octet belongs to the line of its first digit: how many begin on a line with this many digits, which itself begins
-- within an octet or not; and whether the next line does.
abbrev pub begun_on : (is_within : Bool) → ℕ → ℕ
begun_on true digits = digits / 2
begun_on false digits = (digits + 1) / 2

abbrev pub ends_within : (is_within : Bool) → ℕ → Bool
ends_within true digits = digits % 2 == 0
ends_within false digits = digits % 2 == 1

-- the rows of lines, by the octets that begin on them
abbrev pub rows_from : (is_within : Bool) → List (List ℕ) → List ℕ → List Row
rows_from is_within [] octets = []
rows_from is_within (line ∷ lines) octets =
    record { is_tabbed = is_tabbed line; octets = take (begun_on is_within (digits_on line)) octets }
    ∷ rows_from (ends_within is_within (digits_on line)) lines (drop (begun_on is_within (digits_on line)) octets)

abbrev pub rows_of : List ℕ → List ℕ → List Row
rows_of text octets = rows_from false (lines_of text) octets

-- lines that begin with a tab are of the called side, all others of the side that called
abbrev pub side_of : (is_tabbed : Bool) → Direction
side_of false = Left
side_of true = Right

-- the octets that passed, by the rows of a text
abbrev pub capture_of : List Row → Capture
capture_of rows = flat_map (λ (r : Row). piece (side_of r.is_tabbed) r.octets) rows

-- a text is this capture of both sides
pub record IsCaptureOf (text : List ℕ) (capture : Capture) : Type 0 where
  pub octets : List ℕ
  pub captured : Captures text octets
  pub passed : capture ≡ capture_of (rows_of text octets)
