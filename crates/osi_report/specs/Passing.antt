-- The octets that pass as the text of a capture of both sides is read, character by character.
use Rattle.std.specs.Prelude.{◌≡◌, ◌==◌, ℕ, ◌+◌, ◌*◌, true, false, if◌then◌else◌, List, [], ◌∷◌, ◌++◌, Option, Some, None}
use Rattle.hex.specs.Hex.{hex_digit_value}
use Rattle.osi_side.specs.declared.directions.Direction.{Direction}
use Rattle.osi_side.specs.declared.directions.Direction.TheVariants.{Left}
use Rattle.osi_side.specs.Captures.{Capture, of, piece}
use Rattle.osi_listing.specs.Capture.{is_blank, is_comment_sign, is_line_feed}
use Rattle.osi_report.specs.declared.places.Half.{Half}
use Rattle.osi_report.specs.declared.places.Passing.{Passing}
use Rattle.osi_report.specs.declared.places.Place.{Place}
use Rattle.osi_report.specs.declared.places.Step.{Step}
use Rattle.osi_report.specs.Rows.{side_of}

-- where a text begins, and where the characters of a line are whose side is known, outside comments and between two octets
abbrev pub start : Place
start = record { direction = Left; begins = true; in_comment = false; half = None }

abbrev pub plain : Direction → Place
plain d = record { direction = d; begins = false; in_comment = false; half = None }

-- the value of the first digit of an octet, if its second is still to come
abbrev pub digit_of : Option Half → ℕ
digit_of None = 0
digit_of (Some h) = h.digit

-- ---- what a character does

abbrev pub quiet : Place → Step
quiet p = record { place = p; passing = None }

-- a digit: the first one of an octet is kept for what follows, and the second one completes the octet, which is of the line of the first
abbrev pub digit_read : Option Half → ℕ → Place → Step
digit_read None v p = quiet (record p { half = Some (record { direction = p.direction; digit = v }) })
digit_read (Some h) v p =
    record { place = record p { half = None }; passing = Some (record { direction = h.direction; octet = h.digit * 16 + v }) }

abbrev pub if_value : Option ℕ → Place → Option Step
if_value None p = None
if_value (Some v) p = Some (digit_read p.half v p)

-- a character of a line outside comments, and one of a line
abbrev pub outside : ℕ → Place → Option Step
outside c p =
    if is_comment_sign c then Some (quiet (record p { in_comment = true }))
    else if is_blank c then Some (quiet p)
    else if_value (hex_digit_value c) p

abbrev pub on_line : ℕ → Place → Option Step
on_line c p = if p.in_comment then Some (quiet p) else outside c p

-- the side of a line, by its first character
abbrev pub side_at : ℕ → Place → Direction
side_at c p = if p.begins then side_of (c == 9) else p.direction

-- any character, unless it can't be read
abbrev pub step_of : Place → ℕ → Option Step
step_of p c =
    if is_line_feed c then Some (quiet (record p { begins = true; in_comment = false }))
    else on_line c (record p { begins = false; direction = side_at c p })

-- ---- what passes

abbrev pub passed_by : Option Passing → Capture
passed_by None = []
passed_by (Some o) = of o.direction o.octet ∷ []

-- octets that pass, and after them those that follow, unless these can't be read
abbrev pub after_passed : Capture → Option Capture → Option Capture
after_passed passed None = None
after_passed passed (Some more) = Some (passed ++ more)

abbrev pub if_step : Option Step → (Place → Option Capture) → Option Capture
if_step None following = None
if_step (Some s) following = after_passed (passed_by s.passing) (following s.place)

-- at the end of the text: half an octet is none
abbrev pub at_end : Option Half → Option Capture
at_end None = Some []
at_end (Some h) = None

-- all that passes from here on to the end of the text; nothing if it can't be read
abbrev pub passed_from : Place → List ℕ → Option Capture
passed_from p [] = at_end p.half
passed_from p (c ∷ text) = if_step (step_of p c) (λ q. passed_from q text)

-- ---- octets that are read at once

-- a text ends with this rest
abbrev pub EndsWith : List ℕ → List ℕ → Type 0
EndsWith text rest = (used : List ℕ) × (text ≡ used ++ rest)

-- octets of a line have been read, and this rest of the text passes after them: what passes is the same
abbrev pub PassesTo : List ℕ → List ℕ → List ℕ → List ℕ → Type 0
PassesTo text old new rest = (d : Direction) (more : List ℕ) →
    after_passed (piece d new) (passed_from (plain d) (rest ++ more)) ≡ after_passed (piece d old) (passed_from (plain d) (text ++ more))
