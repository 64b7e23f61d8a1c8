-- What passes as a text is read, character by character, is the capture that its lines and its digits give: for `Hearing::judgement`
-- and `Hearing::feed`.
use Rattle.std.proofs.Common.{◌+◌, ◌*◌, ◌/◌, ◌%◌, if◌then◌else◌, cond}
use Rattle.std.proofs.Math.Seq.{take-add}
use Rattle.std.proofs.lemmas.List.{drop-drop}
use Rattle.std.specs.Option.{option_map}
use Rattle.std.specs.List.{slice_split}
use Rattle.hex.specs.Hex.{hex_digit_value}
use Rattle.osi_listing.specs.Capture.{IsNoCapture, after_octets, digits_of, digits_of_lines, if_digit, is_line_feed}
use Rattle.osi_listing.specs.Capture.{octets_from, with_digit}
use Rattle.osi_listing.proofs.digits_give_octets.{all_are_digits, no_capture_here}
use Rattle.osi_script.specs.Cutting.{lines_of}
use Rattle.osi_report.proofs.Vocabulary.{◌≡◌, ◌∙◌, refl, sym, ap, subst, ℕ, ◌==◌, Bool, true, false, not, List, [], ◌∷◌, ◌++◌, length}
use Rattle.osi_report.proofs.Vocabulary.{take, drop, filter, Option, Some, None, inl, inr, arith, eqb_tells, append_assoc, map-append}
use Rattle.osi_report.proofs.Vocabulary.{flat_map, before_first, is_blank, is_comment_sign, Direction, Capture, of, piece, side_of}
use Rattle.osi_report.proofs.Vocabulary.{digits_on, digits_left, capture_of, rows_of, IsCaptureOf}
use Rattle.osi_report.specs.Rows.{is_tabbed, begun_on, ends_within, rows_from}
use Rattle.osi_report.specs.declared.places.Half.{Half}
use Rattle.osi_report.specs.declared.places.Place.{Place}
use Rattle.osi_report.specs.declared.places.Step.{Step}
use Rattle.osi_report.specs.Passing.{after_passed, digit_read, if_step, if_value, on_line, outside, passed_by, passed_from, quiet, start}

-- ---- by lines

abbrev is_begun : Option Half → Bool
is_begun None = false
is_begun (Some h) = true

abbrev high_of : Option Half → Option ℕ
high_of None = None
high_of (Some h) = Some h.digit

-- the octet that was begun, and those after it
abbrev completed : Option Half → List ℕ → Capture
completed None octets = []
completed (Some h) octets = piece h.direction (take 1 octets)

abbrev behind : Option Half → List ℕ → List ℕ
behind None octets = octets
behind (Some h) octets = drop 1 octets

abbrev side_on : (begins : Bool) → Direction → List ℕ → Direction
side_on true side line = side_of (is_tabbed line)
side_on false side line = side

-- the digits of lines, the first of which begins within a comment, or outside
abbrev digits_in : Bool → List (List ℕ) → List ℕ
digits_in true [] = []
digits_in true (line ∷ lines) = digits_of_lines lines
digits_in false lines = digits_of_lines lines

-- the octets that begin on a line with this many digits, and those on the lines after it
abbrev on_lines : Direction → (within : Bool) → ℕ → List (List ℕ) → List ℕ → Capture
on_lines side within digits lines octets =
    piece side (take (begun_on within digits) octets)
    ++ capture_of (rows_from (ends_within within digits) lines (drop (begun_on within digits) octets))

abbrev by_lines : Place → List (List ℕ) → List ℕ → Capture
by_lines p [] octets = []
by_lines p (line ∷ lines) octets =
    completed p.half octets
    ++ on_lines (side_on p.begins p.direction line) (is_begun p.half) (digits_left p.in_comment line) lines (behind p.half octets)

abbrev all_by_lines : Place → List (List ℕ) → Option Capture
all_by_lines p lines =
    option_map (λ (octets : List ℕ). by_lines p lines octets) (octets_from (digits_in p.in_comment lines) (high_of p.half))

-- ---- small facts

after_none : (o : Option Capture) → after_passed [] o ≡ o
after_none None = refl
after_none (Some x) = refl

-- ---- the end

at_the_end : (side : Direction) (begins comment : Bool) (half : Option Half)
    → passed_from (record { direction = side; begins = begins; in_comment = comment; half = half }) []
    ≡ all_by_lines (record { direction = side; begins = begins; in_comment = comment; half = half }) ([] ∷ [])
at_the_end side true true None = refl
at_the_end side true false None = refl
at_the_end side false true None = refl
at_the_end side false false None = refl
at_the_end side begins true (Some h) = refl
at_the_end side begins false (Some h) = refl

-- ---- a line feed

at_line_feed : (side : Direction) (begins comment : Bool) (half : Option Half) (line : List ℕ) (lines : List (List ℕ))
    → all_by_lines (record { direction = side; begins = true; in_comment = false; half = half }) (line ∷ lines)
    ≡ all_by_lines (record { direction = side; begins = begins; in_comment = comment; half = half }) ([] ∷ line ∷ lines)
at_line_feed side true true None line lines = refl
at_line_feed side true false None line lines = refl
at_line_feed side false true None line lines = refl
at_line_feed side false false None line lines = refl
at_line_feed side true true (Some h) line lines = refl
at_line_feed side true false (Some h) line lines = refl
at_line_feed side false true (Some h) line lines = refl
at_line_feed side false false (Some h) line lines = refl

-- ---- a character of a comment, the sign that begins one, and blanks

in_a_comment : (side : Direction) (begins : Bool) (half : Option Half) (c : ℕ) (line : List ℕ) (lines : List (List ℕ))
    → all_by_lines (record { direction = if begins then side_of (c == 9) else side; begins = false; in_comment = true; half = half })
    (line ∷ lines)
    ≡ all_by_lines (record { direction = side; begins = begins; in_comment = true; half = half }) ((c ∷ line) ∷ lines)
in_a_comment side true None c line lines = refl
in_a_comment side false None c line lines = refl
in_a_comment side true (Some h) c line lines = refl
in_a_comment side false (Some h) c line lines = refl

at_a_sign : (side : Direction) (begins : Bool) (half : Option Half) (line : List ℕ) (lines : List (List ℕ))
    → all_by_lines (record { direction = if begins then side_of (35 == 9) else side; begins = false; in_comment = true; half = half })
    (line ∷ lines)
    ≡ all_by_lines (record { direction = side; begins = begins; in_comment = false; half = half }) ((35 ∷ line) ∷ lines)
at_a_sign side true None line lines = refl
at_a_sign side false None line lines = refl
at_a_sign side true (Some h) line lines = refl
at_a_sign side false (Some h) line lines = refl

same_lines : (f : ℕ → List ℕ → Capture) (d e : ℕ) (ds es : List ℕ) (high : Option ℕ) → d ≡ e → ds ≡ es
    → option_map (f d) (octets_from ds high) ≡ option_map (f e) (octets_from es high)
same_lines f d e ds es high p q =
    ap (λ (n : ℕ). option_map (f n) (octets_from ds high)) p ∙ ap (λ (xs : List ℕ). option_map (f e) (octets_from xs high)) q

kept : (c : ℕ) (line : List ℕ) → is_comment_sign c ≡ false → before_first is_comment_sign (c ∷ line) ≡ c ∷ before_first is_comment_sign line
kept c line h = grind arith

-- the digits of a line, by whether its first character is one
abbrev with_first : (is_digit : Bool) → ℕ → List ℕ → List ℕ
with_first is_digit c digits = cond is_digit (c ∷ digits) digits

first_of_line : (c : ℕ) (line : List ℕ) (lines : List (List ℕ)) → is_comment_sign c ≡ false
    → digits_of_lines ((c ∷ line) ∷ lines) ≡ with_first (not (is_blank c)) c (digits_of_lines (line ∷ lines))
first_of_line c line lines e =
    ap (λ (xs : List ℕ). filter (λ x. not (is_blank x)) (xs ++ flat_map (before_first is_comment_sign) lines)) (kept c line e)

first_on_line : (c : ℕ) (line : List ℕ) → is_comment_sign c ≡ false
    → digits_on (c ∷ line) ≡ length (with_first (not (is_blank c)) c (filter (λ x. not (is_blank x)) (before_first is_comment_sign line)))
first_on_line c line e = ap (λ (xs : List ℕ). length (filter (λ x. not (is_blank x)) xs)) (kept c line e)

digits_blank : (c : ℕ) (line : List ℕ) → is_comment_sign c ≡ false → is_blank c ≡ true → digits_on line ≡ digits_on (c ∷ line)
digits_blank c line e b = sym (first_on_line c line e
    ∙ ap (λ (x : Bool). length (with_first (not x) c (filter (λ x. not (is_blank x)) (before_first is_comment_sign line)))) b)

blank_of_lines : (c : ℕ) (line : List ℕ) (lines : List (List ℕ)) → is_comment_sign c ≡ false → is_blank c ≡ true
    → digits_of_lines (line ∷ lines) ≡ digits_of_lines ((c ∷ line) ∷ lines)
blank_of_lines c line lines e b =
    sym (first_of_line c line lines e ∙ ap (λ (x : Bool). with_first (not x) c (digits_of_lines (line ∷ lines))) b)

abbrev row_after : Option Half → Direction → List (List ℕ) → ℕ → List ℕ → Capture
row_after half side lines n octets = completed half octets ++ on_lines side (is_begun half) n lines (behind half octets)

at_a_blank : (side : Direction) (begins : Bool) (half : Option Half) (c : ℕ) (line : List ℕ) (lines : List (List ℕ))
    → is_comment_sign c ≡ false → is_blank c ≡ true
    → all_by_lines (record { direction = if begins then side_of (c == 9) else side; begins = false; in_comment = false; half = half })
    (line ∷ lines)
    ≡ all_by_lines (record { direction = side; begins = begins; in_comment = false; half = half }) ((c ∷ line) ∷ lines)
at_a_blank side true half c line lines e b =
    same_lines (row_after half (side_of (c == 9)) lines) (digits_on line) (digits_on (c ∷ line)) (digits_of_lines (line ∷ lines))
    (digits_of_lines ((c ∷ line) ∷ lines)) (high_of half) (digits_blank c line e b) (blank_of_lines c line lines e b)
at_a_blank side false half c line lines e b =
    same_lines (row_after half side lines) (digits_on line) (digits_on (c ∷ line)) (digits_of_lines (line ∷ lines))
    (digits_of_lines ((c ∷ line) ∷ lines)) (high_of half) (digits_blank c line e b) (blank_of_lines c line lines e b)

-- ---- a digit

map_same : (f g : List ℕ → Capture) (o : Option (List ℕ)) → ((x : List ℕ) → f x ≡ g x) → option_map f o ≡ option_map g o
map_same f g None e = refl
map_same f g (Some x) e = ap Some (e x)

digits_more : (c : ℕ) (line : List ℕ) → is_comment_sign c ≡ false → is_blank c ≡ false → digits_on (c ∷ line) ≡ digits_on line + 1
digits_more c line e b = grind (arith, kept)

digit_of_lines : (c : ℕ) (line : List ℕ) (lines : List (List ℕ)) → is_comment_sign c ≡ false → is_blank c ≡ false
    → digits_of_lines ((c ∷ line) ∷ lines) ≡ c ∷ digits_of_lines (line ∷ lines)
digit_of_lines c line lines e b = grind (arith, cond, kept)

halves : (d : ℕ) → (d + 1 + 1) / 2 ≡ 1 + d / 2
halves d = omega arith

odd_again : (d : ℕ) → ((d + 1) % 2 == 1) ≡ (d % 2 == 0)
odd_again d = grind arith

even_again : (d : ℕ) → ((d + 1) % 2 == 0) ≡ (d % 2 == 1)
even_again d = grind arith

-- the first digit of an octet
first_on : (side : Direction) (d : ℕ) (lines : List (List ℕ)) (octets : List ℕ)
    → piece side (take 1 octets) ++ on_lines side true d lines (drop 1 octets) ≡ on_lines side false (d + 1) lines octets
first_on side d lines octets = rw (halves d, odd_again d, take-add 1 (d / 2) octets, ← drop-drop (d / 2) 1 octets)
    (sym (append_assoc (piece side (take 1 octets)) (piece side (take (d / 2) (drop 1 octets)))
    (capture_of (rows_from (d % 2 == 0) lines (drop (d / 2) (drop 1 octets)))))
    ∙ ap (λ (x : Capture). x ++ capture_of (rows_from (d % 2 == 0) lines (drop (d / 2) (drop 1 octets))))
    (sym (map-append (of side) (take 1 octets) (take (d / 2) (drop 1 octets)))))

-- the second one
second_on : (own side : Direction) (x d : ℕ) (lines : List (List ℕ)) (o : Option (List ℕ))
    → after_passed (of own x ∷ []) (option_map (λ (octets : List ℕ). on_lines side false d lines octets) o)
    ≡ option_map (λ (octets : List ℕ). piece own (take 1 octets) ++ on_lines side true (d + 1) lines (drop 1 octets))
    (after_octets (x ∷ []) o)
second_on own side x d lines None = refl
second_on own side x d lines (Some m) = rw (even_again d) refl

digit_first : (side : Direction) (c v d k : ℕ) (ds es : List ℕ) (lines : List (List ℕ)) → hex_digit_value c ≡ Some v → k ≡ d + 1
    → es ≡ c ∷ ds
    → after_passed [] (option_map (λ (octets : List ℕ). piece side (take 1 octets) ++ on_lines side true d lines (drop 1 octets))
    (octets_from ds (Some v)))
    ≡ option_map (λ (octets : List ℕ). [] ++ on_lines side false k lines octets) (octets_from es None)
digit_first side c v d k ds es lines h n e =
    after_none (option_map (λ (octets : List ℕ). piece side (take 1 octets) ++ on_lines side true d lines (drop 1 octets))
    (octets_from ds (Some v)))
    ∙ map_same (λ (octets : List ℕ). piece side (take 1 octets) ++ on_lines side true d lines (drop 1 octets))
    (λ (octets : List ℕ). [] ++ on_lines side false (d + 1) lines octets) (octets_from ds (Some v)) (first_on side d lines)
    ∙ sym (ap (λ (o : Option ℕ). option_map (λ (octets : List ℕ). [] ++ on_lines side false (d + 1) lines octets)
    (if_digit o (λ (w : ℕ). with_digit None w (octets_from ds)))) h)
    ∙ sym (same_lines (row_after None side lines) k (d + 1) es (c ∷ ds) None n e)

digit_second : (own side : Direction) (high c v d k : ℕ) (ds es : List ℕ) (lines : List (List ℕ)) → hex_digit_value c ≡ Some v → k ≡ d + 1
    → es ≡ c ∷ ds
    → after_passed (of own (high * 16 + v) ∷ []) (option_map (λ (octets : List ℕ). [] ++ on_lines side false d lines octets)
    (octets_from ds None))
    ≡ option_map (λ (octets : List ℕ). piece own (take 1 octets) ++ on_lines side true k lines (drop 1 octets)) (octets_from es (Some high))
digit_second own side high c v d k ds es lines h n e =
    second_on own side (high * 16 + v) d lines (octets_from ds None)
    ∙ sym (ap (λ (o : Option ℕ).
    option_map (λ (octets : List ℕ). piece own (take 1 octets) ++ on_lines side true (d + 1) lines (drop 1 octets))
    (if_digit o (λ (w : ℕ). with_digit (Some high) w (octets_from ds)))) h)
    ∙ sym (ap (λ (m : ℕ). option_map (λ (octets : List ℕ). piece own (take 1 octets) ++ on_lines side true m lines (drop 1 octets))
    (octets_from (c ∷ ds) (Some high))) n)
    ∙ sym (ap (λ (xs : List ℕ). option_map (λ (octets : List ℕ). piece own (take 1 octets) ++ on_lines side true k lines (drop 1 octets))
    (octets_from xs (Some high))) e)

at_a_digit : (side : Direction) (begins : Bool) (half : Option Half) (c v : ℕ) (line : List ℕ) (lines : List (List ℕ))
    → hex_digit_value c ≡ Some v → is_comment_sign c ≡ false → is_blank c ≡ false
    → if_step (Some (digit_read half v
    (record { direction = if begins then side_of (c == 9) else side; begins = false; in_comment = false; half = half })))
    (λ (q : Place). all_by_lines q (line ∷ lines))
    ≡ all_by_lines (record { direction = side; begins = begins; in_comment = false; half = half }) ((c ∷ line) ∷ lines)
at_a_digit side true None c v line lines h e b =
    digit_first (side_of (c == 9)) c v (digits_on line) (digits_on (c ∷ line)) (digits_of_lines (line ∷ lines))
    (digits_of_lines ((c ∷ line) ∷ lines)) lines h (digits_more c line e b) (digit_of_lines c line lines e b)
at_a_digit side false None c v line lines h e b =
    digit_first side c v (digits_on line) (digits_on (c ∷ line)) (digits_of_lines (line ∷ lines))
    (digits_of_lines ((c ∷ line) ∷ lines)) lines h (digits_more c line e b) (digit_of_lines c line lines e b)
at_a_digit side true (Some f) c v line lines h e b =
    digit_second f.direction (side_of (c == 9)) f.digit c v (digits_on line) (digits_on (c ∷ line)) (digits_of_lines (line ∷ lines))
    (digits_of_lines ((c ∷ line) ∷ lines)) lines h (digits_more c line e b) (digit_of_lines c line lines e b)
at_a_digit side false (Some f) c v line lines h e b =
    digit_second f.direction side f.digit c v (digits_on line) (digits_on (c ∷ line)) (digits_of_lines (line ∷ lines))
    (digits_of_lines ((c ∷ line) ∷ lines)) lines h (digits_more c line e b) (digit_of_lines c line lines e b)

-- another character
no_octets : (f : List ℕ → Capture) (c : ℕ) (ds es : List ℕ) (high : Option ℕ) → hex_digit_value c ≡ None → es ≡ c ∷ ds
    → None ≡ option_map f (octets_from es high)
no_octets f c ds es high h e =
    sym (ap (λ (xs : List ℕ). option_map f (octets_from xs high)) e
    ∙ ap (λ (o : Option ℕ). option_map f (if_digit o (λ (w : ℕ). with_digit high w (octets_from ds)))) h)

at_another : (side : Direction) (begins : Bool) (half : Option Half) (c : ℕ) (line : List ℕ) (lines : List (List ℕ))
    → hex_digit_value c ≡ None → is_comment_sign c ≡ false → is_blank c ≡ false
    → None ≡ all_by_lines (record { direction = side; begins = begins; in_comment = false; half = half }) ((c ∷ line) ∷ lines)
at_another side begins half c line lines h e b =
    no_octets (by_lines (record { direction = side; begins = begins; in_comment = false; half = half }) ((c ∷ line) ∷ lines)) c
    (digits_of_lines (line ∷ lines)) (digits_of_lines ((c ∷ line) ∷ lines)) (high_of half) h (digit_of_lines c line lines e b)

-- ---- any character of a line

abbrev line_place : Direction → Bool → Bool → Option Half → ℕ → Place
line_place side begins comment half c =
    record { direction = if begins then side_of (c == 9) else side; begins = false; in_comment = comment; half = half }

by_value : (side : Direction) (begins : Bool) (half : Option Half) (c : ℕ) (line : List ℕ) (lines : List (List ℕ)) (o : Option ℕ)
    → hex_digit_value c ≡ o → is_comment_sign c ≡ false → is_blank c ≡ false
    → if_step (if_value o (line_place side begins false half c)) (λ (q : Place). all_by_lines q (line ∷ lines))
    ≡ all_by_lines (record { direction = side; begins = begins; in_comment = false; half = half }) ((c ∷ line) ∷ lines)
by_value side begins half c line lines None h e b = at_another side begins half c line lines h e b
by_value side begins half c line lines (Some v) h e b = at_a_digit side begins half c v line lines h e b

by_blank : (side : Direction) (begins : Bool) (half : Option Half) (c : ℕ) (line : List ℕ) (lines : List (List ℕ)) (b : Bool)
    → is_blank c ≡ b → is_comment_sign c ≡ false
    → if_step (if b then Some (quiet (line_place side begins false half c))
    else if_value (hex_digit_value c) (line_place side begins false half c))
    (λ (q : Place). all_by_lines q (line ∷ lines))
    ≡ all_by_lines (record { direction = side; begins = begins; in_comment = false; half = half }) ((c ∷ line) ∷ lines)
by_blank side begins half c line lines true b e =
    after_none (all_by_lines (line_place side begins false half c) (line ∷ lines)) ∙ at_a_blank side begins half c line lines e b
by_blank side begins half c line lines false b e = by_value side begins half c line lines (hex_digit_value c) refl e b

by_sign : (side : Direction) (begins : Bool) (half : Option Half) (c : ℕ) (line : List ℕ) (lines : List (List ℕ))
    → if_step (outside c (line_place side begins false half c)) (λ (q : Place). all_by_lines q (line ∷ lines))
    ≡ all_by_lines (record { direction = side; begins = begins; in_comment = false; half = half }) ((c ∷ line) ∷ lines)
by_sign side begins half c line lines = elim (eqb_tells c 35) [
  | inl e ↦ subst (λ (x : ℕ). if_step (outside x (line_place side begins false half x)) (λ (q : Place). all_by_lines q (line ∷ lines))
      ≡ all_by_lines (record { direction = side; begins = begins; in_comment = false; half = half }) ((x ∷ line) ∷ lines)) (sym e.1)
      (after_none (all_by_lines (line_place side begins true half 35) (line ∷ lines)) ∙ at_a_sign side begins half line lines)
  | inr n ↦ ap (λ (s : Bool). if_step (if s then Some (quiet (record (line_place side begins false half c) { in_comment = true }))
      else (if is_blank c then Some (quiet (line_place side begins false half c))
      else if_value (hex_digit_value c) (line_place side begins false half c)))
      (λ (q : Place). all_by_lines q (line ∷ lines))) n.0
      ∙ by_blank side begins half c line lines (is_blank c) refl n.0
]

by_comment : (side : Direction) (begins comment : Bool) (half : Option Half) (c : ℕ) (line : List ℕ) (lines : List (List ℕ))
    → if_step (on_line c (line_place side begins comment half c)) (λ (q : Place). all_by_lines q (line ∷ lines))
    ≡ all_by_lines (record { direction = side; begins = begins; in_comment = comment; half = half }) ((c ∷ line) ∷ lines)
by_comment side begins true half c line lines =
    after_none (all_by_lines (line_place side begins true half c) (line ∷ lines)) ∙ in_a_comment side begins half c line lines
by_comment side begins false half c line lines = by_sign side begins half c line lines

-- ---- a text

feed_splits : (c : ℕ) (text : List ℕ) → is_line_feed c ≡ true → slice_split is_line_feed (c ∷ text) ≡ [] ∷ slice_split is_line_feed text
feed_splits c text e = grind (arith, cond)

line_splits : (c : ℕ) (text line : List ℕ) (lines : List (List ℕ)) → is_line_feed c ≡ false → slice_split is_line_feed text ≡ line ∷ lines
    → slice_split is_line_feed (c ∷ text) ≡ (c ∷ line) ∷ lines
line_splits c text line lines e h = grind (arith, cond)

split_at : (c : ℕ) (text : List ℕ) (b : Bool) → is_line_feed c ≡ b
    → ((line : List ℕ) × (lines : List (List ℕ)) × (slice_split is_line_feed text ≡ line ∷ lines))
    → (line : List ℕ) × (lines : List (List ℕ)) × (slice_split is_line_feed (c ∷ text) ≡ line ∷ lines)
split_at c text true e h = ([], slice_split is_line_feed text, feed_splits c text e)
split_at c text false e h = (c ∷ h.0, h.1, line_splits c text h.0 h.1 e h.2)

split_some : (text : List ℕ) → (line : List ℕ) × (lines : List (List ℕ)) × (slice_split is_line_feed text ≡ line ∷ lines)
split_some [] = ([], [], refl)
split_some (c ∷ text) = split_at c text (is_line_feed c) refl (split_some text)

same_after : (s : Option Step) (f g : Place → Option Capture) → ((q : Place) → f q ≡ g q) → if_step s f ≡ if_step s g
same_after None f g e = refl
same_after (Some s) f g e = ap (after_passed (passed_by s.passing)) (e s.place)

abbrev Passes : List ℕ → Type 0
Passes text = (p : Place) → passed_from p text ≡ all_by_lines p (slice_split is_line_feed text)

at_feed : (text : List ℕ) → Passes text → Passes (10 ∷ text)
at_feed text h p =
    let q : Place = record { direction = p.direction; begins = true; in_comment = false; half = p.half } in
    let some = split_some text in
    after_none (passed_from q text) ∙ h q
    ∙ subst (λ (ls : List (List ℕ)). all_by_lines q ls ≡ all_by_lines p ([] ∷ ls)) (sym some.2)
    (at_line_feed p.direction p.begins p.in_comment p.half some.0 some.1)

on_a_line : (c : ℕ) (text : List ℕ) → is_line_feed c ≡ false → Passes text → Passes (c ∷ text)
on_a_line c text e h p =
    let some = split_some text in
    let q : Place = line_place p.direction p.begins p.in_comment p.half c in
    ap (λ (b : Bool). if_step (if b then Some (quiet (record p { begins = true; in_comment = false })) else on_line c q)
    (λ (r : Place). passed_from r text)) e
    ∙ same_after (on_line c q) (λ (r : Place). passed_from r text) (λ (r : Place). all_by_lines r (slice_split is_line_feed text)) h
    ∙ subst (λ (ls : List (List ℕ)). if_step (on_line c q) (λ (r : Place). all_by_lines r ls)
    ≡ all_by_lines p (slice_split is_line_feed (c ∷ text)))
    (sym some.2)
    (by_comment p.direction p.begins p.in_comment p.half c some.0 some.1
    ∙ ap (all_by_lines p) (sym (line_splits c text some.0 some.1 e some.2)))

one_more : (c : ℕ) (text : List ℕ) (p : Place) → Passes text
    → passed_from p (c ∷ text) ≡ all_by_lines p (slice_split is_line_feed (c ∷ text))
one_more c text p h = elim (eqb_tells c 10) [
  | inl e ↦ subst (λ (x : ℕ). passed_from p (x ∷ text) ≡ all_by_lines p (slice_split is_line_feed (x ∷ text))) (sym e.1) (at_feed text h p)
  | inr n ↦ on_a_line c text n.0 h p
]

pub passes : (text : List ℕ) (p : Place) → passed_from p text ≡ all_by_lines p (slice_split is_line_feed text)
passes [] p = at_the_end p.direction p.begins p.in_comment p.half
passes (c ∷ text) p = one_more c text p (passes text)

-- ---- the capture

after_no_octets : (o : Option (List ℕ)) → after_octets [] o ≡ o
after_no_octets None = refl
after_no_octets (Some x) = refl

-- the rows of a text, by its first line and the others
by_rows : (text octets : List ℕ) (capture : Capture)
    → ((line : List ℕ) × (lines : List (List ℕ)) × (slice_split is_line_feed text ≡ line ∷ lines))
    → Some (by_lines start (slice_split is_line_feed text) octets) ≡ Some capture → capture_of (rows_of text octets) ≡ capture
unfolding lines_of
by_rows text octets capture some h =
    subst (λ (ls : List (List ℕ)). Some (by_lines start ls octets) ≡ Some capture → capture_of (rows_from false ls octets) ≡ capture)
    (sym some.2) (λ (k : Some (by_lines start (some.0 ∷ some.1) octets) ≡ Some capture). cc) h

-- by the octets of its digits
captured_by : (text : List ℕ) (capture : Capture) (o : Option (List ℕ)) → octets_from (digits_of text) None ≡ o
    → ((line : List ℕ) × (lines : List (List ℕ)) × (slice_split is_line_feed text ≡ line ∷ lines))
    → all_by_lines start (slice_split is_line_feed text) ≡ Some capture → IsCaptureOf text capture
unfolding lines_of
captured_by text capture None e some h = absurd (grind (arith, e, h))
captured_by text capture (Some octets) e some h = record {
  octets = octets;
  captured = all_are_digits (digits_of text) octets e;
  passed = sym (by_rows text octets capture some
      (ap (λ (o : Option (List ℕ)). option_map (by_lines start (slice_split is_line_feed text)) o) (sym e) ∙ h));
}

none_read : (text : List ℕ) (o : Option (List ℕ)) → octets_from (digits_of text) None ≡ o
    → all_by_lines start (slice_split is_line_feed text) ≡ None → octets_from (digits_of text) None ≡ None
none_read text None e h = e
none_read text (Some octets) e h = absurd (grind (arith, e, h))

-- what passes is the capture of the text
pub is_capture : (text : List ℕ) (capture : Capture) → passed_from start text ≡ Some capture → IsCaptureOf text capture
unfolding lines_of
is_capture text capture h =
    captured_by text capture (octets_from (digits_of text) None) refl (split_some text) (sym (passes text start) ∙ h)

-- what can't be read is no capture
pub is_none : (text : List ℕ) → passed_from start text ≡ None → IsNoCapture text
is_none [] h = absurd (grind (arith, h))
is_none (c ∷ text) h =
    no_capture_here false None c (c ∷ text) text (c ∷ text) [] refl
    (none_read (c ∷ text) (octets_from (digits_of (c ∷ text)) None) refl (sym (passes (c ∷ text) start) ∙ h))
    (after_no_octets (octets_from (digits_of (c ∷ text)) None))
