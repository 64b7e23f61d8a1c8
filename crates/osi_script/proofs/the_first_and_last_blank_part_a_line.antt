-- The first and the last word of a line.
use Rattle.std.proofs.Common.{◌≡◌, ℕ, ◌+◌, ◌-◌, ◌≤◌, List, [], ◌∷◌, None, Some, length, take, drop}
use Rattle.std.specs.List.{slice_get}
use Rattle.memchr.specs.Find.{IsFirstByte, IsLastByte, is_byte}
use Rattle.osi_script.specs.Words.{words_of}
use Rattle.osi_script.proofs.a_text_is_split_at_what_passes.{one_part, first_part, ends_within}
use Rattle.osi_script.proofs.a_text_is_split_at_its_last_element_that_passes.{all_is_last, last_part, stands_within}

pub no_blank : (line : List ℕ) → IsFirstByte (is_byte 32) line None → words_of line ≡ line ∷ []
no_blank line h = one_part (is_byte 32) line h

pub first_blank : (line : List ℕ) (i : ℕ) → IsFirstByte (is_byte 32) line (Some i)
    → words_of line ≡ take i line ∷ words_of (drop (i + 1) line)
first_blank line i h = first_part (is_byte 32) line i h

pub blank_within : (line : List ℕ) (i : ℕ) → IsFirstByte (is_byte 32) line (Some i) → i + 1 ≤ length line
blank_within line i h = ends_within (is_byte 32) line i h

pub no_last_blank : (line : List ℕ) → IsLastByte (is_byte 32) line None → slice_get (words_of line) (length (words_of line) - 1) ≡ Some line
no_last_blank line h = all_is_last (is_byte 32) line h

pub last_blank : (line : List ℕ) (i : ℕ) → IsLastByte (is_byte 32) line (Some i) →
    slice_get (words_of line) (length (words_of line) - 1) ≡ Some (drop (i + 1) line)
last_blank line i h = last_part (is_byte 32) line i h

pub last_blank_within : (line : List ℕ) (i : ℕ) → IsLastByte (is_byte 32) line (Some i) → i + 1 ≤ length line
last_blank_within line i h = stands_within (is_byte 32) line i h
