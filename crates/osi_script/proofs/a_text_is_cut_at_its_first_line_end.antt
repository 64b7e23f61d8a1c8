-- A text is cut at its first line end.
use Rattle.std.proofs.Common.{◌≡◌, ℕ, ◌+◌, ◌≤◌, List, [], ◌∷◌, None, Some, length, take, drop}
use Rattle.memchr.specs.Find.{IsFirstByte, is_byte}
use Rattle.osi_script.specs.Cutting.{is_line_feed, lines_of}
use Rattle.osi_script.proofs.a_text_is_split_at_what_passes.{one_part, first_part, ends_within}

-- no octet of a text ends a line
pub no_end : (text : List ℕ) → IsFirstByte (is_byte 10) text None → lines_of text ≡ text ∷ []
unfolding lines_of
no_end text h = one_part is_line_feed text h

-- the first octet of a text that ends a line
pub first_end : (text : List ℕ) (i : ℕ) → IsFirstByte (is_byte 10) text (Some i) →
    lines_of text ≡ take i text ∷ lines_of (drop (i + 1) text)
unfolding lines_of
first_end text i h = first_part is_line_feed text i h

pub end_within : (text : List ℕ) (i : ℕ) → IsFirstByte (is_byte 10) text (Some i) → i + 1 ≤ length text
end_within text i h = ends_within (is_byte 10) text i h
