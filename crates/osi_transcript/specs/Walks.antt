-- The part of a script that has not been read.
use Rattle.std.specs.Prelude.{ℕ, ◌+◌, ◌<◌, ◌^◌, List, length, option_map}
use Rattle.osi_transcript.specs.Numbered.{numbered, lines_left}
use Rattle.osi_transcript.specs.declared.walks.Walk.{Walk}

-- the lines that are left
abbrev pub lines_in : Walk → List (ℕ × List ℕ)
lines_in w = numbered w.number (lines_left (option_map (λ text. text.now) w.rest))

-- the numbers of lines fit a count of octets
abbrev pub IsSmall : Walk → Type 0
IsSmall w = w.number + length (lines_left (option_map (λ text. text.now) w.rest)) < 2 ^ 40
