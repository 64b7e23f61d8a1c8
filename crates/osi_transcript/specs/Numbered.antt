-- The lines of a script that ask for something.
use Rattle.std.specs.Prelude.{ℕ, ◌+◌, List, [], ◌∷◌, Option, Some, None, if◌then◌else◌}
use Rattle.osi_script.specs.Cutting.{lines_of}
use Rattle.osi_script.specs.Scripts.{is_skipped}

-- those of these lines that ask for something, each with its number; the first line has number n
unfoldable pub numbered : ℕ → List (List ℕ) → List (ℕ × List ℕ)
numbered number [] = []
numbered number (line ∷ lines) = if is_skipped line then numbered (number + 1) lines else (number, line) ∷ numbered (number + 1) lines

abbrev pub lines_left : Option (List ℕ) → List (List ℕ)
lines_left None = []
lines_left (Some text) = lines_of text
