-- The rows of a text that are still to be read.
use Rattle.std.specs.Prelude.{ℕ, List, [], Option, Some, None, option_map}
use Rattle.osi_script.specs.Cutting.{lines_of}
use Rattle.osi_report.specs.declared.pieces.Piece.{Piece}
use Rattle.osi_report.specs.declared.pieces.Pieces.{Pieces}
use Rattle.osi_report.specs.Rows.{Row, rows_from}

abbrev pub lines_left : Option (List ℕ) → List (List ℕ)
lines_left None = []
lines_left (Some text) = lines_of text

abbrev pub row : Piece → Row
row p = record { is_tabbed = p.is_tabbed; octets = p.octets.now }

abbrev pub rows_left : Pieces → List Row
rows_left p = rows_from p.is_within (lines_left (option_map (λ text. text.now) p.lines)) p.octets.now
