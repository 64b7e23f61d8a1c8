-- The line of the state of a connection at the end.
use Rattle.std.specs.Prelude.{ℕ, List, [], ◌∷◌, ◌++◌, codes}
use Rattle.std.specs.Fmt.{decimal}
use Rattle.hex.specs.Hex.{encode_lower}
use Rattle.osi_spdu.specs.Fields.{bits_of}
use Rattle.osi_script.specs.declared.standing.Standing.{Standing}
use Rattle.osi_script.specs.Naming.{phase_name}
use Rattle.osi_script.specs.Names.{side_name}

-- a side and a connection, the phase, the tokens
unfoldable pub standing_text : Standing → List ℕ
standing_text s =
    side_name s.side ++ codes " " ++ decimal s.reference ++ codes " phase " ++ phase_name s.phase
    ++ codes " held " ++ encode_lower (bits_of s.held ∷ [])

-- the next number, the lowest that is not confirmed, and the lowest for a restart
unfoldable pub standing_numbers : Standing → List ℕ
standing_numbers s =
    codes " next " ++ decimal s.next_serial ++ codes " below " ++ decimal s.confirmed_below
    ++ codes " lowest " ++ decimal s.lowest_restart

unfoldable pub standing_line : Standing → List ℕ
standing_line s = standing_text s ++ standing_numbers s ++ codes "\n"
