-- The lines of a judgement. Numbers are decimal, tokens hexadecimal.
use Rattle.std.specs.Prelude.{ℕ, false, if◌then◌else◌, List, [], ◌∷◌, ◌++◌, codes, Option, Some, None}
use Rattle.hex.specs.Hex.{encode_lower}
use Rattle.osi_side.specs.declared.directions.Direction.{Direction}
use Rattle.osi_side.specs.declared.readings.Reading.{Reading}
use Rattle.osi_side.specs.declared.rules.Rule.{Rule}
use Rattle.osi_side.specs.declared.rules.Rule.TheVariants as rule
use Rattle.osi_listing.specs.Lines.{number_field}
use Rattle.osi_listing.specs.SessionLines.{session_fault_name, session_fault_offset, session_fault_code}
use Rattle.osi_script.specs.Naming.{phase_name}
use Rattle.osi_session.specs.declared.numbers.Numbers.{Numbers}
use Rattle.osi_session.specs.declared.reactions.Reply.{Reply}
use Rattle.osi_session.specs.Phases.{is_over}
use Rattle.osi_spdu.specs.Fields.{bits_of}
use Rattle.osi_judge.specs.declared.outcomes.SessionState.{SessionState}
use Rattle.osi_judge.specs.declared.outcomes.Violation.{Violation}
use Rattle.osi_report.specs.Names.{side_name, said_name, rule_name, reply_name}

-- a side and its own reference
abbrev pub own_text : Direction → ℕ → List ℕ
own_text d reference = side_name d ++ number_field (codes " ") reference

-- what was read of a side
unfoldable pub reading_line : Direction → Reading → List ℕ
reading_line d r =
    side_name d ++ number_field (codes " packets ") r.packets ++ number_field (codes " octets ") r.octets
    ++ number_field (codes " rest ") r.rest ++ codes "\n"

-- a connection that is aborted or gone has no numbers
abbrev pub numbers_told : SessionState → Numbers
numbers_told s = if is_over s.phase then record { next = 0; confirmed = 0; lowest = 0; answers = false } else s.numbers

-- the state of a session: its phase, its tokens, V(M), V(A) and V(R)
unfoldable pub state_text : SessionState → List ℕ
state_text s =
    codes " phase " ++ phase_name s.phase ++ codes " held " ++ encode_lower (bits_of s.held ∷ [])
    ++ number_field (codes " next ") (numbers_told s).next ++ number_field (codes " below ") (numbers_told s).confirmed
    ++ number_field (codes " lowest ") (numbers_told s).lowest

abbrev pub owes_text : Option Reply → List ℕ
owes_text None = []
owes_text (Some reply) = codes " owes " ++ reply_name reply

-- a side that sent this many TSDUs and kept the protocol, and its state
unfoldable pub kept_line : Direction → (reference tsdus : ℕ) → SessionState → Option Reply → List ℕ
kept_line d reference tsdus s owes =
    own_text d reference ++ number_field (codes " kept ") tsdus ++ state_text s ++ owes_text owes ++ codes "\n"

-- what was sent, and the rule
abbrev pub break_text : Violation → List ℕ
break_text by = said_name by.said ++ codes " " ++ rule_name by.rule

-- how many of the TSDUs that had passed the nearest session had taken, and its state
unfoldable pub knew_line : Direction → (reference : ℕ) → Violation → List ℕ
knew_line d reference by =
    own_text d reference ++ number_field (codes " knew ") by.taken ++ number_field (codes " of ") by.before
    ++ state_text by.state ++ codes "\n"

-- the fault of a TSDU that is not session units, by its offset in the TSDU
abbrev pub fault_lines : Direction → (reference : ℕ) → Rule → List ℕ
fault_lines d reference (rule.Breach found) = []
fault_lines d reference (rule.Fault fault) =
    own_text d reference ++ number_field (codes " fault ") (session_fault_offset fault) ++ codes " " ++ session_fault_name fault
    ++ session_fault_code fault ++ codes "\n"

-- a side, and the packet with which it did something
unfoldable pub place_text : Direction → (reference : ℕ) → (what : List ℕ) → (offset : ℕ) → List ℕ
place_text d reference what offset = own_text d reference ++ number_field what offset ++ codes " "

-- a side that broke the protocol, with the packet at this offset
unfoldable pub broke_line : Direction → (reference offset : ℕ) → Violation → List ℕ
broke_line d reference offset by = place_text d reference (codes " broke packet ") offset ++ break_text by ++ codes "\n"

unfoldable pub broke_lines : Direction → (reference offset : ℕ) → Violation → List ℕ
broke_lines d reference offset by = broke_line d reference offset by ++ knew_line d reference by ++ fault_lines d reference by.rule

-- a side that left the profile
unfoldable pub outside_text : Violation → List ℕ
outside_text by = said_name by.said ++ codes " Outside\n"

unfoldable pub leaves_line : Direction → (reference offset : ℕ) → Violation → List ℕ
leaves_line d reference offset by = place_text d reference (codes " leaves packet ") offset ++ outside_text by

-- a connection on which no session ran
unfoldable pub without_line : Direction → (reference : ℕ) → List ℕ → List ℕ
without_line d reference what = own_text d reference ++ what ++ codes "\n"
