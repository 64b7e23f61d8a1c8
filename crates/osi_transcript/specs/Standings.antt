-- The states of connections at the end of a script.
use Rattle.std.specs.Prelude.{ℕ, zero, suc, List, [], ◌++◌, Option, Some, None, if◌then◌else◌}
use Rattle.osi_message.specs.Tokens.{token_octet}
use Rattle.osi_session.specs.Phases.{is_ended}
use Rattle.osi_session.specs.declared.numbers.Numbers.{Numbers}
use Rattle.osi_session.specs.declared.phases.Phase.{Phase}
use Rattle.osi_stack.specs.Calls.{held_by, phase_at, numbers_of}
use Rattle.osi_stack.specs.State.{End, session_at}
use Rattle.osi_pair.specs.Ends.{TwoEnds}
use Rattle.osi_pair.specs.declared.sides.Side.{Side}
use Rattle.osi_pair.specs.declared.sides.Side.TheVariants.{Left, Right}
use Rattle.osi_script.specs.Standing.{standing_line}
use Rattle.osi_script.specs.declared.sides.Side as script
use Rattle.osi_transcript.specs.Entries.{name_of}

-- the line of a state: tokens by their octet, and V(M), V(A) and V(R)
unfoldable pub stand : script.Side → (reference : ℕ) → Phase → (held next below lowest : ℕ) → List ℕ
stand side reference phase held next below lowest = standing_line (record {
  side = side;
  reference = reference;
  phase = phase;
  held = record { 0 = held };
  next_serial = next;
  confirmed_below = below;
  lowest_restart = lowest;
})

abbrev pub stands_with : Side → (reference : ℕ) → Phase → (held : ℕ) → Numbers → List ℕ
stands_with side reference phase held n = stand (name_of side) reference phase held n.next n.confirmed n.lowest

-- a connection that has ended has no line
unfoldable pub phase_text : Side → (reference : ℕ) → End → Phase → List ℕ
phase_text side reference e phase =
    if is_ended phase then [] else stands_with side reference phase (token_octet (held_by (session_at reference e))) (numbers_of (session_at reference e))

abbrev pub text_by : Side → (reference : ℕ) → End → Option Phase → List ℕ
text_by side reference e None = []
text_by side reference e (Some phase) = phase_text side reference e phase

-- the line of a connection; none for one that never existed
unfoldable pub standing_text : Side → (reference : ℕ) → End → List ℕ
standing_text side reference e = text_by side reference e (phase_at reference e)

-- the lines of the connections with the references up to this one
unfoldable pub standing_texts : Side → End → (references : ℕ) → List ℕ
standing_texts side e zero = []
standing_texts side e (suc reference) = standing_texts side e reference ++ standing_text side (suc reference) e

-- the lines of all connections, the left side first
abbrev pub all_standings : TwoEnds → List ℕ
all_standings p = standing_texts Left p.left.end 65535 ++ standing_texts Right p.right.end 65535
