-- The transcript of a script.
use Rattle.std.specs.Prelude.{◌≡◌, ℕ, List, [], ◌∷◌, ◌++◌, drop, length, min, ◌⊎◌, Option, Some, None}
use Rattle.osi_class.specs.declared.terms.Local.{Local}
use Rattle.osi_tpdu.specs.Limits.{size_code, window_units}
use Rattle.osi_pair.specs.Ends.{TwoEnds, fresh_ends, reachable}
use Rattle.osi_pair.specs.Events.{misfit, Does}
use Rattle.osi_pair.specs.Reached.{IsReached}
use Rattle.osi_pair.specs.SameEnds.{FoundMemory}
use Rattle.osi_pair.specs.declared.events.Event.{Event}
use Rattle.osi_pair.specs.declared.events.Event.TheVariants as event
use Rattle.osi_pair.specs.declared.faults.PairError.{PairError}
use Rattle.osi_pair.specs.declared.faults.PairError.TheVariants as error
use Rattle.osi_script.specs.Answers.{answer_line}
use Rattle.osi_script.specs.Commands.{Command, Ends, command_of, has_class_0, has_class_2}
use Rattle.osi_script.specs.declared.answers.Answer.TheVariants.{Carried, Broken, Told, LineRefused, LineFailed}
use Rattle.osi_script.specs.declared.answers.LineFault.{LineFault}
use Rattle.osi_script.specs.declared.answers.LineFault.TheVariants as fault
use Rattle.osi_script.specs.declared.commands.Classes.{Classes}
use Rattle.osi_transcript.specs.Asking.{IsEvent}
use Rattle.osi_transcript.specs.Entries.{name_of, entry_texts}
use Rattle.osi_transcript.specs.Standings.{all_standings}

-- ---- one event

-- How many octets an event carries. A carry moves as many as it was asked to, or all if there are fewer.
abbrev pub carried_by : Event → TwoEnds → ℕ
carried_by (event.Carry side most) p = min most (reachable side p)
carried_by event p = 0

-- the answer to an event, if its entry does not have it
unfoldable pub event_text : Event → (octets : ℕ) → List ℕ
event_text (event.Connect asked) octets = []
event_text (event.Call side reference request) octets = []
event_text (event.Carry side most) octets = answer_line (Carried (name_of side) octets)
event_text (event.Break left right) octets = answer_line Broken
event_text (event.Told side) octets = answer_line (Told (name_of side))

-- the lines of the new entries of the journal
abbrev pub new_texts : TwoEnds → TwoEnds → List ℕ
new_texts old new = entry_texts (drop (length old.journal) new.journal)

abbrev pub fault_by : PairError → Option LineFault
fault_by error.NotBroken = Some fault.NotBroken
fault_by error.AlreadyBroken = Some fault.AlreadyBroken
fault_by error.OutOfMemory = None

abbrev pub fault_of : Option PairError → Option LineFault
fault_of None = None
fault_of (Some error) = fault_by error

-- An event that fits is applied whole, and no side has ended because memory ran out. The two ends are then at steps of
-- the machine, as those of every pair are.
pub record IsApplied (event : Event) (old new : TwoEnds) : Type 0 where
  pub fits : misfit event old ≡ None
  pub does : Does event old (carried_by event old) new
  pub memory : FoundMemory new
  pub reached : IsReached new

-- ---- the end of a script

-- all lines were read: the last lines give the states of connections
pub record Finishes (p : TwoEnds) (text : List ℕ) (status : ℕ) : Type 0 where
  pub stands : text ≡ all_standings p
  pub good : status ≡ 0

-- a line that can't be read
pub record RefusesLine (number : ℕ) (text : List ℕ) (status : ℕ) : Type 0 where
  pub says : text ≡ answer_line (LineRefused number)
  pub bad : status ≡ 1

-- the event of a line does not fit after those before it
pub record FailsAt (number : ℕ) (event : Event) (p : TwoEnds) (text : List ℕ) (status : ℕ) : Type 0 where
  pub why : LineFault
  pub misfit : fault_of (misfit event p) ≡ Some why
  pub says : text ≡ answer_line (LineFailed number why)
  pub bad : status ≡ 1

-- ---- the lines of a script, one after the other

abbrev pub Lines : Type 0
Lines = List (ℕ × List ℕ)

-- the text and the status of the lines after one
abbrev pub Rest : Type 1
Rest = TwoEnds → List ℕ → ℕ → Type 0

-- an event that fits is applied, and the rest of the lines follows; or it does not fit
abbrev pub Applies : ℕ → Event → Rest → TwoEnds → List ℕ → ℕ → Type 0
Applies number event rest p text status =
    ((new : TwoEnds) × (more : List ℕ) × IsApplied event p new
    × (text ≡ event_text event (carried_by event p) ++ new_texts p new ++ more) × rest new more status)
    ⊎ FailsAt number event p text status

-- a line that can be read and is not that of the two ends asks for an event
abbrev pub PlaysLine : ℕ → Option Command → Rest → TwoEnds → List ℕ → ℕ → Type 0
PlaysLine number None rest p text status = RefusesLine number text status
PlaysLine number (Some (Ends caller called size window)) rest p text status = RefusesLine number text status
PlaysLine number (Some command) rest p text status = (event : Event) × IsEvent command event × Applies number event rest p text status

abbrev pub Plays : Lines → TwoEnds → List ℕ → ℕ → Type 0
Plays [] p text status = Finishes p text status
Plays ((number, line) ∷ lines) p text status = PlaysLine number (command_of line) (Plays lines) p text status

-- ---- the first line

-- what an end supports
pub record IsLocal (classes : Classes) (code units : ℕ) (local : Local) : Type 0 where
  pub class0 : local.class0 ≡ has_class_0 classes
  pub class2 : local.class2 ≡ has_class_2 classes
  pub size : size_code local.size ≡ code
  pub window : window_units local.window ≡ units

-- two ends of these classes, on which nothing has happened
pub record Starts (caller called : Classes) (size window : ℕ) (p : TwoEnds) : Type 0 where
  pub left : Local
  pub right : Local
  pub is_left : IsLocal caller size window left
  pub is_right : IsLocal called size window right
  pub fresh : p ≡ fresh_ends left right

-- the first line declares the two ends
abbrev pub BeginsWith : ℕ → Option Command → Lines → List ℕ → ℕ → Type 0
BeginsWith number (Some (Ends caller called size window)) lines text status = (p : TwoEnds) × Starts caller called size window p × Plays lines p text status
BeginsWith number other lines text status = RefusesLine number text status

-- the text and the status of a script; nothing if no line asks for anything
abbrev pub Transcribes : Lines → List ℕ → ℕ → Type 0
Transcribes [] text status = (text ≡ []) × (status ≡ 0)
Transcribes ((number, line) ∷ lines) text status = BeginsWith number (command_of line) lines text status
