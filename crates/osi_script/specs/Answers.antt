-- The line of the answer to an event.
use Rattle.std.specs.Prelude.{ℕ, List, ◌++◌, codes}
use Rattle.std.specs.Fmt.{decimal}
use Rattle.osi_carrier.specs.declared.faults.OpenError.{OpenError}
use Rattle.osi_carrier.specs.declared.faults.OpenError.TheVariants as opening
use Rattle.osi_script.specs.declared.sides.Side.{Side}
use Rattle.osi_script.specs.declared.verbs.Verb.{Verb}
use Rattle.osi_script.specs.declared.answers.ConnectRefusal.{ConnectRefusal}
use Rattle.osi_script.specs.declared.answers.ConnectRefusal.TheVariants.{Open, NotSelected, TooLong}
use Rattle.osi_script.specs.declared.answers.LineFault.{LineFault}
use Rattle.osi_script.specs.declared.answers.LineFault.TheVariants.{NotBroken, AlreadyBroken}
use Rattle.osi_script.specs.declared.answers.Answer.{Answer}
use Rattle.osi_script.specs.declared.answers.Answer.TheVariants.{Connecting, ConnectRefused, Called, CallRefused, Carried, Broken, Told, LineRefused, LineFailed}
use Rattle.osi_script.specs.Naming.{call_error_name}
use Rattle.osi_script.specs.Names.{side_name, verb_name}

abbrev pub open_error_name : OpenError → List ℕ
open_error_name opening.NotCaller = codes "NotCaller"
open_error_name opening.Ended = codes "Ended"
open_error_name opening.Negotiating = codes "Negotiating"
open_error_name opening.OneConnection = codes "OneConnection"
open_error_name opening.TooMany = codes "TooMany"
open_error_name opening.ReferencesUsedUp = codes "ReferencesUsedUp"
open_error_name opening.OutOfMemory = codes "OutOfMemory"

abbrev pub refusal_name : ConnectRefusal → List ℕ
refusal_name (Open error) = open_error_name error
refusal_name NotSelected = codes "NotSelected"
refusal_name TooLong = codes "TooLong"

abbrev pub line_fault_name : LineFault → List ℕ
line_fault_name NotBroken = codes "NotBroken"
line_fault_name AlreadyBroken = codes "AlreadyBroken"

-- a call by its side, its connection and its verb
unfoldable pub call_text : Side → ℕ → Verb → List ℕ
call_text side reference verb = side_name side ++ codes " " ++ decimal reference ++ codes " " ++ verb_name verb

unfoldable pub answer_text : Answer → List ℕ
answer_text (Connecting reference) = codes "left connect ok " ++ decimal reference
answer_text (ConnectRefused refusal) = codes "left connect refused " ++ refusal_name refusal
answer_text (Called side reference verb) = call_text side reference verb ++ codes " ok"
answer_text (CallRefused side reference verb error) = call_text side reference verb ++ codes " refused " ++ call_error_name error
answer_text (Carried side octets) = side_name side ++ codes " carried " ++ decimal octets
answer_text Broken = codes "broken"
answer_text (Told side) = side_name side ++ codes " told"
answer_text (LineRefused line) = codes "line " ++ decimal line ++ codes " refused"
answer_text (LineFailed line fault) = codes "line " ++ decimal line ++ codes " " ++ line_fault_name fault

unfoldable pub answer_line : Answer → List ℕ
answer_line a = answer_text a ++ codes "\n"
