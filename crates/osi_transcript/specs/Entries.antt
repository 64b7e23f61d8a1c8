-- The lines of the journal's entries.
use Rattle.std.specs.Prelude.{ℕ, List, [], Option, Some, None, Result, Ok, Err}
use Rattle.std.specs.List.{flat_map}
use Rattle.osi_session.specs.Calls.{Call}
use Rattle.osi_session.specs.Calls as call
use Rattle.osi_session.specs.declared.faults.CallError.{CallError}
use Rattle.osi_stack.specs.declared.connecting.ConnectError.{ConnectError}
use Rattle.osi_stack.specs.declared.connecting.ConnectError.TheVariants as connect
use Rattle.osi_pair.specs.Entries.{Entry, asks, calls, shows, ends}
use Rattle.osi_pair.specs.declared.sides.Side.{Side}
use Rattle.osi_pair.specs.declared.sides.Side.TheVariants.{Left, Right}
use Rattle.osi_script.specs.Answers.{answer_line}
use Rattle.osi_script.specs.Shown.{shown_line}
use Rattle.osi_script.specs.declared.answers.Answer.{Answer}
use Rattle.osi_script.specs.declared.answers.Answer.TheVariants.{Connecting, ConnectRefused, Called, CallRefused}
use Rattle.osi_script.specs.declared.answers.ConnectRefusal.{ConnectRefusal}
use Rattle.osi_script.specs.declared.answers.ConnectRefusal.TheVariants as refused
use Rattle.osi_script.specs.declared.sides.Side as script
use Rattle.osi_script.specs.declared.sides.Side.TheVariants as named
use Rattle.osi_script.specs.declared.verbs.Verb.{Verb}
use Rattle.osi_script.specs.declared.verbs.Verb.TheVariants as verb

abbrev pub name_of : Side → script.Side
name_of Left = named.Left
name_of Right = named.Right

abbrev pub verb_of : Call → Verb
verb_of (call.Accept requirements serial sides sizes octets) = verb.Accept
verb_of (call.Refuse refusal) = verb.Refuse
verb_of (call.Data octets) = verb.Data
verb_of (call.Give tokens) = verb.Give
verb_of (call.Please tokens octets) = verb.Please
verb_of (call.Minor confirm octets) = verb.Minor
verb_of (call.MinorConfirm number octets) = verb.MinorConfirm
verb_of (call.Major octets) = verb.Major
verb_of (call.MajorConfirm octets) = verb.MajorConfirm
verb_of (call.Restart number wishes octets) = verb.Restart
verb_of (call.RestartConfirm sides octets) = verb.RestartConfirm
verb_of (call.Release octets) = verb.Release
verb_of (call.ReleaseAccept octets) = verb.ReleaseAccept
verb_of (call.ReleaseRefuse octets) = verb.ReleaseRefuse
verb_of (call.Abort octets) = verb.Abort

abbrev pub refusal_by : ConnectError → ConnectRefusal
refusal_by (connect.Open error) = refused.Open error
refusal_by connect.NotSelected = refused.NotSelected
refusal_by connect.TooLong = refused.TooLong

-- the answer to the left user's request for a connection
abbrev pub connect_answered : Result ℕ ConnectError → Answer
connect_answered (Ok reference) = Connecting reference
connect_answered (Err error) = ConnectRefused (refusal_by error)

-- the answer to a call
abbrev pub call_answered : Side → ℕ → Verb → Option CallError → Answer
call_answered side reference verb None = Called (name_of side) reference verb
call_answered side reference verb (Some error) = CallRefused (name_of side) reference verb error

-- the line of an entry; the entry for the end of an end has none
unfoldable pub entry_text : Entry → List ℕ
entry_text (asks asked answer) = answer_line (connect_answered answer)
entry_text (calls side reference call error) = answer_line (call_answered side reference (verb_of call) error)
entry_text (shows side reference shown) = shown_line (name_of side) reference shown
entry_text (ends side reason) = []

-- the lines of entries
abbrev pub entry_texts : List Entry → List ℕ
entry_texts entries = flat_map entry_text entries
