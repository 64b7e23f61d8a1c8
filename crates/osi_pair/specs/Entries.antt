-- The entries of the journal.
use Rattle.std.specs.Prelude.{ℕ, Option, Some, None, Result, Ok, Err}
use Rattle.osi_carrier.specs.declared.ends.EndReason.{EndReason}
use Rattle.osi_carrier.specs.declared.events.Ref.{Ref}
use Rattle.osi_session.specs.Calls.{Call}
use Rattle.osi_session.specs.Shown.{Shown, shown_by}
use Rattle.osi_session.specs.declared.faults.CallError.{CallError}
use Rattle.osi_stack.specs.declared.connecting.ConnectError.{ConnectError}
use Rattle.osi_pair.specs.Asked.{Asked, asked_by, owned_call}
use Rattle.osi_pair.specs.declared.entries.Entry.{Entry as InMemory}
use Rattle.osi_pair.specs.declared.entries.Entry.TheVariants as memory
use Rattle.osi_pair.specs.declared.sides.Side.{Side}

-- the user of the left end requests a connection; a call, and why it is refused, if it is; an indication that a user
-- receives; the end of an end
pub data Entry : Type 0 where
  asks : Asked → (answer : Result ℕ ConnectError) → Entry
  calls : Side → (reference : ℕ) → Call → (error : Option CallError) → Entry
  shows : Side → (reference : ℕ) → Shown → Entry
  ends : Side → EndReason → Entry

abbrev pub answer_by : Result Ref ConnectError → Result ℕ ConnectError
answer_by (Ok reference) = Ok reference.0
answer_by (Err error) = Err error

abbrev pub error_by : {A : Type 0} → Result A CallError → Option CallError
error_by (Ok done) = None
error_by (Err error) = Some error

-- an entry in memory
abbrev pub entry_by : InMemory → Entry
entry_by (memory.Connect asked answer) = asks (asked_by asked.value) (answer_by answer)
entry_by (memory.Call side reference answer request) = calls side reference.0 (owned_call request) (error_by answer)
entry_by (memory.Indication side reference indication) = shows side reference.0 (shown_by indication)
entry_by (memory.End side reason) = ends side reason
