-- What sessions hand to the carrier.
use Rattle.std.specs.Prelude.{ℕ, Bool, true, false, List, Option, Some, None}
use Rattle.osi_carrier.specs.Calls.{send_all_error, open_link, sent_all, closed_with}
use Rattle.osi_carrier.specs.State.{State}
use Rattle.osi_carrier.specs.declared.faults.SendError.{SendError}

abbrev pub sent_unless : Option SendError → ℕ → List (List ℕ) → State → State
sent_unless None r tsdus c = sent_all r tsdus c
sent_unless (Some error) r tsdus c = c

-- TSDUs are sent together if the carrier takes them, that is on an open connection
abbrev pub hands : ℕ → List (List ℕ) → State → State
hands r tsdus c = sent_unless (send_all_error tsdus (open_link r c)) r tsdus c

-- A session closes its transport connection with reason 128, or sends TSDUs or nothing; a session that closes sends
-- nothing.
abbrev pub answers_by : Bool → ℕ → List (List ℕ) → State → State
answers_by true r tsdus c = closed_with r 128 c
answers_by false r tsdus c = hands r tsdus c
