-- Sessions that differ in V(A) alone.
use Rattle.std.specs.Prelude.{ℕ}
use Rattle.osi_session.specs.declared.state.State.{State}
use Rattle.osi_session.specs.Standing.{Seen}

-- the same state with this V(A)
abbrev pub confirmed_to : ℕ → State → State
confirmed_to n s = record s { numbers = record s.numbers { confirmed = n } }

-- the same side with this V(A)
abbrev pub seen_to : ℕ → Seen → Seen
seen_to n s = record s { state = confirmed_to n s.state }
