-- Data that is in flight but not next: the session first takes what is ahead of it, while its user makes calls.
use Rattle.std.specs.Prelude.{◌≡◌, ℕ, false, List, [], ◌∷◌, ◌++◌, None}
use Rattle.std.specs.List.{AllByRecursion}
use Rattle.osi_session.specs.Moves.{Input, called, taken, opened, refused, broken, react}
use Rattle.osi_session.specs.Respond.{verdict, is_faulty}
use Rattle.osi_message.specs.Sendable.{said_of}
use Rattle.osi_machine.specs.Floor.{State, Call, HasSerial, DT}
use Rattle.osi_machine.specs.Worlds.{Message, unit, ask, agree, deny, bye, over}

-- the state that one event leaves, and the state that calls leave
abbrev pub left_by : State → Input → State
left_by s input = (react (record { state = s; waiting = None }) input).next.state

abbrev pub after_calls : State → List Call → State
after_calls s [] = s
after_calls s (c ∷ calls) = after_calls (left_by s (called c)) calls

-- the state of the session of a side that takes a message
abbrev pub after_message : State → Message → State
after_message s (unit u) = left_by s (taken (said_of u))
after_message s ask = s
after_message s agree = left_by s opened
after_message s (deny reason) = left_by s (refused reason)
after_message s (bye reason) = left_by s broken
after_message s over = s

-- data is no fault
abbrev pub IsCalm : State → Type 0
IsCalm s = (octets : List ℕ) → is_faulty (verdict s (DT octets)) ≡ false

-- nor is it a fault after these messages, whatever calls the user makes before each of them and after the last
abbrev pub StaysCalm : State → List Message → Type 0
StaysCalm s [] = (calls : List Call) → AllByRecursion HasSerial calls → IsCalm (after_calls s calls)
StaysCalm s (m ∷ ms) = (calls : List Call) → AllByRecursion HasSerial calls → StaysCalm (after_message (after_calls s calls) m) ms

-- data anywhere in flight to a side is no fault once what is ahead of it was taken
abbrev pub IsNoFaultBehind : State → List Message → Type 0
IsNoFaultBehind s messages = (ms : List Message) (octets : List ℕ) (rest : List Message) → messages ≡ ms ++ unit (DT octets) ∷ rest → StaysCalm s ms
