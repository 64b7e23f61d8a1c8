-- The flow control of class 2: data units are numbered modulo 128, and an AK sets how many may be sent.
use Rattle.std.specs.Prelude.{ℕ, ◌+◌, ◌-◌, ◌%◌, Bool, ◌&&◌, ◌==◌, nat_lt, Result, Ok, Err, if◌then◌else◌}
use Rattle.osi_class.specs.declared.faults.LinkFault.{LinkFault}
use Rattle.osi_class.specs.declared.faults.LinkFault.TheVariants.{OutOfSequence, CreditReduced}

-- `next`: the number of the next unit to be sent; `unacknowledged`: how many were sent and not yet
-- acknowledged; `credit`: how many may be sent now
pub record Sender : Type 0 where
  pub next : ℕ
  pub unacknowledged : ℕ
  pub credit : ℕ

-- `window`: how many units the peer may send ahead; `expected`: the number expected next; `waiting`: how many Acks are
-- due, one for each unit taken, the last of them for the unit before `expected`
pub record Receiver : Type 0 where
  pub window : ℕ
  pub expected : ℕ
  pub waiting : ℕ

pub record Flow : Type 0 where
  pub sender : Sender
  pub receiver : Receiver

abbrev pub fresh_sender : ℕ → Sender
fresh_sender credit = record { next = 0; unacknowledged = 0; credit = credit }

abbrev pub fresh_receiver : ℕ → Receiver
fresh_receiver window = record { window = window; expected = 0; waiting = 0 }

-- the number `ahead` places before this one, modulo 128
abbrev pub steps_before : ℕ → ℕ → ℕ
steps_before number ahead = (number + 128 - ahead) % 128

-- a unit was sent
abbrev pub after_sent : Sender → Sender
after_sent s = record { next = (s.next + 1) % 128; unacknowledged = s.unacknowledged + 1; credit = s.credit - 1 }

-- An AK acknowledges all units before its number, and allows its credit of units from there on. The number must be
-- between the lowest unacknowledged one and the next to be sent, and the upper edge of the window may not move down.
abbrev pub acknowledged : Sender → ℕ → ℕ → Result Sender LinkFault
acknowledged s number credit =
    let left = steps_before s.next number in
    if nat_lt s.unacknowledged left then Err OutOfSequence
    else (if nat_lt credit (s.credit + left) then Err CreditReduced
    else Ok (record { next = s.next; unacknowledged = left; credit = credit - left }))

-- the unit with this number is expected, and the peer has credit for it
abbrev pub is_awaited : Receiver → ℕ → Bool
is_awaited r number = (number == r.expected) && nat_lt r.waiting r.window

-- a unit was taken
abbrev pub after_taken : Receiver → Receiver
after_taken r = record { window = r.window; expected = (r.expected + 1) % 128; waiting = r.waiting + 1 }

-- the number of the first Ack that is due
abbrev pub ack_number : Receiver → ℕ
ack_number r = steps_before r.expected (r.waiting - 1)

-- an Ack was given
abbrev pub after_acked : Receiver → Receiver
after_acked r = record r { waiting = r.waiting - 1 }
