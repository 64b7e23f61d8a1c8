-- The credit in one direction of a connection of class 2 that is open at both ends: what its sender has sent, what is
-- in flight, and what its receiver owes.
use Rattle.std.specs.Prelude.{◌≡◌, ℕ, zero, suc, ◌+◌, ◌-◌, ◌%◌, ◌<◌, ◌≤◌, true, List, [], ◌∷◌, ◌++◌, map, length, Ok}
use Rattle.osi_class.specs.Flow.{Sender, Receiver, fresh_sender, fresh_receiver, after_sent, acknowledged, is_awaited, after_taken, ack_number, after_acked}

-- the numbers of `units` units, the first of which comes after `count` others
abbrev pub numbers : ℕ → ℕ → List ℕ
numbers count zero = []
numbers count (suc units) = (count % 128) ∷ numbers (count + 1) units

-- Acks with these numbers, each of which restores the window
abbrev pub restoring : ℕ → List ℕ → List (ℕ × ℕ)
restoring window ns = map (λ number. (number, window)) ns

-- `units`: the numbers of the data units written and not yet taken; `acks`: number and credit of the
-- Acks written and not yet taken; the oldest first
pub record Direction : Type 0 where
  pub sender : Sender
  pub units : List ℕ
  pub receiver : Receiver
  pub acks : List (ℕ × ℕ)

-- how many units the receiver took without the sender knowing it
abbrev pub unknown : Direction → ℕ
unknown d = length d.acks + d.receiver.waiting

-- units written and not yet taken, Acks due or in flight, and the sender's open credit
abbrev pub owed : Direction → ℕ
owed d = length d.units + unknown d + d.sender.credit

-- both ends agree on what is in flight, if the sender knows that `known` units were taken
pub record InStep (d : Direction) (known : ℕ) : Type 0 where
  pub units : d.units ≡ numbers (known + unknown d) (length d.units)
  pub acks : d.acks ≡ restoring d.receiver.window (numbers (known + 1) (length d.acks))
  pub next : d.sender.next ≡ (known + unknown d + length d.units) % 128
  pub expected : d.receiver.expected ≡ (known + unknown d) % 128
  pub unacknowledged : d.sender.unacknowledged ≡ unknown d + length d.units
  pub owed : owed d ≡ d.receiver.window
  pub window : d.receiver.window ≤ 15

pub data CreditStep : Type 0 where
  write_unit : CreditStep
  take_unit : CreditStep
  write_ack : CreditStep
  take_ack : CreditStep

-- the effect of each step on the links
abbrev pub CreditSteps : CreditStep → Direction → Direction → Type 0
CreditSteps write_unit old new = (0 < old.sender.credit) ×
    (new ≡ record old { sender = after_sent old.sender; units = old.units ++ old.sender.next ∷ [] })
CreditSteps take_unit old new = (number : ℕ) × (rest : List ℕ) × (old.units ≡ number ∷ rest) × (is_awaited old.receiver number ≡ true) ×
    (new ≡ record old { units = rest; receiver = after_taken old.receiver })
CreditSteps write_ack old new = (0 < old.receiver.waiting) ×
    (new ≡ record old { receiver = after_acked old.receiver; acks = old.acks ++ (ack_number old.receiver, old.receiver.window) ∷ [] })
CreditSteps take_ack old new = (ack : ℕ × ℕ) × (rest : List (ℕ × ℕ)) × (sender : Sender) × (old.acks ≡ ack ∷ rest) × (acknowledged old.sender ack.0 ack.1 ≡ Ok sender) ×
    (new ≡ record old { sender = sender; acks = rest })

abbrev pub known_after : CreditStep → ℕ → ℕ
known_after take_ack known = known + 1
known_after step known = known

-- steps one after the other
abbrev pub StepsAlong : Direction → List CreditStep → Direction → Type 0
StepsAlong old [] new = new ≡ old
StepsAlong old (step ∷ steps) new = (mid : Direction) × CreditSteps step old mid × StepsAlong mid steps new

-- a direction if nothing was sent and the whole window is open
abbrev pub opened : ℕ → Direction
opened window = record { sender = fresh_sender window; units = []; receiver = fresh_receiver window; acks = [] }

-- the sender after an Ack of one more unit that restores the window
abbrev pub restored : Sender → Sender
restored s = record { next = s.next; unacknowledged = s.unacknowledged - 1; credit = s.credit + 1 }
