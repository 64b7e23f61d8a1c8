-- What the owner of an end does, one thing after the other, and the octets that the end uses and puts.
use Rattle.std.specs.Prelude.{◌≡◌, List, [], ◌∷◌, ◌++◌, ℕ, None}
use Rattle.osi_session.specs.Calls.{HasSerial}
use Rattle.osi_stack.specs.Inputs.{IsAccepted}
use Rattle.osi_stack.specs.Rounds.{UserCall, user_does}
use Rattle.osi_stack.specs.Rounds.UserCall.{connecting, calling, disconnecting, breaking}
use Rattle.osi_stack.specs.Runs.{Call, Calls, used_in, carried_in}
use Rattle.osi_stack.specs.State.{Holding}

-- octets and indications come and go; or the user of the end makes a call that is accepted
pub data Act : Type 0 where
  serving : Call → Act
  using : UserCall → Act

-- the serial numbers of a call are in range, as those of every request are
abbrev pub HasSerialIn : UserCall → Type 0
HasSerialIn (connecting c) = Unit {0}
HasSerialIn (calling r call) = HasSerial call
HasSerialIn (disconnecting r) = Unit {0}
HasSerialIn breaking = Unit {0}

abbrev pub Acts : Holding → Act → Holding → Type 0
Acts old (serving call) new = Calls old call new
Acts old (using call) new = (old.end.carrier.ended ≡ None) × IsAccepted call old.end × HasSerialIn call
    × (new ≡ record old { end = user_does call old.end })

-- the octets that were used of what arrived, and those that were handed over
abbrev pub used_by : Act → List ℕ
used_by (serving call) = used_in call
used_by (using call) = []

abbrev pub carried_by : Act → List ℕ
carried_by (serving call) = carried_in call
carried_by (using call) = []

-- A turn: the octets that it used of what arrived, and those that it put after what was still to be handed over.
pub record Turn : Type 0 where
  pub used : List ℕ
  pub put : List ℕ

pub record Takes (old : Holding) (turn : Turn) (new : Holding) : Type 0 where
  pub act : Act
  pub acts : Acts old act new
  pub used : turn.used ≡ used_by act
  pub put : carried_by act ++ new.end.carrier.outgoing ≡ old.end.carrier.outgoing ++ turn.put

-- turns one after the other
abbrev pub Run : Holding → List Turn → Holding → Type 0
Run old [] new = new ≡ old
Run old (turn ∷ turns) new = (mid : Holding) × Takes old turn mid × Run mid turns new
