-- Carrying octets from one end to the other.
use Rattle.std.specs.Prelude.{◌≡◌, ℕ, ◌-◌, ◌<◌, true, List, [], ◌∷◌, ◌++◌, sum, take, min}
use Rattle.osi_session.specs.Shown.{Shown}
use Rattle.osi_stack.specs.Calls.{carried}
use Rattle.osi_stack.specs.Feeding.{Feeds}
use Rattle.osi_stack.specs.State.{Holding, waits}
use Rattle.osi_tpkt.specs.declared.cutting.Fed.{Fed}
use Rattle.osi_pair.specs.Ends.{TwoEnds, end_at, reachable}
use Rattle.osi_pair.specs.Entries.{Entry}
use Rattle.osi_pair.specs.Reaching.{reach_after}
use Rattle.osi_pair.specs.Sides.{other}
use Rattle.osi_pair.specs.Telling.{ShowsFirst, told_entries}
use Rattle.osi_pair.specs.declared.sides.Side.{Side}

-- an end is fed at most `most` octets that the other has sent, and uses `used` of them
pub record FeedsFirst (most : ℕ) (from old : Holding) (used : ℕ) (new : Holding) : Type 0 where
  pub fed : Fed
  pub uses : fed.used ≡ used
  pub feeds : Feeds old (take most from.end.carrier.outgoing) fed new

-- the end whose octets are carried, the end that is fed them, and the journal
pub record Crossing : Type 0 where
  pub from : Holding
  pub to : Holding
  pub journal : List Entry

-- The end of a side is fed at most `most` octets that the other has sent. Those that it uses are taken from the other,
-- and its users receive the indications that they cause.
pub record CarriesPiece (side : Side) (most : ℕ) (old : Crossing) (used : ℕ) (new : Crossing) : Type 0 where
  pub between : Holding
  pub first : List (ℕ × Shown)
  pub feeds : FeedsFirst most old.from old.to used between
  pub taken : new.from ≡ record old.from { end = carried used old.from.end }
  pub shows : ShowsFirst between first new.to
  pub says : new.journal ≡ old.journal ++ told_entries side old.to.end.carrier.ended new.to.end.carrier.ended first

-- pieces one after the other, the last one first in the list, of at most this length together
abbrev pub CarriesPieces : Side → ℕ → List ℕ → Crossing → Crossing → Type 0
CarriesPieces side most [] old new = new ≡ old
CarriesPieces side most (used ∷ before) old new =
    (between : Crossing) × CarriesPieces side most before old between × CarriesPiece side (most - sum before) between used new

-- after some pieces an indication was still pending at the end that is fed
pub record IsHeldUp (side : Side) (most : ℕ) (old : Crossing) : Type 0 where
  pub pieces : List ℕ
  pub between : Crossing
  pub each : CarriesPieces side most pieces old between
  pub waiting : waits between.to.end.lines ≡ true

pub record Carries (side : Side) (most : ℕ) (old : Crossing) (octets : ℕ) (new : Crossing) : Type 0 where
  pub pieces : List ℕ
  pub length : octets ≡ sum pieces
  pub each : CarriesPieces side most pieces old new

-- the octets of this side
abbrev pub crossing : Side → TwoEnds → Crossing
crossing side p = record { from = end_at side p; to = end_at (other side) p; journal = p.journal }

-- at most this many octets of a side are carried, of those that can still arrive
pub record CarriesFrom (side : Side) (octets : ℕ) (old : TwoEnds) (carried : ℕ) (new : TwoEnds) : Type 0 where
  pub way : Carries (other side) (min octets (reachable side old)) (crossing side old) carried (crossing side new)
  pub reach : new.reach ≡ reach_after side carried old.reach
