-- Which connections are open, by the events reported.
use Rattle.std.specs.Prelude.{◌≡◌, ℕ, Bool, ◌&&◌, ◌||◌, ◌==◌, not, List, [], ◌∷◌, ◌++◌, is_some}
use Rattle.osi_carrier.specs.Calls.{open_link}
use Rattle.osi_carrier.specs.Happenings.{Happening, opened, refused, tsdu, closed, faulted}
use Rattle.osi_carrier.specs.State.{State}

abbrev pub is_open : ℕ → State → Bool
is_open r s = is_some (open_link r s)

-- whether a connection is open after events, by whether it was before them
abbrev pub open_after : ℕ → Bool → List Happening → Bool
open_after r was [] = was
open_after r was (opened q ∷ events) = open_after r (was || (q == r)) events
open_after r was (refused q reason ∷ events) = open_after r was events
open_after r was (tsdu q octets ∷ events) = open_after r was events
open_after r was (closed q reason ∷ events) = open_after r (was && not (q == r)) events
open_after r was (faulted q fault ∷ events) = open_after r (was && not (q == r)) events

-- events were reported, and they say whether the connection is open now
pub record TellsOpen (r : ℕ) (old new : State) : Type 0 where
  pub told : List Happening
  pub events : new.events ≡ old.events ++ told
  pub is : is_open r new ≡ open_after r (is_open r old) told
