-- The TSDUs of a connection that were handed in, and those that were reported, over a list of moves.
use Rattle.std.specs.Prelude.{◌≡◌, ℕ, ◌==◌, Bool, true, false, List, [], ◌∷◌, ◌++◌, length, drop, if◌then◌else◌}
use Rattle.osi_carrier.specs.Happenings.{Happening, opened, refused, tsdu, closed, faulted}
use Rattle.osi_carrier.specs.Packets.{after_packet}
use Rattle.osi_carrier.specs.State.{State}
use Rattle.osi_between.specs.Between.{Both}
use Rattle.osi_between.specs.Journey.{Move, takes, hands_in, moved}
use Rattle.osi_between.specs.Messages.{Message, ask, agree, deny, message, bye, over}

-- the TSDUs of a connection in events
abbrev pub tsdus_told : ℕ → List Happening → List (List ℕ)
tsdus_told n [] = []
tsdus_told n (opened q ∷ events) = tsdus_told n events
tsdus_told n (refused q reason ∷ events) = tsdus_told n events
tsdus_told n (tsdu q octets ∷ events) = if q == n then octets ∷ tsdus_told n events else tsdus_told n events
tsdus_told n (closed q reason ∷ events) = tsdus_told n events
tsdus_told n (faulted q fault ∷ events) = tsdus_told n events

-- the TSDUs in messages
abbrev pub tsdus_in : List Message → List (List ℕ)
tsdus_in [] = []
tsdus_in (ask ∷ ms) = tsdus_in ms
tsdus_in (agree ∷ ms) = tsdus_in ms
tsdus_in (deny reason ∷ ms) = tsdus_in ms
tsdus_in (message octets ∷ ms) = octets ∷ tsdus_in ms
tsdus_in (bye reason ∷ ms) = tsdus_in ms
tsdus_in (over ∷ ms) = tsdus_in ms

-- the TSDUs that a packet reports
abbrev pub told_by_packet : ℕ → State → List ℕ → List (List ℕ)
told_by_packet n s packet = tsdus_told n (drop (length s.events) (after_packet s packet).events)

-- the TSDUs that a move reports at an end
abbrev pub told_in : Bool → ℕ → Move → Both → List (List ℕ)
told_in true n (takes true packet octets behind) both = told_by_packet n both.caller.state packet
told_in false n (takes false packet octets behind) both = told_by_packet n both.called.state packet
told_in end n m both = []

-- the TSDUs that a move hands in at an end
abbrev pub handed_in : Bool → ℕ → Move → List (List ℕ)
handed_in true n (hands_in true q octets) = if q == n then octets ∷ [] else []
handed_in false n (hands_in false q octets) = if q == n then octets ∷ [] else []
handed_in end n m = []

abbrev pub all_told : Bool → ℕ → List Move → Both → List (List ℕ)
all_told end n [] both = []
all_told end n (m ∷ ms) both = told_in end n m both ++ all_told end n ms (moved m both)

abbrev pub all_handed_in : Bool → ℕ → List Move → List (List ℕ)
all_handed_in end n [] = []
all_handed_in end n (m ∷ ms) = handed_in end n m ++ all_handed_in end n ms

-- `some` is a prefix of `all`
pub record AreFirstOf (some all : List (List ℕ)) : Type 0 where
  pub more : List (List ℕ)
  pub is : all ≡ some ++ more
