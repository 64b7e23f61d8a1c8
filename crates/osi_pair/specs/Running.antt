-- Events one after the other.
use Rattle.std.specs.Prelude.{◌≡◌, ◌<◌, ◌≤◌, ◌||◌, Bool, false, List, [], ◌∷◌, ◌++◌, take, length, None, IfSome, slice_get}
use Rattle.osi_machine.specs.Core as machine
use Rattle.osi_machine.specs.Machine.{Step, connects, calls, breaks, ends, told_of_break}
use Rattle.osi_session.specs.Calls.{called_by}
use Rattle.osi_pair.specs.Advancing.{StandsAfter}
use Rattle.osi_pair.specs.Asked.{asked_of}
use Rattle.osi_pair.specs.Ends.{TwoEnds}
use Rattle.osi_pair.specs.Events.{misfit, error_by_rule, WantsMemory, Does, CarriesAsMuch, NotesIfCutShort, IsFullIfCutShort}
use Rattle.osi_pair.specs.Pairings.{Pairing}
use Rattle.osi_pair.specs.Promises.{IsSafe}
use Rattle.osi_pair.specs.Sides.{other}
use Rattle.osi_pair.specs.Standing.{side_in, offer_in, StandsAt, AreArrivals}
use Rattle.osi_pair.specs.declared.events.Applied.{Applied}
use Rattle.osi_pair.specs.declared.events.Event.{Event}
use Rattle.osi_pair.specs.declared.events.Event.TheVariants.{Connect, Call, Carry, Break, Told}
use Rattle.osi_pair.specs.declared.faults.PairError.TheVariants.{OutOfMemory}
use Rattle.osi_pair.specs.declared.faults.RunError.{RunError}

-- An event that fits is applied; a carry carries as much as there is, up to what it was asked to, and is cut short only
-- after it has noted something, and only if the journal is full. If the two ends matched a list of steps of the machine,
-- they match that list followed by the steps of the event; and they are safe.
pub record Happens (event : Event) (old : Pairing) (applied : Applied) (new : Pairing) : Type 0 where
  pub fits : misfit event old.ends ≡ None
  pub does : Does event old.ends applied.carried new.ends
  pub carried : CarriesAsMuch event old.ends applied
  pub cut : NotesIfCutShort old.ends applied new.ends
  pub full : IsFullIfCutShort applied new
  pub capacity : old.capacity ≤ new.capacity
  pub stands : (steps : List Step) → StandsAt old.ends steps → StandsAfter event old.ends new.ends steps
  pub safe : IsSafe new.ends

-- events happen one after the other, and a carry among them is cut short, or none is
abbrev pub HappenAll : List Event → Pairing → Bool → Pairing → Type 0
HappenAll [] old is_cut new = (is_cut ≡ false) × (new ≡ old)
HappenAll (event ∷ events) old is_cut new =
    (between : Pairing) × (applied : Applied) × (later : Bool) × (is_cut ≡ (applied.is_cut_short || later))
    × Happens event old applied between × HappenAll events between later new

-- ---- their steps of the machine

abbrev pub IsBreak : List Step → Type 0
IsBreak (breaks keep_left keep_right ∷ []) = Unit {0}
IsBreak steps = ⊥

-- a side that has ended before is not told of a break
abbrev pub IsTold : machine.Side → List Step → Type 0
IsTold side [] = Unit {0}
IsTold side (ends taker reason keep ∷ []) = (taker ≡ side) × (reason ≡ told_of_break)
IsTold side steps = ⊥

abbrev pub AreStepsOf : Event → List Step → Type 0
AreStepsOf (Connect asked) steps = steps ≡ connects (offer_in (asked_of asked)) ∷ []
AreStepsOf (Call side reference request) steps = steps ≡ calls (side_in side) reference.0 (called_by request) ∷ []
AreStepsOf (Carry side most) steps = AreArrivals (side_in (other side)) steps
AreStepsOf (Break left right) steps = IsBreak steps
AreStepsOf (Told side) steps = IsTold (side_in side) steps

-- those of the first event, and then those of the others
pub record Parts : Type 0 where
  pub first : List Step
  pub rest : List Step

abbrev pub AreStepsOfAll : List Event → List Step → Type 0
AreStepsOfAll [] steps = steps ≡ []
AreStepsOfAll (event ∷ events) steps =
    (parts : Parts) × (steps ≡ parts.first ++ parts.rest) × AreStepsOf event parts.first × AreStepsOfAll events parts.rest

-- they match that list followed by the steps of events
pub record StandsBehind (events : List Event) (p : TwoEnds) (steps : List Step) : Type 0 where
  pub more : List Step
  pub are : AreStepsOfAll events more
  pub stands : StandsAt p (steps ++ more)

-- ---- a run

-- All events happen, and a carry among them is cut short, or none is; and if the two ends matched a list of steps, they match
-- that list followed by the steps of all events.
pub record RunsThrough (events : List Event) (old : Pairing) (is_cut : Bool) (new : Pairing) : Type 0 where
  pub all : HappenAll events old is_cut new
  pub stands : (steps : List Step) → StandsAt old.ends steps → StandsBehind events new.ends steps

-- All events before one happen, and that one is refused; if because memory ran out, then only if it needs some. It
-- changes nothing but the memory that the journal has.
pub record StopsAt (events : List Event) (old : Pairing) (error : RunError) (new : Pairing) : Type 0 where
  pub within : error.place < length events
  pub is_cut : Bool
  pub between : Pairing
  pub before : RunsThrough (take error.place events) old is_cut between
  pub same : new.ends ≡ between.ends
  pub capacity : between.capacity ≤ new.capacity
  pub refused : IfSome (slice_get events error.place) (λ event. error_by_rule error.error ≡ misfit event new.ends)
  pub needed : IfSome (slice_get events error.place) (λ event. error.error ≡ OutOfMemory → WantsMemory event new.ends)
