-- The effect of an event on two ends, and when it does not fit.
use Rattle.std.specs.Prelude.{◌≡◌, ◌<◌, ◌≤◌, ◌⊎◌, ℕ, Bool, true, false, not, List, ◌++◌, length, min, Option, Some, None, IsSome}
use Rattle.osi_session.specs.Calls.{called_by}
use Rattle.osi_session.specs.Shown.{Shown}
use Rattle.osi_stack.specs.Calls.{breaks}
use Rattle.osi_stack.specs.State.{Holding, waits}
use Rattle.osi_pair.specs.Carrying.{CarriesFrom, IsHeldUp, crossing}
use Rattle.osi_pair.specs.Ends.{TwoEnds, end_at, after_connect, after_call, after_break, reachable}
use Rattle.osi_pair.specs.Entries.{Entry}
use Rattle.osi_pair.specs.Pairings.{Pairing, IsFull}
use Rattle.osi_pair.specs.Sides.{other}
use Rattle.osi_pair.specs.Telling.{ShowsFirst, told_entries}
use Rattle.osi_pair.specs.declared.events.Applied.{Applied}
use Rattle.osi_pair.specs.declared.events.Event.{Event}
use Rattle.osi_pair.specs.declared.events.Event.TheVariants.{Connect, Call, Carry, Break, Told}
use Rattle.osi_pair.specs.declared.faults.PairError.{PairError}
use Rattle.osi_pair.specs.declared.faults.PairError.TheVariants.{NotBroken, AlreadyBroken, OutOfMemory}
use Rattle.osi_pair.specs.declared.reach.Reach.{Reach}
use Rattle.osi_pair.specs.declared.sides.Side.{Side}

-- a connection breaks once, and nobody is told of a break before it
abbrev pub misfit_break : Option Reach → Option PairError
misfit_break None = None
misfit_break (Some reach) = Some AlreadyBroken

abbrev pub misfit_told : Option Reach → Option PairError
misfit_told None = Some NotBroken
misfit_told (Some reach) = None

-- why an event does not fit after the events before it
abbrev pub misfit : Event → TwoEnds → Option PairError
misfit (Break left right) p = misfit_break p.reach
misfit (Told side) p = misfit_told p.reach
misfit event p = None

-- an error that the rules give; if they give none, it is an allocation failure
abbrev pub error_by_rule : PairError → Option PairError
error_by_rule OutOfMemory = None
error_by_rule error = Some error

-- An allocation can fail only if something is to be noted in the journal, or to be carried: not at a break, nor if
-- there is nothing to carry, nor if the side that is told of the break has ended.
abbrev pub WantsMemory : Event → TwoEnds → Type 0
WantsMemory (Connect asked) p = Unit {0}
WantsMemory (Call side reference request) p = Unit {0}
WantsMemory (Carry side most) p = 0 < min most (reachable side p)
WantsMemory (Break left right) p = ⊥
WantsMemory (Told side) p = (end_at side p).end.carrier.ended ≡ None

-- an end that has not ended is told of the break: its users are told what they have lost
pub record HearsOfBreak (side : Side) (old : Holding) (before : List Entry) (new : Holding) (after : List Entry) : Type 0 where
  pub first : List (ℕ × Shown)
  pub shows : ShowsFirst (record old { end = breaks old.end }) first new
  pub says : after ≡ before ++ told_entries side old.end.carrier.ended new.end.carrier.ended first

-- an end is told of the break; nothing happens if it has ended
pub record IsToldOfBreak (side : Side) (old : Holding) (before : List Entry) (new : Holding) (after : List Entry) : Type 0 where
  pub over : IsSome old.end.carrier.ended → (new ≡ old) × (after ≡ before)
  pub hears : old.end.carrier.ended ≡ None → HearsOfBreak side old before new after

-- a side is told of the break
pub record TellsBreak (side : Side) (old new : TwoEnds) : Type 0 where
  pub told : IsToldOfBreak side (end_at side old) old.journal (end_at side new) new.journal
  pub other : end_at (other side) new ≡ end_at (other side) old
  pub reach : new.reach ≡ old.reach

-- the effect of an event, and how many octets it carries
abbrev pub Does : Event → TwoEnds → ℕ → TwoEnds → Type 0
Does (Connect asked) old octets new = (new ≡ after_connect asked old) × (octets ≡ 0)
Does (Call side reference request) old octets new = (new ≡ after_call side reference.0 (called_by request) old) × (octets ≡ 0)
Does (Carry side most) old octets new = CarriesFrom side most old octets new
Does (Break left right) old octets new = (new ≡ after_break left right old) × (octets ≡ 0)
Does (Told side) old octets new = TellsBreak side old new × (octets ≡ 0)

-- How much is carried, of at most `most`: all of it, unless the carry is cut short; and something if there is something
-- and no indication is pending.
pub record Moves (is_quiet : Bool) (most : ℕ) (applied : Applied) : Type 0 where
  pub at_most : applied.carried ≤ most
  pub whole : applied.is_cut_short ≡ false → applied.carried ≡ most
  pub less : applied.is_cut_short ≡ true → applied.carried < most
  pub some : is_quiet ≡ true → 0 < most → 0 < applied.carried

-- nothing is carried, and nothing was to be carried
pub record CarriesNothing (applied : Applied) : Type 0 where
  pub nothing : applied.carried ≡ 0
  pub all : applied.is_cut_short ≡ false

-- A carry carries what it was asked to, or all if there is less, and is cut short only after some of it. Every other
-- event carries nothing.
abbrev pub CarriesAsMuch : Event → TwoEnds → Applied → Type 0
CarriesAsMuch (Carry side most) p applied = Moves true (min most (reachable side p)) applied
CarriesAsMuch event p applied = CarriesNothing applied

-- the same, but the end that is fed may have pending indications
abbrev pub CarriesWhereQuiet : Event → TwoEnds → Applied → Type 0
CarriesWhereQuiet (Carry side most) p applied = Moves (not (waits (end_at (other side) p).end.lines)) (min most (reachable side p)) applied
CarriesWhereQuiet event p applied = CarriesNothing applied

-- A carry is cut short only after it has noted something: the room that it made at first was then used up.
abbrev pub NotesIfCutShort : TwoEnds → Applied → TwoEnds → Type 0
NotesIfCutShort old applied new = applied.is_cut_short ≡ true → length old.journal < length new.journal

-- the same, but the end that is fed may have pending indications
abbrev pub NotesWhereQuiet : Event → TwoEnds → Applied → TwoEnds → Type 0
NotesWhereQuiet (Carry side most) old applied new =
    applied.is_cut_short ≡ true →
    (length old.journal < length new.journal) ⊎ IsHeldUp (other side) (min most (reachable side old)) (crossing side old)
NotesWhereQuiet event old applied new = Unit {0}

-- A carry is cut short only if the journal is full: it was given no memory for the entries that more octets may cause.
abbrev pub IsFullIfCutShort : Applied → Pairing → Type 0
IsFullIfCutShort applied new = applied.is_cut_short ≡ true → IsFull new

-- the same, but the end that is fed may have pending indications
abbrev pub IsFullWhereQuiet : Event → TwoEnds → Applied → Pairing → Type 0
IsFullWhereQuiet (Carry side most) old applied new =
    applied.is_cut_short ≡ true → IsFull new ⊎ IsHeldUp (other side) (min most (reachable side old)) (crossing side old)
IsFullWhereQuiet event old applied new = Unit {0}

-- the journal keeps its entries, and may get more
pub record Adds (old new : List Entry) : Type 0 where
  pub more : List Entry
  pub is : new ≡ old ++ more
