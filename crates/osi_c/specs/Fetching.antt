-- Verdicts that C fetches.
use Rattle.std.specs.Prelude.{◌≡◌, ◌⊎◌, ◌<◌, ◌≤◌, ℕ, Bool, true, false, List, [], ◌∷◌, ◌++◌, Option, Some, None, slice_get}
use Rattle.osi_tpkt.specs.Stream.{offset_of}
use Rattle.osi_side.specs.Captures.{Capture, stream}
use Rattle.osi_side.specs.declared.directions.Direction.{Direction}
use Rattle.osi_side.specs.declared.directions.Direction.TheVariants.{Left, Right}
use Rattle.osi_judge.specs.declared.connections.Connection.{Connection}
use Rattle.osi_judge.specs.Connections.{Joined, count, numbered}
use Rattle.osi_judge.specs.declared.pasts.Past.{Past}
use Rattle.osi_judge.specs.Holding.{HoldsJoined}
use Rattle.osi_judge.specs.Pasts.{HoldsPast}
use Rattle.osi_judge.specs.Standing.{IsSettled, first_in}
use Rattle.osi_judge.specs.States.{State}
use Rattle.osi_report.specs.Openings.{may_be_late}
use Rattle.osi_c.specs.Codes.{coded}
use Rattle.osi_c.specs.Fed.{fed, WasFed}
use Rattle.osi_c.specs.Judges.{IsDoneWith, Knows, Keeps, Settles}
use Rattle.osi_c.specs.Notes.{IsStill, IsStillAt, IsStillPast, Tells, TellsNothing, is_certain}
use Rattle.osi_c.specs.Subjects.{also, leading, told_by}
use Rattle.osi_c.specs.Verdicts.{Shows, nothing}
use Rattle.osi_c.specs.declared.fetching.Fetched.{Fetched}
use Rattle.osi_c.specs.declared.fetching.Fetched.TheVariants as fetched
use Rattle.osi_c.specs.declared.judges.HeldJudge.{HeldJudge}
use Rattle.osi_c.specs.declared.notes.Note.{Note}
use Rattle.osi_c.specs.declared.subjects.Subject.{Subject}
use Rattle.osi_c.specs.declared.subjects.Subject.TheVariants.{Session, Transport, Rest}
use Rattle.osi_c.specs.declared.verdicts.OsiVerdict.{OsiVerdict}

-- ---- what is to be told, by what a judge knows and of what C was told

-- it is certain, and C was not told of it
pub record IsDue (w : HeldJudge) (told : Subject → Bool) (k : Subject) (n : Note) : Type 0 where
  pub fresh : told k ≡ false
  pub tells : Tells w k n
  pub certain : is_certain n ≡ true

-- C was told of it, or nothing is certain of it
abbrev pub HasNone : HeldJudge → (Subject → Bool) → Subject → Type 0
HasNone w told k = (told k ≡ true) ⊎ TellsNothing w k

-- of both sides of a connection
abbrev pub HasNoneOf : HeldJudge → (Subject → Bool) → ℕ → Type 0
HasNoneOf w told number = HasNone w told (Session number Left) × HasNone w told (Session number Right)

-- of a side of the connection with a number, by what a capture comes to
abbrev pub HasNoneAt : Direction → (Subject → Bool) → ℕ → State → Type 0
HasNoneAt d told number s = (told (Session number d) ≡ true) ⊎ IsStillAt d (numbered number s.course.sessions)

-- of all connections
abbrev pub HasNoneOfSessions : HeldJudge → (Subject → Bool) → Type 0
HasNoneOfSessions w told =
    (capture : Capture) → Knows w capture → IsSettled w.judge
    → (number : ℕ) → number < offset_of (count (fed capture).course.sessions)
    → HasNoneAt Left told number (fed capture) × HasNoneAt Right told number (fed capture)

-- of both sides of a connection that the judge holds
abbrev pub HasNoneBy : HeldJudge → (Subject → Bool) → Connection → Type 0
HasNoneBy w told c = IsStill c ⊎ ((j : Joined) → HoldsJoined c j → HasNoneOf w told j.number)

-- of each of these
abbrev pub HasNoneByEach : HeldJudge → (Subject → Bool) → List Connection → Type 0
HasNoneByEach w told cs = (i : ℕ) (c : Connection) → slice_get cs i ≡ Some c → HasNoneBy w told c

-- of one whose place was given to another
abbrev pub HasNoneByPast : HeldJudge → (Subject → Bool) → Past → Type 0
HasNoneByPast w told p = IsStillPast p ⊎ ((j : Joined) → HoldsPast p j → HasNoneOf w told j.number)

-- of each of these from a place on
abbrev pub HasNoneByPasts : ℕ → HeldJudge → (Subject → Bool) → List Past → Type 0
HasNoneByPasts first w told ps = (i : ℕ) (p : Past) → first ≤ i → slice_get ps i ≡ Some p → HasNoneByPast w told p

-- ---- the connections that are over are passed over

-- of the session of a side of one nothing is certain, or C was told of it
abbrev pub IsDoneBy : Direction → (Subject → Bool) → Past → Type 0
IsDoneBy d told p = (j : Joined) → HoldsPast p j → IsDoneWith d told j

abbrev pub DoneByIf : Bool → Direction → (Subject → Bool) → Past → Type 0
DoneByIf true d told p = IsDoneBy d told p
DoneByIf false d told p = Unit {0}

-- of both sides
abbrev pub IsDoneByBoth : (Subject → Bool) → Past → Type 0
IsDoneByBoth told p = IsDoneBy Left told p × IsDoneBy Right told p

abbrev pub DoneByBothIf : Bool → (Subject → Bool) → Past → Type 0
DoneByBothIf true told p = IsDoneByBoth told p
DoneByBothIf false told p = Unit {0}

-- of each of these from one place up to another
abbrev pub AreDoneBy : (first last : ℕ) → (Subject → Bool) → List Past → Type 0
AreDoneBy first last told ps = (i : ℕ) → first ≤ i → i < last → (p : Past) × (slice_get ps i ≡ Some p) × IsDoneByBoth told p

-- a judge that has looked at more of them, and is otherwise as it was
pub record LooksOn (old new : HeldJudge) : Type 0 where
  pub knows : (capture : Capture) → Knows old capture → Knows new capture
  pub judge : new.judge ≡ old.judge
  pub opening : new.opening ≡ old.opening
  pub told : new.told ≡ old.told
  pub text : new.text ≡ old.text

pub record HasNoneOfTransport (w : HeldJudge) (told : Subject → Bool) : Type 0 where
  pub left : HasNone w told (Transport Left)
  pub right : HasNone w told (Transport Right)
  pub left_rest : HasNone w told (Rest Left)
  pub right_rest : HasNone w told (Rest Right)

-- of the break that passed first
abbrev pub HasNoneIf : HeldJudge → (Subject → Bool) → Option Subject → Type 0
HasNoneIf w told None = Unit {0}
HasNoneIf w told (Some k) = HasNone w told k

abbrev pub HasNoLeading : HeldJudge → (Subject → Bool) → Type 0
HasNoLeading w told = HasNoneIf w told (leading (first_in w.judge))

-- of nothing
pub record HasNothing (w : HeldJudge) (told : Subject → Bool) : Type 0 where
  pub leading : HasNoLeading w told
  pub transport : HasNoneOfTransport w told
  pub sessions : HasNoneOfSessions w told

-- the break that passed first is told first
abbrev pub InTurn : HeldJudge → (Subject → Bool) → Subject → Type 0
InTurn w told k = (leading (first_in w.judge) ≡ Some k) ⊎ HasNoLeading w told

-- ---- whether the capture begins in the middle of a connection

-- whatever the judge was fed, this says whether what passes next may show that it does; then nothing is certain
abbrev pub MayBeLate : Bool → HeldJudge → Type 0
MayBeLate b w = (capture : Capture) → WasFed w capture → IsSettled w.judge → b ≡ may_be_late (fed capture) (stream Left capture)

-- ---- a verdict is fetched

-- all that passed is judged, and a verdict is given of which C was not told before
pub record Gives (old : HeldJudge) (v : OsiVerdict) (new : HeldJudge) : Type 0 where
  pub knows : (capture : Capture) → Knows old capture → Knows new capture
  pub settled : IsSettled new.judge
  pub decided : MayBeLate false new
  pub subject : Subject
  pub tells : Note
  pub turn : InTurn new (told_by old.told) subject
  pub due : IsDue new (told_by old.told) subject tells
  pub shows : Shows new.judge subject tells v
  pub told : told_by new.told ≡ also subject (told_by old.told)
  pub text : new.text ≡ old.text

-- all that passed is judged, and there is none
pub record GivesNone (old new : HeldJudge) : Type 0 where
  pub settles : Settles old new
  pub none : MayBeLate true new ⊎ HasNothing new (told_by new.told)

abbrev pub HasFetched : Fetched → HeldJudge → HeldJudge → Type 0
HasFetched (fetched.Given v) old new = Gives old v new
HasFetched fetched.Nothing old new = GivesNone old new
HasFetched fetched.NoMemory old new = Keeps old new

-- The answer to fetching.
pub data Fetching : Type 0 where
  Given : Fetching
  NoJudge : Fetching
  NoMemory : Fetching
  NoneDue : Fetching

abbrev pub fetching_of : ℕ → Option Fetching
fetching_of = coded ((0, Given) ∷ (1, NoJudge) ∷ (3, NoMemory) ∷ (5, NoneDue) ∷ [])

-- for a slot
abbrev pub Fetches : Option Fetching → OsiVerdict → Option HeldJudge → Option HeldJudge → Type 0
Fetches (Some Given) v (Some old) (Some new) = Gives old v new
Fetches (Some NoneDue) v (Some old) (Some new) = GivesNone old new × (v ≡ nothing)
Fetches (Some NoMemory) v (Some old) (Some new) = Keeps old new × (v ≡ nothing)
Fetches (Some NoJudge) v None new = (v ≡ nothing) × (new ≡ None)
Fetches answer v old new = ⊥
