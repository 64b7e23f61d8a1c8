-- A judge of a byte connection that C feeds: what passes, and what the calls answer.
use Rattle.std.specs.Prelude.{◌≡◌, ◌⊎◌, ◌≤◌, ◌<◌, ◌∷◌, ℕ, Bool, true, List, [], ◌++◌, take, length, Option, Some, None, slice_get}
use Rattle.osi_side.specs.Captures.{Capture, piece, stream}
use Rattle.osi_side.specs.declared.directions.Direction.{Direction}
use Rattle.osi_side.specs.declared.directions.Direction.TheVariants.{Left, Right}
use Rattle.osi_judge.specs.Connections.{Joined}
use Rattle.osi_judge.specs.Standing.{HoldsState, IsSettled}
use Rattle.osi_report.specs.Openings.{Opens}
use Rattle.osi_c.specs.Codes.{coded, Made, Begun, InUse}
use Rattle.osi_c.specs.Codes as codes
use Rattle.osi_c.specs.Fed.{fed}
use Rattle.osi_c.specs.Notes.{IsStillOf}
use Rattle.osi_c.specs.Subjects.{no_subject, told_by}
use Rattle.osi_c.specs.declared.subjects.Subject.{Subject}
use Rattle.osi_c.specs.declared.subjects.Subject.TheVariants.{Session}
use Rattle.osi_c.specs.declared.judges.HeldJudge.{HeldJudge}

-- ---- what a judge knows

-- nothing is certain of the session of a side of a connection, or C was told of it
abbrev pub IsDoneWith : Direction → (told : Subject → Bool) → Joined → Type 0
IsDoneWith d told j = IsStillOf d j ⊎ (told (Session j.number d) ≡ true)

-- and of both sides of each of the first of these connections
abbrev pub AreDoneWith : ℕ → (told : Subject → Bool) → List Joined → Type 0
AreDoneWith n told js = (i : ℕ) → i < n → (j : Joined) × (slice_get js i ≡ Some j) × IsDoneWith Left told j × IsDoneWith Right told j

-- it was fed this capture, and of the connections that are over nothing more is to be told of the first, which it has seen
pub record Knows (w : HeldJudge) (capture : Capture) : Type 0 where
  pub holds : HoldsState w.judge (fed capture)
  pub opens : Opens w.opening (stream Left capture)
  pub seen : AreDoneWith w.seen (told_by w.told) (fed capture).course.sessions.done

-- it still knows what it was fed, C was told of nothing more, and the text is as it was
pub record Keeps (old new : HeldJudge) : Type 0 where
  pub knows : (capture : Capture) → Knows old capture → Knows new capture
  pub told : told_by new.told ≡ told_by old.told
  pub text : new.text ≡ old.text

-- and all that passed is judged
pub record Settles (old new : HeldJudge) : Type 0 where
  pub keeps : Keeps old new
  pub settled : IsSettled new.judge

-- ---- making a judge

-- nothing has passed, C was told of nothing, and there is no text
pub record IsNew (w : HeldJudge) : Type 0 where
  pub knows : Knows w []
  pub told : told_by w.told ≡ no_subject
  pub text : w.text.items ≡ []

abbrev pub begins_of : ℕ → Option Made
begins_of = coded ((0, Begun) ∷ (3, codes.NoMemory) ∷ (4, InUse) ∷ [])

abbrev pub Begins : Option Made → Option HeldJudge → Option HeldJudge → Type 0
Begins (Some Begun) None (Some new) = IsNew new
Begins (Some codes.NoMemory) None new = new ≡ None
Begins (Some InUse) (Some old) new = new ≡ Some old
Begins answer old new = ⊥

-- ---- feeding

-- these octets of a side passed
pub record Passes (d : Direction) (octets : List ℕ) (old new : HeldJudge) : Type 0 where
  pub knows : (capture : Capture) → Knows old capture → Knows new (capture ++ piece d octets)
  pub told : told_by new.told ≡ told_by old.told
  pub text : new.text ≡ old.text

-- so many of a piece
pub record TakesPiece (d : Direction) (octets : List ℕ) (used : ℕ) (old new : HeldJudge) : Type 0 where
  pub passes : Passes d (take used octets) old new
  pub within : used ≤ length octets

-- The answer to feeding.
pub data Feeding : Type 0 where
  Fed : Feeding
  NoJudge : Feeding
  NoSide : Feeding
  NoMemory : Feeding

abbrev pub feeding_of : ℕ → Option Feeding
feeding_of = coded ((0, Fed) ∷ (1, NoJudge) ∷ (2, NoSide) ∷ (3, NoMemory) ∷ [])

abbrev pub side_of : ℕ → Option Direction
side_of = coded ((0, Left) ∷ (1, Right) ∷ [])

-- if memory ran out, the octets before passed, and the next did not
abbrev pub FedTo : Direction → List ℕ → ℕ → Feeding → HeldJudge → HeldJudge → Type 0
FedTo d octets used Fed old new = TakesPiece d octets used old new × (used ≡ length octets)
FedTo d octets used NoMemory old new = TakesPiece d octets used old new × (used < length octets)
FedTo d octets used answer old new = ⊥

-- for a slot
abbrev pub Feeds : ℕ → List ℕ → ℕ → Option Feeding → Option HeldJudge → Option HeldJudge → Type 0
Feeds side octets used (Some NoSide) old new = (side_of side ≡ None) × (used ≡ 0) × (new ≡ old)
Feeds side octets used (Some NoJudge) None new = (side_of side ≡ None → ⊥) × (used ≡ 0) × (new ≡ None)
Feeds side octets used (Some answer) (Some old) (Some new) =
    (d : Direction) × (side_of side ≡ Some d) × FedTo d octets used answer old new
Feeds side octets used answer old new = ⊥
