-- Verdicts that C asks for, and how many connections there are.
use Rattle.std.specs.Prelude.{◌≡◌, ◌-◌, ◌^◌, ◌==◌, ◌∷◌, ℕ, Bool, true, false, if◌then◌else◌, List, [], Option, Some, None, is_some}
use Rattle.osi_tpkt.specs.Stream.{offset_of}
use Rattle.osi_side.specs.Captures.{Capture}
use Rattle.osi_side.specs.declared.directions.Direction.{Direction}
use Rattle.osi_judge.specs.Connections.{count, numbered}
use Rattle.osi_c.specs.Codes.{coded}
use Rattle.osi_c.specs.Fed.{fed, WasFed}
use Rattle.osi_c.specs.Judges.{side_of, Keeps, Settles}
use Rattle.osi_c.specs.Notes.{Tells, is_certain}
use Rattle.osi_c.specs.Verdicts.{Shows, nothing}
use Rattle.osi_c.specs.declared.asking.Asked.{Asked}
use Rattle.osi_c.specs.declared.asking.Asked.TheVariants as asked
use Rattle.osi_c.specs.declared.judges.HeldJudge.{HeldJudge}
use Rattle.osi_c.specs.declared.notes.Note.{Note}
use Rattle.osi_c.specs.declared.subjects.Subject.{Subject}
use Rattle.osi_c.specs.declared.subjects.Subject.TheVariants.{Session, Transport, Rest}
use Rattle.osi_c.specs.declared.verdicts.OsiVerdict.{OsiVerdict}

-- ---- a verdict by what has passed so far

pub record ShowsOf (w : HeldJudge) (k : Subject) (v : OsiVerdict) : Type 0 where
  pub note : Note
  pub tells : Tells w k note
  pub shows : Shows w.judge k note v

-- on the transport of a side: on its first break, or, if there is none, on the rest of it
abbrev pub ShowsBreak : (is_broken : Bool) → HeldJudge → Direction → Note → OsiVerdict → Type 0
ShowsBreak true w d n v = Shows w.judge (Transport d) n v
ShowsBreak false w d n v = ShowsOf w (Rest d) v

pub record ShowsTransport (w : HeldJudge) (d : Direction) (v : OsiVerdict) : Type 0 where
  pub broke : Note
  pub tells : Tells w (Transport d) broke
  pub shows : ShowsBreak (is_certain broke) w d broke v

-- whether a connection has this number, whatever the judge was fed
abbrev pub IsNumbered : HeldJudge → ℕ → Bool → Type 0
IsNumbered w number b = (capture : Capture) → WasFed w capture → is_some (numbered number (fed capture).course.sessions) ≡ b

-- on the session of a side of the connection with this number
pub record ShowsSession (w : HeldJudge) (number : ℕ) (d : Direction) (v : OsiVerdict) : Type 0 where
  pub numbered : IsNumbered w number true
  pub shows : ShowsOf w (Session number d) v

-- ---- what C asks for

-- the number of a connection, or the one that stands for none
abbrev pub number_of : ℕ → Option ℕ
number_of number = if number == 2 ^ 64 - 1 then None else Some number

-- a session on the connection with a number, or a transport
abbrev pub ShowsIn : Option ℕ → HeldJudge → Direction → OsiVerdict → Type 0
ShowsIn None w d v = ShowsTransport w d v
ShowsIn (Some number) w d v = ShowsSession w number d v

-- no connection has the number
abbrev pub IsUnknown : Option ℕ → HeldJudge → Type 0
IsUnknown None w = ⊥
IsUnknown (Some number) w = IsNumbered w number false

abbrev pub HasAsked : Asked → Option ℕ → Direction → HeldJudge → HeldJudge → Type 0
HasAsked (asked.Shown v) number d old new = Settles old new × ShowsIn number new d v
HasAsked asked.Unknown number d old new = Settles old new × IsUnknown number new
HasAsked asked.NoMemory number d old new = Keeps old new

-- The answer to asking.
pub data Asking : Type 0 where
  Shown : Asking
  NoJudge : Asking
  NoSide : Asking
  NoMemory : Asking
  NoSuchConnection : Asking

abbrev pub asking_of : ℕ → Option Asking
asking_of = coded ((0, Shown) ∷ (1, NoJudge) ∷ (2, NoSide) ∷ (3, NoMemory) ∷ (10, NoSuchConnection) ∷ [])

abbrev pub AsksOf : Asking → Option ℕ → Direction → OsiVerdict → HeldJudge → HeldJudge → Type 0
AsksOf Shown number d v old new = Settles old new × ShowsIn number new d v
AsksOf NoSuchConnection number d v old new = Settles old new × IsUnknown number new × (v ≡ nothing)
AsksOf NoMemory number d v old new = Keeps old new × (v ≡ nothing)
AsksOf answer number d v old new = ⊥

-- for a slot
abbrev pub Asks : (number side : ℕ) → OsiVerdict → Option Asking → Option HeldJudge → Option HeldJudge → Type 0
Asks number side v (Some NoSide) old new = (side_of side ≡ None) × (v ≡ nothing) × (new ≡ old)
Asks number side v (Some NoJudge) None new = (side_of side ≡ None → ⊥) × (v ≡ nothing) × (new ≡ None)
Asks number side v (Some answer) (Some old) (Some new) =
    (d : Direction) × (side_of side ≡ Some d) × AsksOf answer (number_of number) d v old new
Asks number side v answer old new = ⊥

-- ---- how many connections were requested

pub record Counts (w : HeldJudge) (n : ℕ) : Type 0 where
  pub count : (capture : Capture) → WasFed w capture → n ≡ offset_of (count (fed capture).course.sessions)

-- The answer to counting.
pub data Counting : Type 0 where
  Counted : Counting
  NoJudge : Counting
  NoMemory : Counting

abbrev pub counting_of : ℕ → Option Counting
counting_of = coded ((0, Counted) ∷ (1, NoJudge) ∷ (3, NoMemory) ∷ [])

-- for a slot
abbrev pub AsksCount : ℕ → Option Counting → Option HeldJudge → Option HeldJudge → Type 0
AsksCount n (Some Counted) (Some old) (Some new) = Settles old new × Counts new n
AsksCount n (Some NoMemory) (Some old) (Some new) = Keeps old new × (n ≡ 0)
AsksCount n (Some NoJudge) None new = (n ≡ 0) × (new ≡ None)
AsksCount n answer old new = ⊥
