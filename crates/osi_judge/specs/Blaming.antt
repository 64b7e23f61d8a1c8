-- Who is to blame, and for which break first: of transport or of a session, in the order in which what they sent passed.
use Rattle.std.specs.Prelude.{◌≡◌, ◌⊎◌, ℕ, zero, suc, Bool, true, false, List, [], ◌∷◌, ◌++◌, Option, Some, None, slice_get}
use Rattle.osi_side.specs.declared.directions.Direction.{Direction}
use Rattle.osi_side.specs.declared.directions.Direction.TheVariants.{Left, Right}
use Rattle.osi_side.specs.declared.findings.Finding.{Finding}
use Rattle.osi_side.specs.Captures.{other}
use Rattle.osi_side.specs.Judging.{IsFound, HasRoom}
use Rattle.osi_side.specs.Findings.{broke_session}
use Rattle.osi_side.specs.Sides.{begin_of}
use Rattle.osi_judge.specs.declared.marks.First.{First}
use Rattle.osi_judge.specs.declared.marks.Layer.TheVariants.{Session}
use Rattle.osi_judge.specs.declared.marks.Mark.{Mark}
use Rattle.osi_judge.specs.Connections.{Joined, Sessions, spoken}
use Rattle.osi_judge.specs.Courses.{Course, Moment, is_break, first_of, marks_of}
use Rattle.osi_judge.specs.Lines.{told, heard}

-- What is found of the session of a side of a connection, by what both sides said on it. If too many sessions explain it, the
-- side is not judged any further.
pub record IsFoundOf (d : Direction) (j : Joined) (f : Finding) : Type 0 where
  pub found : IsFound (begin_of d) (heard (spoken (other d) j)) (told (spoken d j)) f
  pub room : HasRoom (begin_of d) (heard (spoken (other d) j)) (told (spoken d j)) f

-- it has not broken the protocol, and not left the profile
pub record IsBlameless (d : Direction) (j : Joined) : Type 0 where
  pub finding : Finding
  pub found : IsFoundOf d j finding
  pub none : broke_session finding ≡ false

-- it has
pub record IsToBlame (d : Direction) (j : Joined) : Type 0 where
  pub finding : Finding
  pub found : IsFoundOf d j finding
  pub broke : broke_session finding ≡ true

-- ---- of connections, one after the other

abbrev pub AreBlameless : List Joined → Type 0
AreBlameless [] = Unit {0}
AreBlameless (j ∷ js) = (IsBlameless Left j × IsBlameless Right j) × AreBlameless js

-- but for this side of the connection at this place
abbrev pub AreBlamelessBut : Direction → (place : ℕ) → List Joined → Type 0
AreBlamelessBut d place [] = Unit {0}
AreBlamelessBut d zero (j ∷ js) = IsBlameless (other d) j × AreBlameless js
AreBlamelessBut d (suc place) (j ∷ js) = (IsBlameless Left j × IsBlameless Right j) × AreBlamelessBut d place js

-- of all connections
pub record NobodyIs (s : Sessions) : Type 0 where
  pub live : AreBlameless s.live
  pub done : AreBlameless s.done

-- but for this side of the connection at a place
pub record NobodyElseIs (d : Direction) (place : ℕ) (s : Sessions) : Type 0 where
  pub live : AreBlamelessBut d place s.live
  pub done : AreBlameless s.done

abbrev pub NobodyElse : Direction → Option ℕ → Sessions → Type 0
NobodyElse d None s = NobodyIs s
NobodyElse d (Some place) s = NobodyElseIs d place s

-- this side of the connection at this place is to blame, and no other session
pub record IsToBlameAt (d : Direction) (place : ℕ) (number : Option ℕ) (s : Sessions) : Type 0 where
  pub connection : Joined
  pub there : slice_get s.live place ≡ Some connection
  pub number_is : number ≡ Some connection.number
  pub broke : IsToBlame d connection
  pub others : NobodyElseIs d place s

-- this side of some connection with this number is to blame
abbrev pub SomeIs : Direction → Option ℕ → List Joined → Type 0
SomeIs d number [] = ⊥
SomeIs d number (j ∷ js) = ((number ≡ Some j.number) × IsToBlame d j) ⊎ SomeIs d number js

abbrev pub SomeoneIs : Direction → Option ℕ → Sessions → Type 0
SomeoneIs d number s = SomeIs d number s.live ⊎ SomeIs d number s.done

-- ---- of a moment

-- no break of transport
abbrev pub IsQuiet : Option Mark → Type 0
IsQuiet None = Unit {0}
IsQuiet (Some m) = is_break m.cause ≡ false

-- and none of a session
pub record IsSpotless (m : Moment) : Type 0 where
  pub transport : IsQuiet m.mark
  pub sessions : NobodyIs m.sessions

abbrev pub AreSpotless : List Moment → Type 0
AreSpotless [] = Unit {0}
AreSpotless (m ∷ past) = IsSpotless m × AreSpotless past

-- The break of a moment, as it is told: that of the transport of the side that sent what passed, if it is one; if not, that of the
-- session of this side on the connection for which it is.
pub data IsBreakOf (f : First) (m : Moment) : Type 0 where
  of_transport : (k : Mark) → m.mark ≡ Some k → is_break k.cause ≡ true → f ≡ first_of k → IsBreakOf f m
  of_session : (place : ℕ) → IsQuiet m.mark → f.layer ≡ Session → f.direction ≡ m.direction
      → IsToBlameAt f.direction place f.connection m.sessions → IsBreakOf f m

-- ---- the first break

-- it is of one of the moments, and no moment before that one has a break
pub record BreaksFirst (f : First) (past : List Moment) : Type 0 where
  pub front : List Moment
  pub moment : Moment
  pub back : List Moment
  pub parts : past ≡ front ++ moment ∷ back
  pub before : AreSpotless front
  pub breaks : IsBreakOf f moment

-- The first break of all, of transport and of sessions; or no moment has one.
abbrev pub IsFirstOf : Option First → List Moment → Type 0
IsFirstOf None past = AreSpotless past
IsFirstOf (Some f) past = BreaksFirst f past

-- if it is of a session, that session is to blame
abbrev pub IsStill : First → Sessions → Type 0
IsStill f s = f.layer ≡ Session → SomeoneIs f.direction f.connection s

-- As long as no moment has a break, nobody is to blame for what has passed by now; and who broke the protocol first is to blame from
-- then on.
abbrev pub IsEarliest : Option First → List Moment → Sessions → Type 0
IsEarliest None past s = AreSpotless past × NobodyIs s
IsEarliest (Some f) past s = BreaksFirst f past × IsStill f s

-- if it is of transport, it is where its side first broke a rule or left the profile
abbrev pub IsMarkOf : Direction → First → Course → Type 0
IsMarkOf d f c = (k : Mark) × ((marks_of d c).broke ≡ Some k) × (f ≡ first_of k)

-- ---- what is told of one moment, before which none had a break

-- a session that was sought is to blame, or it is as blameless as the others
abbrev pub Blames : Bool → Direction → (place : ℕ) → List Joined → Type 0
Blames true d place js = (j : Joined) × (slice_get js place ≡ Some j) × IsToBlame d j
Blames false d place js = AreBlamelessBut d place js → AreBlameless js

abbrev pub BlamesBy : Bool → Direction → Option ℕ → Sessions → Type 0
BlamesBy true d None s = ⊥
BlamesBy false d None s = Unit {0}
BlamesBy blamed d (Some place) s = Blames blamed d place s.live

-- a session of this side is told as the first, or nobody is to blame
abbrev pub IsSessionOf : Option First → Direction → Sessions → Type 0
IsSessionOf None d s = NobodyIs s
IsSessionOf (Some f) d s = (f.layer ≡ Session) × (f.direction ≡ d) × ((place : ℕ) × IsToBlameAt d place f.connection s)

-- its break is told as the first, if it has one
abbrev pub IsToldOf : Option First → Moment → Type 0
IsToldOf None m = IsSpotless m
IsToldOf (Some f) m = IsBreakOf f m
