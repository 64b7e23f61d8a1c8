-- A judge with a bound for each connection, beside a judge without one.
use Rattle.std.specs.Prelude.{◌≡◌, ℕ, false, List, [], ◌∷◌, ◌++◌}
use Rattle.osi_side.specs.Captures.{Capture, piece}
use Rattle.osi_side.specs.declared.directions.Direction.{Direction}
use Rattle.osi_judge.specs.declared.rooms.Room.TheVariants.{All, Octets}
use Rattle.osi_judge.specs.declared.judge.Judge.{Judge}
use Rattle.osi_judge.specs.Connections.{Joined, Sessions}
use Rattle.osi_judge.specs.Courses.{Course, Moment}
use Rattle.osi_judge.specs.Rooms.{is_over}
use Rattle.osi_judge.specs.Standing.{Feeds, HoldsState}
use Rattle.osi_judge.specs.States.{State, after, begin_within}

-- what a capture comes to, if of each connection so much is judged
abbrev pub comes_within : (most : ℕ) → Capture → State
comes_within most capture = after capture (begin_within (Octets most))

-- A capture was fed to a judge that was new and had this bound, in any pieces. Between them memory may have been short, and any calls of
-- `settle` have passed.
pub data IsFedWithin (most : ℕ) : Capture → Judge → Type 0 where
  unfed : (t : Judge) → HoldsState t (begin_within (Octets most)) → IsFedWithin most [] t
  fed : (capture : Capture) (d : Direction) (octets : List ℕ) (old new : Judge) → IsFedWithin most capture old → Feeds d octets old new
      → IsFedWithin most (capture ++ piece d octets) new

-- What is judged of a connection, and all of it: these are the same, as long as no more has passed than is judged.
pub record IsJudgedOf (j whole : Joined) : Type 0 where
  pub number : j.number ≡ whole.number
  pub calling : j.calling ≡ whole.calling
  pub called : j.called ≡ whole.called
  pub class : j.class ≡ whole.class
  pub closed : j.closed ≡ whole.closed
  pub left : is_over j.room ≡ false → j.left ≡ whole.left
  pub right : is_over j.room ≡ false → j.right ≡ whole.right
  pub all : whole.room ≡ All

-- of connections, one after the other
abbrev pub AreJudgedOf : List Joined → List Joined → Type 0
AreJudgedOf [] [] = Unit {0}
AreJudgedOf [] (whole ∷ wholes) = ⊥
AreJudgedOf (j ∷ js) [] = ⊥
AreJudgedOf (j ∷ js) (whole ∷ wholes) = IsJudgedOf j whole × AreJudgedOf js wholes

-- of all connections
pub record SessionsOf (s wholes : Sessions) : Type 0 where
  pub live : AreJudgedOf s.live wholes.live
  pub done : AreJudgedOf s.done wholes.done

-- What passed at one moment: the same, with the same break of transport or none, and of the connections after it this much.
pub record IsMomentOf (m whole : Moment) : Type 0 where
  pub direction : m.direction ≡ whole.direction
  pub at : m.at ≡ whole.at
  pub mark : m.mark ≡ whole.mark
  pub sessions : SessionsOf m.sessions whole.sessions

-- of moments, one after the other
abbrev pub AreMomentsOf : List Moment → List Moment → Type 0
AreMomentsOf [] [] = Unit {0}
AreMomentsOf [] (whole ∷ wholes) = ⊥
AreMomentsOf (m ∷ past) [] = ⊥
AreMomentsOf (m ∷ past) (whole ∷ wholes) = IsMomentOf m whole × AreMomentsOf past wholes

-- Of a byte connection: what is found of the transport is the same, at each moment too, and of the connections this much.
pub record IsCourseOf (c whole : Course) : Type 0 where
  pub traffic : c.traffic ≡ whole.traffic
  pub left : c.left ≡ whole.left
  pub right : c.right ≡ whole.right
  pub first : c.first ≡ whole.first
  pub sessions : SessionsOf c.sessions whole.sessions
  pub past : AreMomentsOf c.past whole.past
