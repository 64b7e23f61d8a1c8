-- How a capture of an end is steps of the end and of the judge.
use Rattle.std.specs.Prelude.{◌≡◌, ◌⊎◌, ◌<◌, ℕ, true, List, ◌++◌}
use Rattle.std.specs.List.{AllByRecursion}
use Rattle.osi_side.specs.Captures.{Capture, Passed, of, other}
use Rattle.osi_side.specs.declared.directions.Direction.{Direction}
use Rattle.osi_stack.specs.State.{Holding}
use Rattle.osi_judge.specs.declared.marks.Cause.{Cause}
use Rattle.osi_judge.specs.Courses.{Course, is_break, unread}
use Rattle.osi_judge.specs.States.{comes_to}
use Rattle.osi_blameless.specs.Joint.{Joint, Step, StepsAlong, begin}
use Rattle.osi_blameless.specs.Spoilt.{GoesOn}

-- the numbers of a capture are octets
abbrev pub IsOctet : Passed → Type 0
IsOctet (of d octet) = octet < 256

abbrev pub AreOctets : Capture → Type 0
AreOctets capture = AllByRecursion IsOctet capture

-- of this capture a part comes to this, and then what the other side sends can't be read
pub record TurnsBad (d : Direction) (capture : Capture) (c : Course) : Type 0 where
  pub front : Capture
  pub back : Capture
  pub parts : capture ≡ front ++ back
  pub at : ℕ
  pub cause : Cause
  pub unreadable : (comes_to front).course ≡ unread (other d) at cause c
  pub bad : is_break cause ≡ true

-- What the capture comes to is what some steps of the end and the judge come to; or these are all until the other side sends what
-- can't be read, and then it goes on by other steps.
pub record ComesBySteps (d : Direction) (capture : Capture) (first : Holding) : Type 0 where
  pub steps : List Step
  pub last : Joint
  pub along : StepsAlong d (begin first) steps last
  pub all : ((comes_to capture).course ≡ last.judge) ⊎ TurnsBad d capture last.judge
  pub on : ((comes_to capture).course ≡ last.judge) ⊎ GoesOn d capture last
