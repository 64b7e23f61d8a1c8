-- What a judge for C was fed.
use Rattle.osi_side.specs.Captures.{Capture, stream}
use Rattle.osi_side.specs.declared.directions.Direction.TheVariants.{Left}
use Rattle.osi_judge.specs.declared.rooms.Room.TheVariants.{Octets}
use Rattle.osi_judge.specs.Standing.{HoldsState}
use Rattle.osi_judge.specs.States.{State, begin_within, after}
use Rattle.osi_report.specs.Openings.{Opens}
use Rattle.osi_c.specs.declared.judges.HeldJudge.{HeldJudge}

-- what a capture comes to, if of each connection 3,145,728 octets may be kept
abbrev pub fed : Capture → State
fed capture = after capture (begin_within (Octets 3145728))

-- it was fed this capture
pub record WasFed (w : HeldJudge) (capture : Capture) : Type 0 where
  pub holds : HoldsState w.judge (fed capture)
  pub opens : Opens w.opening (stream Left capture)
