-- What a hearing holds of a text.
use Rattle.std.specs.Prelude.{◌≡◌, ℕ, List, Some, None}
use Rattle.osi_side.specs.declared.directions.Direction.TheVariants.{Left}
use Rattle.osi_side.specs.Captures.{Capture, stream}
use Rattle.osi_listing.specs.declared.capture.CaptureFault.{CaptureFault}
use Rattle.osi_judge.specs.Standing.{HoldsState}
use Rattle.osi_judge.specs.States.{comes_to}
use Rattle.osi_report.specs.Openings.{Opens}
use Rattle.osi_report.specs.Passing.{after_passed, passed_from, start}
use Rattle.osi_report.specs.declared.hearing.Hearing.{Hearing}

-- Of a whole text it has heard all but this rest: the octets that passed, and those that the rest gives from here on, are those of
-- the text, and the judge holds what passed.
pub record IsHeard (h : Hearing) (whole rest : List ℕ) : Type 0 where
  pub capture : Capture
  pub passed : passed_from start whole ≡ after_passed capture (passed_from h.place rest)
  pub holds : HoldsState h.judge (comes_to capture)
  pub opens : Opens h.opening (stream Left capture)
  pub sound : h.fault ≡ None

-- it has failed
abbrev pub Fails : Hearing → CaptureFault → Type 0
Fails h fault = h.fault ≡ Some fault
