-- What is told of the session of a side is by what passed on its connection: for the functions that tell it, and for what is kept of
-- a connection that is over.
use Rattle.osi_judge.proofs.Vocabulary.{◌≡◌, ℕ, arith, Direction, Connection}
use Rattle.osi_judge.proofs.Vocabulary.{Joined, spoken, line_in, HoldsJoined, IsHeard, IsPlace, IsOutcomeOf, SaysSo}
use Rattle.osi_judge.proofs.Vocabulary.{violation_of}
use Rattle.osi_side.specs.declared.findings.Finding.TheVariants as finding
use Rattle.osi_judge.specs.declared.outcomes.Outcome.{Outcome}
use Rattle.osi_judge.specs.declared.outcomes.Outcome.TheVariants as outcome
use Rattle.osi_judge.specs.declared.outcomes.Violation.{Violation}
use Rattle.osi_judge.proofs.the_session_of_a_side_is_known.{session_at}

pub broke_says : (d : Direction) (c : Connection) (j : Joined) (i o : ℕ) (b : Violation) → (line_in d c).side.finding ≡ finding.Broke i
    → IsPlace (line_in d c).side.finding (spoken d j).said o → b ≡ violation_of (line_in d c).side.by
    → SaysSo d j (line_in d c).side (outcome.Broke o b)
broke_says d c j i o b k place e = grind arith

pub left_says : (d : Direction) (c : Connection) (j : Joined) (i o : ℕ) (b : Violation) → (line_in d c).side.finding ≡ finding.Left i
    → IsPlace (line_in d c).side.finding (spoken d j).said o → b ≡ violation_of (line_in d c).side.by
    → SaysSo d j (line_in d c).side (outcome.Left o b)
left_says d c j i o b k place e = grind arith

-- ---- once each session has heard all

pub outcome_at : (d : Direction) (c : Connection) (j : Joined) (o : Outcome) → HoldsJoined c j → IsHeard c
    → SaysSo d j (line_in d c).side o → IsOutcomeOf d j o
outcome_at d c j o h k says = record { session = (line_in d c).side; is_session = session_at d c j h k; says = says }
