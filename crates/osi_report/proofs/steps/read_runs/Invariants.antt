use Rattle.osi_report.proofs.Vocabulary.{length}
use Rattle.osi_report.specs.Passing.{EndsWith, PassesTo}
use Rattle.osi_report.proofs.steps.read_runs.Given as goal

-- what passes of the octets that were read, and then of the rest, is what passes of the text
abbrev pub invariant-blanks : goal.invariant-blanks
invariant-blanks l = record {
  passes : PassesTo l.text l.fn.octets.items l.octets.items l.rest;
  ends : EndsWith l.text l.rest;
}

abbrev pub decreases-blanks : goal.decreases-blanks
decreases-blanks l = length l.rest
