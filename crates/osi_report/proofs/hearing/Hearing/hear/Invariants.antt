use Rattle.osi_report.proofs.Vocabulary.{◌++◌, ℕ, List, length}
use Rattle.osi_report.specs.Hearing.{IsHeard}
use Rattle.osi_report.proofs.hearing.Hearing.hear.Given as goal

-- all but the rest was heard
abbrev pub invariant-text : goal.invariant-text
invariant-text l = (whole more : List ℕ) → IsHeard l.fn.self whole (l.text ++ more) → IsHeard l.self whole (l.rest ++ more)

abbrev pub decreases-text : goal.decreases-text
decreases-text l = length l.rest
