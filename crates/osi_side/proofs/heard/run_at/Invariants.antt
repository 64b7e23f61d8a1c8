use Rattle.osi_side.proofs.Vocabulary.{◌<◌, ◌≤◌, ◌-◌, length, begin_at}
use Rattle.osi_side.proofs.heard.run_at.Given as goal

-- the place lies behind the beginning of one run and before that of the other
abbrev pub invariant-halves : goal.invariant-halves
invariant-halves l = (l.low < l.high) × (l.high ≤ length l.runs) × (begin_at l.runs l.count l.low ≤ l.place)
    × (l.place < begin_at l.runs l.count l.high)

abbrev pub decreases-halves : goal.decreases-halves
decreases-halves l = l.high - l.low
