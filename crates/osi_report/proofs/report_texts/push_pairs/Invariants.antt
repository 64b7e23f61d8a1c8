use Rattle.osi_report.proofs.Vocabulary.{◌≤◌, ◌-◌, HoldsState, IsSettled, State, AddsPairs}
use Rattle.osi_report.proofs.report_texts.push_pairs.Given as goal

abbrev pub invariant-connections : goal.invariant-connections
invariant-connections l = ((s : State) → HoldsState l.fn.judge s → IsSettled l.fn.judge
    → AddsPairs l.fn.is_judged s.course.sessions l.number l.fn.text.items l.text.items l.all) × (l.number ≤ l.count)

abbrev pub decreases-connections : goal.decreases-connections
decreases-connections l = l.count - l.number
