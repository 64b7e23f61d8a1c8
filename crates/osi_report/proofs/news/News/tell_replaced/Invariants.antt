use Rattle.osi_report.proofs.Vocabulary.{◌-◌, HoldsState, IsSettled, State, length}
use Rattle.osi_report.specs.News.{AddsNews}
use Rattle.osi_report.proofs.news.News.tell_replaced.Given as goal

abbrev pub invariant-connections : goal.invariant-connections
invariant-connections l = (s : State) → HoldsState l.fn.judge s → IsSettled l.fn.judge → AddsNews s l.fn.text.items l.text.items

abbrev pub decreases-connections : goal.decreases-connections
decreases-connections l = length l.fn.pasts - l.place
