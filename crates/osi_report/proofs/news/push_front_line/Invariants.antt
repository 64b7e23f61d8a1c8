use Rattle.osi_report.proofs.Vocabulary.{◌≡◌, ◌++◌, length}
use Rattle.osi_report.specs.News.{front_line}
use Rattle.osi_report.proofs.news.push_front_line.Given as goal

abbrev pub invariant-line : goal.invariant-line
invariant-line l = l.text.items ++ front_line l.rest ≡ l.fn.text.items ++ front_line l.fn.lines

abbrev pub decreases-line : goal.decreases-line
decreases-line l = length l.rest
