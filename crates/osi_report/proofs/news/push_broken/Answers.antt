use Rattle.osi_report.proofs.what_is_told_is_of_the_report.{broken_news}
use Rattle.osi_report.proofs.news.push_broken.Goals as goal

pub returns : goal.returns
returns c = λ s h k.
    broken_news s c.args.direction c.broke.result c.args.text.now.items c.push_marks.new.text.items (c.broke.ensures s h k.judged)
    c.in_ok-push_marks.ensures
