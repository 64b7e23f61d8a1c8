use Rattle.osi_report.proofs.what_is_told_is_of_the_report.{more_news}
use Rattle.osi_report.proofs.news.News.tell_transport.Goals as goal

pub returns : goal.returns
returns c = λ s h k.
    let first = c.args.text.now.items in
    let two = more_news s first c.tell.new.text.items c.tell-2.new.text.items (c.in_ok-tell.ensures s h k) (c.in_ok-tell-2.ensures s h k) in
    let three = more_news s first c.tell-2.new.text.items c.tell-3.new.text.items two (c.in_ok-tell-3.ensures s h k) in
    more_news s first c.tell-3.new.text.items c.tell-4.new.text.items three (c.in_ok-tell-4.ensures s h k)
