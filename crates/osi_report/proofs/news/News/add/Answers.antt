use Rattle.osi_report.proofs.what_is_told_is_of_the_report.{more_news}
use Rattle.osi_report.proofs.news.News.add.Goals as goal

pub returns : goal.returns
returns c = λ s h k.
    let old = c.args.text.now.items in
    let two = more_news s old c.tell_first.new.text.items c.tell_transport.new.text.items (c.in_ok-tell_first.ensures s h k)
    (c.in_ok-tell_transport.ensures s h k) in
    let three = more_news s old c.tell_transport.new.text.items c.tell_placed.new.text.items two (c.in_ok-tell_placed.ensures s h k) in
    more_news s old c.tell_placed.new.text.items c.tell_replaced.new.text.items three (c.in_ok-tell_replaced.ensures s h k)
