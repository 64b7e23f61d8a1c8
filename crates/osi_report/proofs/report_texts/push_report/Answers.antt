use Rattle.osi_report.proofs.a_report_is_added_part_by_part.{report_added}
use Rattle.osi_report.proofs.report_texts.push_report.Goals as goal

pub returns-clause-told : goal.returns-clause-told
returns-clause-told c = λ s r h k.
    let left = c.transport_of-left.ensures s h k in
    let right = c.transport_of-right.ensures s h k in
    let held = c.is_numbered.ensures s r h k c.if-not-is_numbered.false in
    report_added s c.transport_of-left.result c.transport_of-right.result c.last_of-last.result c.args.text.now.items
    c.push_read.new.text.items c.push_pairs.new.text.items c.push_transport.new.text.items c.push_last.new.text.items
    c.in_ok-all.all c.last_status.result left right
    c.in_ok-push_read.ensures (c.in_ok-all.ensures s h k) c.in_ok-push_transport.ensures
    (λ ps e o. c.last_of-last.ensures s ps held left right e o)
    c.in_ok-push_last.ensures c.last_status.ensures.value
