use Rattle.osi_report.proofs.a_report_is_added_part_by_part.{why_added}
use Rattle.osi_report.proofs.report_texts.push_why.Goals as goal

pub returns-clause-told : goal.returns-clause-told
returns-clause-told c = λ s h k left right.
    why_added s c.args.left.now c.args.right.now c.args.why.now c.args.text.now.items c.push_read.new.text.items c.push_pairs.new.text.items
    c.push_last.new.text.items c.in_ok-push_pairs.field-0 c.last_status.result left right c.in_ok-push_read.ensures
    (c.in_ok-push_pairs.ensures s h k) c.in_ok-push_last.ensures c.last_status.ensures.value
