use Rattle.std.proofs.Common.{refl, codes}
use Rattle.osi_report.specs.Lines.{place_text, outside_text, leaves_line}
use Rattle.osi_report.proofs.text_added_in_two_parts_is_added_whole.{on_ok_more}
use Rattle.osi_report.proofs.lines.push_leaves.Goals as goal

pub returns : goal.returns
unfolding leaves_line
returns c =
    on_ok_more c.push_outside.result c.push_outside.new.text.items c.push_place.new.text.items c.args.text.now.items
    (place_text c.args.direction c.args.reference (codes " leaves packet ") c.args.offset) (outside_text c.args.by.now)
    (leaves_line c.args.direction c.args.reference c.args.offset c.args.by.now) c.in_ok-push_place.ensures refl c.push_outside.ensures
