use Rattle.osi_listing.proofs.the_lines_of_frequent_tsdus.{ack_long, ack_says}
use Rattle.osi_listing.proofs.plain.list_ack.Goals as goal

pub push_numbered-requires : goal.push_numbered-requires
push_numbered-requires c = ack_long c.args.tsdu.now c.args.number.number c.requires

pub returns : goal.returns
returns c =
    ack_says c.args.text.now.items c.push_numbered.new.text.items c.args.tsdu.now c.args.counts.now c.add_session_unit.new.self
    c.add_session_unit-2.new.self c.args.number.number c.what_is_sent_is_read.ensures.read c.args.number.small c.requires
    c.in_ok-push_numbered.ensures c.add_session_unit.ensures c.add_session_unit-2.ensures
