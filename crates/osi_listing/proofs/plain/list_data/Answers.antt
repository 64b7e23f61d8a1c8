use Rattle.osi_listing.proofs.the_lines_of_frequent_tsdus.{data_says}
use Rattle.osi_listing.proofs.plain.list_data.Goals as goal

pub returns : goal.returns
returns c =
    data_says c.args.text.now.items c.push_last_field.new.text.items c.args.tsdu.now c.args.user_data.now c.args.counts.now
    c.add_session_unit.new.self c.add_session_unit-2.new.self c.what_is_sent_is_read.ensures.read c.requires
    c.in_ok-push_last_field.ensures c.add_session_unit.ensures c.add_session_unit-2.ensures
